-- From what code holds to the map that takes X to X^p, and to traces.
use Rattle.std.proofs.Common.{◌≡◌, ◌↔◌, ℕ, suc, ◌+◌, ◌-◌, ◌*◌, ◌<◌, ◌≤◌, IsTrue, List, [], ◌∷◌, ◌++◌, map, length, get_or, take, drop, ap, ap₂, sym, ◌∙◌, subst, arith}
use Rattle.std.specs.List.{All}
use Rattle.std.proofs.lemmas.List.{map-id, map-append, length-map, length-take, length-drop, get_or-map, get_or-take, get_or-drop, get_or_default}
use Rattle.std.proofs.lemmas.List.Elements.{All-push}
use Rattle.std.proofs.lemmas.Slice.Eq.{bytes_eq-Decides}
use Rattle.algebra.specs.Power.{power}
use Rattle.algebra.specs.Poly.{sum, value_at}
use Rattle.algebra.specs.Whole.{below}
use Rattle.algebra.proofs.HeldPowers.{held_power}
use Rattle.algebra.proofs.Sums.{length-below, get_or-below}
use Rattle.ext_field.specs.Combination.{combination}
use Rattle.ext_field.specs.Element.{Extension, IsExtension, IsFrobenius, IsElement, degree, elements, eta, eta_power, number, frob, frob_times, trace}
use Rattle.ext_field.specs.Laws.{element_laws}
use Rattle.ext_field.specs.Checks.{frobenius_holds}
use Rattle.ext_field.proofs.FrobeniusMap.{eta_power_element}
use Rattle.ext_field.proofs.Linear.{eta_power_is, frob_total, trace_product}
use Rattle.ext_field.proofs.Rows.{element_long, element_below}

-- the test and what it says
pub frobenius_test : (f : Extension) → IsTrue (frobenius_holds f) ↔ IsFrobenius f
unfolding frobenius_holds IsFrobenius
frobenius_test f = bytes_eq-Decides (value_at (elements f) (power (elements f) (eta f) f.p) (map (number f) f.factor)) (elements f).zero

-- one more of the values of a function
pub one_value_more : (h : ℕ → List ℕ) (i : ℕ) (x : List ℕ) (xs ys : List (List ℕ)) → x ≡ h i → xs ≡ map h (below i) → ys ≡ xs ++ x ∷ [] → ys ≡ map h (below (i + 1))
one_value_more h i x xs ys x_is xs_is ys_is = ys_is ∙ ap₂ (λ l y. l ++ y ∷ []) xs_is x_is ∙ sym (map-append h (below i) (i ∷ [])) ∙ ap (λ n. map h (below n)) e
  where
    e : suc i ≡ i + 1
    e = omega arith

pub power_more : (f : Extension) (x y z : List ℕ) (i : ℕ) → z ≡ (elements f).mul x y → y ≡ power (elements f) x i → z ≡ power (elements f) x (i + 1)
power_more f x y z i z_is y_is = z_is ∙ ap ((elements f).mul x) y_is ∙ ap (power (elements f) x) e
  where
    e : suc i ≡ i + 1
    e = omega arith

-- value i of the list
pub get_or-values : (h : ℕ → List ℕ) (n : ℕ) (xs : List (List ℕ)) → xs ≡ map h (below n) → (i : ℕ) → i < n → get_or xs i [] ≡ h i
get_or-values h n xs e i l = ap (λ z. get_or z i []) e ∙ get_or-map h (below n) i 0 [] (omega (arith, length-below n, l)) ∙ ap h (get_or-below n i 0 l)

pub length-values : (h : ℕ → List ℕ) (n : ℕ) (xs : List (List ℕ)) → xs ≡ map h (below n) → length xs ≡ n
length-values h n xs e = ap length e ∙ length-map (below n) h ∙ length-below n

-- the powers of X^p
module _ (b f : Extension) (b_is : b ≡ f) (Ex : IsExtension b) (images rows : List (List ℕ)) (images_are : images ≡ map (power (elements b) (power (elements b) (eta b) b.p)) (below (degree b))) (rows_is : rows ≡ images) where
  pub images_long : length rows ≡ degree b
  images_long = ap length rows_is ∙ length-values (power (elements b) (power (elements b) (eta b) b.p)) (degree b) images images_are

  pub images_in : All (λ a. IsElement b a) rows
  images_in k d l = subst (IsElement b) (sym (get_or_default rows k d [] l ∙ ap (λ z. get_or z k []) rows_is ∙ get_or-values (power (elements b) (power (elements b) (eta b) b.p)) (degree b) images images_are k (omega (arith, l, images_long)))) (held_power (element_laws b Ex.factor) (power (elements b) (eta b) b.p) (eta_power_element b Ex.factor b.p) k)

  module _ (a v xs ys : List ℕ) (h : IsElement f a) (a_is : map (λ c. c) xs ≡ a) (ys_is : ys ≡ xs) where
    own : ys ≡ a
    own = ys_is ∙ sym (map-id xs) ∙ a_is

    inside : IsElement b a
    inside = subst (λ g. IsElement g a) (sym b_is) h

    pub factors_long : length ys ≡ degree b
    factors_long = ap length own ∙ element_long b a inside

    pub factors_in : All (λ c. c < b.p) ys
    factors_in = subst (All (λ c. c < b.p)) (sym own) (element_below b a inside)

    pub image_is : v ≡ combination b ys rows → v ≡ frob f a
    image_is v_is = v_is ∙ ap (λ z. combination b z rows) own ∙ sym (frob_total b Ex a inside rows (λ j l. ap (λ z. get_or z j []) rows_is ∙ get_or-values (power (elements b) (power (elements b) (eta b) b.p)) (degree b) images images_are j (omega (arith, l, element_long b a inside)))) ∙ ap (λ g. frob g a) b_is

-- the traces of powers of X
module _ (b f : Extension) (b_is : b ≡ f) (Ex : IsExtension b) (theta : List ℕ) (h : IsElement f theta) (k n : ℕ) (traces rows : List (List ℕ)) (traces_are : traces ≡ map (λ k. trace f (eta_power f k)) (below n)) (n_is : n ≡ 2 * degree f - 1) (k_in : k < degree f) (traces_in : All (λ a. IsElement f a) traces) (rows_is : rows ≡ take (length traces - k) (drop k traces)) where
  traces_long : length traces ≡ 2 * degree f - 1
  traces_long = length-values (λ k. trace f (eta_power f k)) n traces traces_are ∙ n_is

  theta_long : length theta ≡ degree f
  theta_long = element_long f theta h

  rows_count : length rows ≡ 2 * degree f - 1 - k
  rows_count = ap length rows_is ∙ omega (arith, length-take (length traces - k) (drop k traces), length-drop k traces, traces_long)

  pub rows_long : (ys : List ℕ) → ys ≡ theta → length ys ≤ length rows
  rows_long ys ys_is = omega (arith, rows_count, theta_long, ap length ys_is, k_in)

  row_at : (j : ℕ) (d : List ℕ) → j < 2 * degree f - 1 - k → get_or rows j d ≡ get_or traces (k + j) d
  row_at j d l = ap (λ z. get_or z j d) rows_is ∙ get_or-take (length traces - k) (drop k traces) j d (omega (arith, traces_long, l)) ∙ get_or-drop k traces j d

  pub rows_in : All (λ a. IsElement b a) rows
  rows_in j d l = subst (λ g. IsElement g (get_or rows j d)) (sym b_is) (subst (IsElement f) (sym (row_at j d (omega (arith, l, rows_count)))) (traces_in (k + j) d (omega (arith, l, rows_count, traces_long))))

  pub pairing_is : (ys v : List ℕ) → ys ≡ theta → v ≡ combination b ys rows → v ≡ trace f ((elements f).mul theta (eta_power f k))
  pairing_is ys v ys_is v_is = v_is ∙ ap₂ (λ g z. combination g z rows) b_is ys_is ∙ sym (trace_product f (subst IsExtension b_is Ex) theta h k rows (λ j l. row_at j [] (omega (arith, l, theta_long, k_in)) ∙ get_or-values (λ k. trace f (eta_power f k)) n traces traces_are (k + j) (omega (arith, l, theta_long, k_in, n_is)) ∙ ap (λ i. trace f (eta_power f i)) (let e : k + j ≡ j + k = omega arith in e)))

-- one more trace
pub trace_more : (b f : Extension) → b ≡ f → IsExtension b → (i : ℕ) (x t : List ℕ) → x ≡ power (elements f) (eta f) i → t ≡ trace f x → t ≡ trace f (eta_power f i)
trace_more b f b_is Ex i x t x_is t_is = t_is ∙ ap (trace f) (x_is ∙ sym (eta_power_is f (subst IsExtension b_is Ex).factor i))

pub root_more : (b f : Extension) → b ≡ f → (r x z : List ℕ) (i : ℕ) → r ≡ eta b → z ≡ (elements b).mul r x → x ≡ power (elements f) (eta f) i → z ≡ power (elements f) (eta f) (i + 1)
root_more b f b_is r x z i r_is z_is x_is = power_more f (eta f) x z i (z_is ∙ ap₂ (λ g y. (elements g).mul y x) b_is (r_is ∙ ap eta b_is)) x_is

pub one_first : (b f : Extension) → b ≡ f → (x : List ℕ) → x ≡ (elements b).one → x ≡ power (elements f) (eta f) 0
one_first b f b_is x x_is = x_is ∙ ap (λ g. (elements g).one) b_is

module _ (f : Extension) (a : List ℕ) where
  pub next_image : (i : ℕ) (x r : List ℕ) → x ≡ frob_times f i a → r ≡ frob f x → r ≡ frob_times f (i + 1) a
  unfolding frob_times
  next_image i x r x_is r_is = r_is ∙ ap (frob f) x_is ∙ ap (λ n. frob_times f n a) e
    where
      e : suc i ≡ i + 1
      e = omega arith

  pub no_image : (x : List ℕ) → x ≡ a → x ≡ frob_times f 0 a
  unfolding frob_times
  no_image x x_is = x_is

  -- the images of a
  abbrev pub images : ℕ → List (List ℕ)
  images n = map (λ j. frob_times f j a) (below n)

  pub one_image_more : (i : ℕ) (x : List ℕ) (xs ys : List (List ℕ)) → x ≡ frob_times f i a → xs ≡ images i → ys ≡ xs ++ x ∷ [] → ys ≡ images (i + 1)
  one_image_more i x xs ys x_is xs_is ys_is = ys_is ∙ ap₂ (λ l y. l ++ y ∷ []) xs_is x_is ∙ sym (map-append (λ j. frob_times f j a) (below i) (i ∷ [])) ∙ ap images e
    where
      e : suc i ≡ i + 1
      e = omega arith

  pub trace_is : (b : Extension) → b ≡ f → (xs ys : List (List ℕ)) (v : List ℕ) → xs ≡ images (degree f) → ys ≡ xs → v ≡ sum (elements b) (map (λ c. c) ys) → v ≡ trace f a
  unfolding trace
  trace_is b b_is xs ys v xs_is ys_is v_is = v_is ∙ ap₂ (λ g l. sum (elements g) l) b_is (map-id ys ∙ ys_is ∙ xs_is)

pub all_more : (f : Extension) (x : List ℕ) (xs ys : List (List ℕ)) → All (λ a. IsElement f a) xs → IsElement f x → ys ≡ xs ++ x ∷ [] → All (λ a. IsElement f a) ys
all_more f x xs ys h hx ys_is = subst (All (λ a. IsElement f a)) (sym ys_is) (All-push (λ a. IsElement f a) xs x h hx)

-- what a copy keeps
pub images_kept : (b f : Extension) (xs ys : List (List ℕ)) → b ≡ f → ys ≡ xs → IsExtension f → xs ≡ map (power (elements f) (power (elements f) (eta f) f.p)) (below (degree f)) → IsExtension b × (ys ≡ map (power (elements b) (power (elements b) (eta b) b.p)) (below (degree b)))
images_kept b f xs ys b_is ys_is Ex xs_are = (subst IsExtension (sym b_is) Ex, ys_is ∙ xs_are ∙ ap (λ g. map (power (elements g) (power (elements g) (eta g) g.p)) (below (degree g))) (sym b_is))
