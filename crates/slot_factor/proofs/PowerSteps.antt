-- Steps of the loops over powers of X.
use Rattle.std.proofs.Common.{◌≡◌, ℕ, zero, suc, ◌+◌, ◌-◌, ◌*◌, ◌%◌, ◌^◌, ◌<◌, ◌≤◌, ◌⊎◌, inl, inr, Bool, true, false, eqb, eqb-true, eq-eqb, List, [], ◌∷◌, ◌++◌, length, get_or, take, drop, refl, sym, ap, ap₂, subst, ◌∙◌, arith}
use Rattle.std.specs.List.{All}
use Rattle.std.proofs.Math.Nat.{mod-eq_of_lt, mod-lt, mul-le-mul}
use Rattle.std.proofs.Math.Numerals.{add-one}
use Rattle.std.proofs.lemmas.Bool.{cases_lt}
use Rattle.std.proofs.lemmas.List.{length-map, length-append, length-drop, get_or-map, take_all, take-append-le, drop_at, drop-append-le}
use Rattle.std.proofs.lemmas.Grind.{get_or_default_zero}
use mathlib.Core.Path.{fun_ext}
use Rattle.algebra.specs.Ring.{residues}
use Rattle.algebra.specs.Power.{power}
use Rattle.algebra.specs.Range.{total, adds, counts}
use Rattle.algebra.specs.Poly.{scaled}
use Rattle.algebra.specs.Divisor.{HasInverse}
use Rattle.algebra.proofs.Chinese.{inverse_of_residue}
use Rattle.algebra.proofs.Lists.{same_list}
use Rattle.hyper_cube.specs.Checks.{least}
use Rattle.hyper_cube.proofs.Least.{least_is, least_none}
use Rattle.ext_field.specs.Element.{Extension, IsMonicFactor, IsElement, elements, eta, eta_power, degree}
use Rattle.ext_field.proofs.CombinationSteps.{small_at}
use Rattle.ext_field.proofs.Rows.{element_from, element_long, element_below}
use Rattle.slot_laws.specs.Slots.{inverse_modulo}
use Rattle.slot_laws.proofs.DecodeSums.{eta_power_is, eta_power_in, total_coefficient, total_mod}
use Rattle.slot_laws.proofs.Places.{inverse_only}
use Rattle.slot_laws.proofs.WholeValue.{laws, p_positive}
use Rattle.slot_factor.specs.Tables.{ArePowers, value_of}
use Rattle.slot_factor.proofs.RowSteps.{product_small}

-- ---- inverses
pub unequal : (x y : ℕ) (b : Bool) → eqb x y ≡ b → (x ≡ y → ⊥) → eqb x y ≡ false
unequal x y true e n = absurd (n (eqb-true x y e))
unequal x y false e n = e

pub inverse_found : (n a u : ℕ) → 2 ≤ n → u < n → (a * u) % n ≡ 1 → u ≡ inverse_modulo n a
unfolding inverse_modulo least
inverse_found n a u low l e = sym (least_is n (λ u. eqb ((a * u) % n) (1 % n)) u l (eq-eqb ((a * u) % n) (1 % n) one) (λ v s. unequal ((a * v) % n) (1 % n) (eqb ((a * v) % n) (1 % n)) refl (λ h. omega (arith, s, inverse_only n a u v l (omega (arith, s, l)) one h))))
  where
    one : (a * u) % n ≡ 1 % n
    one = e ∙ sym (mod-eq_of_lt (omega (arith, low)))

pub inverse_none : (n a : ℕ) → 2 ≤ n → (HasInverse n a → ⊥) → n ≡ inverse_modulo n a
unfolding inverse_modulo least
inverse_none n a low none = sym (least_none n (λ u. eqb ((a * u) % n) (1 % n)) (λ v k. unequal ((a * v) % n) (1 % n) (eqb ((a * v) % n) (1 % n)) refl (λ e. none (inverse_of_residue n a v (omega (arith, low)) (e ∙ mod-eq_of_lt (omega (arith, low)))))))

-- ---- the table of powers
-- a row of the table
pub row_is : (f : Extension) (m k n : ℕ) (xs : List ℕ) → ArePowers f m xs → k < m → n ≡ degree f → take (k * n + n - k * n) (drop (k * n) xs) ≡ eta_power f k
row_is f m k n xs A l n_is = ap (λ z. take z (drop (k * n) xs)) (whole (k * n)) ∙ ap (λ z. take z (drop (k * z) xs)) n_is ∙ A.at k l
  where
    whole : (y : ℕ) → y + n - y ≡ n
    whole y = omega arith

-- a row is within the table
row_within : (m k d : ℕ) → k < m → k * d + d ≤ m * d
row_within m k d l = omega (arith, mul-le-mul (let a : k + 1 ≤ m = omega (arith, l) in a) (let b : d ≤ d = omega arith in b))

pub next_power : (f : Extension) (i : ℕ) (x r n : List ℕ) → n ≡ (elements f).mul r x → r ≡ eta f → x ≡ power (elements f) (eta f) i → n ≡ power (elements f) (eta f) (i + 1)
next_power f i x r n n_is r_is x_is = n_is ∙ ap₂ (elements f).mul r_is x_is ∙ ap (power (elements f) (eta f)) (sym (add-one i))

pub scaled_at : (p : ℕ) → 0 < p → (r : ℕ) (y : List ℕ) (j : ℕ) → get_or (scaled (residues p) r y) j 0 ≡ (r * get_or y j 0) % p
scaled_at p l r [] j = sym (ap (λ z. z % p) (none r) ∙ mod-eq_of_lt l)
  where
    none : (r : ℕ) → r * 0 ≡ 0
    none r = omega arith
scaled_at p l r (x ∷ y) zero = refl
scaled_at p l r (x ∷ y) (suc j) = scaled_at p l r y j

module _ (f : Extension) (M : IsMonicFactor f) where
  pub power_long : (k : ℕ) (x : List ℕ) → x ≡ eta_power f k → length x ≡ degree f
  power_long k x x_is = element_long f x (subst (IsElement f) (sym x_is) (eta_power_in f M k))

  pub powers_more : (i : ℕ) (x xs ys : List ℕ) → ArePowers f i xs → x ≡ power (elements f) (eta f) i → ys ≡ xs ++ x → ArePowers f (i + 1) ys
  powers_more i x xs ys A x_is ys_is = subst (ArePowers f (i + 1)) (sym ys_is) (record { long = omega (arith, A.long, length-append xs x, x_long); at = λ k l. at k (cases_lt k i) l })
    where
      d : ℕ
      d = degree f

      x_power : x ≡ eta_power f i
      x_power = x_is ∙ sym (eta_power_is f M i)

      x_long : length x ≡ degree f
      x_long = power_long i x x_power

      at : (k : ℕ) → (k < i) ⊎ (i ≤ k) → k < i + 1 → take (degree f) (drop (k * degree f) (xs ++ x)) ≡ eta_power f k
      at k (inl s) l = ap (take (degree f)) (drop-append-le (k * degree f) xs x (omega (arith, A.long, row_within i k (degree f) s))) ∙ take-append-le (degree f) (drop (k * degree f) xs) x (omega (arith, A.long, row_within i k (degree f) s, length-drop (k * degree f) xs)) ∙ A.at k s
      at k (inr s) l = ap (take (degree f)) (drop_at xs x (k * degree f) (A.long ∙ ap (λ z. z * degree f) same)) ∙ take_all (degree f) x (omega (arith, x_long)) ∙ x_power ∙ ap (eta_power f) same
        where
          same : i ≡ k
          same = omega (arith, s, l)

  -- the words of the table are small
  pub power_below : (k : ℕ) (x : List ℕ) → x ≡ eta_power f k → All (λ c. c < 2 ^ 17) x
  power_below k x x_is j d l = omega (arith, M.p_high, element_below f x (subst (IsElement f) (sym x_is) (eta_power_in f M k)) j d l)

  -- the sums stay small
  pub sums_room : (sums : List ℕ) (i : ℕ) → i ≤ 65536 → ((j : ℕ) → get_or sums j 0 ≤ i * 2 ^ 34) → All (λ s. s < 2 ^ 62) sums
  sums_room sums i few small j d l = omega (arith, few, small j, get_or_default_zero sums j d l)

  pub terms_small : (a : List ℕ) (i d k : ℕ) (row old new : List ℕ) → All (λ v. v < f.p) a → i < length a → row ≡ eta_power f k → ((j : ℕ) → get_or new j 0 ≡ get_or old j 0 + get_or a i d * get_or row j 0) → ((j : ℕ) → get_or old j 0 ≤ i * 2 ^ 34) → (j : ℕ) → get_or new j 0 ≤ (i + 1) * 2 ^ 34
  terms_small a i d k row old new ha l row_is step small j = omega (arith, step j, small j, product_small f.p (get_or a i d) (get_or row j 0) M.p_high (ha i d l) (small_at f.p row (p_positive f M) (element_below f row (subst (IsElement f) (sym row_is) (eta_power_in f M k))) j))

  -- one more term in each sum
  pub terms_more : (m t : ℕ) (a : List ℕ) (i d : ℕ) (row old new : List ℕ) → i < length a → row ≡ eta_power f ((i * t) % m) → ((j : ℕ) → get_or new j 0 ≡ get_or old j 0 + get_or a i d * get_or row j 0)
      → ((j : ℕ) → get_or old j 0 ≡ total counts i (λ i. get_or a i 0 * get_or (eta_power f ((i * t) % m)) j 0))
      → (j : ℕ) → get_or new j 0 ≡ total counts (i + 1) (λ i. get_or a i 0 * get_or (eta_power f ((i * t) % m)) j 0)
  terms_more m t a i d row old new l row_is step sums j =
      step j
      ∙ ap₂ (λ y z. y + z) (sums j) (ap₂ (λ y z. y * get_or z j 0) (get_or_default_zero a i d l) row_is)
      ∙ ap (λ n. total counts n (λ i. get_or a i 0 * get_or (eta_power f ((i * t) % m)) j 0)) (sym (add-one i))

  pub scaled_in : (r : ℕ) (y : List ℕ) → IsElement f y → IsElement f (scaled (residues f.p) r y)
  scaled_in r y h = element_from f (scaled (residues f.p) r y) (length-map y ((residues f.p).mul r) ∙ element_long f y h) (λ k d l. subst (λ z. z < f.p) (sym (get_or-map ((residues f.p).mul r) y k 0 d (omega (arith, l, length-map y ((residues f.p).mul r))))) (mod-lt (r * get_or y k 0) (p_positive f M)))

  total_in : (n : ℕ) (g : ℕ → List ℕ) → ((i : ℕ) → IsElement f (g i)) → IsElement f (total (adds (elements f)) n g)
  total_in zero g k = (laws f M).zero_held
  total_in (suc n) g k = (laws f M).add_held (total (adds (elements f)) n g) (g n) (total_in n g k) (k n)

  pub value_in : (m t : ℕ) (a : List ℕ) → IsElement f (value_of f m t a)
  value_in m t a = total_in (length a) (λ i. scaled (residues f.p) (get_or a i 0) (eta_power f ((i * t) % m))) (λ i. scaled_in (get_or a i 0) (eta_power f ((i * t) % m)) (eta_power_in f M ((i * t) % m)))

  pub value_is : (m t : ℕ) (a sums xs ys v : List ℕ) (p : ℕ) → ((j : ℕ) → get_or sums j 0 ≡ total counts (length a) (λ i. get_or a i 0 * get_or (eta_power f ((i * t) % m)) j 0)) → ((j : ℕ) → get_or xs j 0 ≡ get_or sums j 0 % p) → p ≡ f.p → length xs ≡ degree f → v ≡ ys → ys ≡ xs → v ≡ value_of f m t a
  value_is m t a sums xs ys v p S R p_is long v_is ys_is = v_is ∙ ys_is ∙ same_list (residues f.p) xs (value_of f m t a) (long ∙ sym (element_long f (value_of f m t a) (value_in m t a))) at
    where
      at : (j : ℕ) → get_or xs j 0 ≡ get_or (value_of f m t a) j 0
      at j = R j ∙ ap₂ (λ y z. y % z) (S j) p_is ∙ sym (
          total_coefficient f M (length a) (λ i. scaled (residues f.p) (get_or a i 0) (eta_power f ((i * t) % m))) (λ i. scaled_in (get_or a i 0) (eta_power f ((i * t) % m)) (eta_power_in f M ((i * t) % m))) j
          ∙ ap (λ g. total counts (length a) g % f.p) (fun_ext (λ i. scaled_at f.p (p_positive f M) (get_or a i 0) (eta_power f ((i * t) % m)) j))
          ∙ total_mod f.p (length a) (λ i. get_or a i 0 * get_or (eta_power f ((i * t) % m)) j 0))
