-- The map that takes X to X^p, and the trace, are linear over the numbers: of a combination of powers of X they are the
-- combination of theirs.
use Rattle.std.specs.Prelude.{◌≡◌, ℕ, zero, suc, ◌+◌, ◌-◌, ◌*◌, ◌%◌, ◌<◌, ◌≤◌, ◌⊎◌, true, IsTrue, List, [], ◌∷◌, map, length, get_or, replicate, refl}
use Rattle.std.specs.List.{All}
use Rattle.std.proofs.Common.{sym, ◌∙◌, ap, ap₂, subst, inl, inr, lit<, arith, mod-eq_of_lt}
use Rattle.std.proofs.lemmas.Bool.{cases_lt, lt-ltb, and_from}
use Rattle.std.proofs.lemmas.List.{length-map, get_or_past}
use Rattle.std.proofs.lemmas.List as lists
use Rattle.std.proofs.lemmas.Simd.{map-map}
use Rattle.std.proofs.Math.ListN.{get_or-map}
use Rattle.std.proofs.Math.Nat.{mod-add-mod, add-mod-mod, mod-lt}
use mathlib.Core.Path.{fun_ext}
use Rattle.algebra.specs.Ring.{CommRing, residues}
use Rattle.algebra.specs.Power.{power}
use Rattle.algebra.specs.Range.{Monoid, total, adds, counts}
use Rattle.algebra.specs.Poly.{all_held, coeff, scaled, sum, value_at, remainder}
use Rattle.algebra.specs.Whole.{below}
use Rattle.algebra.proofs.Held.{same_held, held_ring}
use Rattle.algebra.proofs.HeldLists.{values, values-lifted, lifted, held_preserves}
use Rattle.algebra.proofs.HeldQuotients.{held_coeff-plus}
use Rattle.algebra.proofs.HeldRemainders.{held_remainder_small}
use Rattle.algebra.proofs.Homs.{keeps_power, keeps_adds}
use Rattle.algebra.proofs.Lists.{same_list}
use Rattle.algebra.proofs.Maps.{map_coeff, map_sum, map_value_at}
use Rattle.algebra.proofs.Powers.{power-add}
use Rattle.algebra.proofs.Ranges.{add_laws, total-op, total_units, total-mul, mul-total}
use Rattle.algebra.proofs.Sums.{sum_below}
use Rattle.algebra.proofs.Values as plain
use Rattle.mod_ring.specs.Laws.{word_laws}
use Rattle.ext_field.specs.Element.{Extension, IsMonicFactor, IsExtension, IsElement, is_element, degree, elements, eta, eta_power, number, frob, frob_times, trace}
use Rattle.ext_field.specs.Combination.{combination}
use Rattle.ext_field.specs.Laws.{factor_held, factor_monic, element_laws}
use Rattle.ext_field.proofs.Rows.{element_from, element_held, element_long, element_below}
use Rattle.ext_field.proofs.Substitution.{shifted_is}
use Rattle.ext_field.proofs.Frobenius.{frob_is}
use Rattle.ext_field.proofs.ElementValues.{at, word_held, number_element, number_zero, at-scaled}
use Rattle.ext_field.proofs.FrobeniusMap.{at_first_power, powered, eta_element, eta_power_element, times_element, frob-add, frob-mul, frob_number, frob_zero}

nothing : (n j : ℕ) → get_or (replicate {A = ℕ} n 0) j 0 ≡ 0
nothing zero j = refl
nothing (suc n) zero = refl
nothing (suc n) (suc j) = nothing n j

scaled_at : (p : ℕ) → 0 < p → (r : ℕ) (y : List ℕ) (j : ℕ) → get_or (scaled (residues p) r y) j 0 ≡ (r * get_or y j 0) % p
scaled_at p l r [] j = sym (ap (λ z. z % p) (none r) ∙ mod-eq_of_lt l)
  where
    none : (r : ℕ) → r * 0 ≡ 0
    none r = omega arith
scaled_at p l r (x ∷ y) zero = refl
scaled_at p l r (x ∷ y) (suc j) = scaled_at p l r y j

-- the terms of a sum may be reduced
total_mod : (p n : ℕ) (g : ℕ → ℕ) → total counts n (λ i. g i % p) % p ≡ total counts n g % p
total_mod p zero g = refl
total_mod p (suc n) g = add-mod-mod (total counts n (λ i. g i % p)) (g n) p ∙ sym (mod-add-mod (total counts n (λ i. g i % p)) p (g n)) ∙ ap (λ z. (z + g n) % p) (total_mod p n g) ∙ mod-add-mod (total counts n g) p (g n)

module _ (f : Extension) (F : IsMonicFactor f) where
  p_positive : 0 < f.p
  p_positive = omega (arith, F.p_low)

  abbrev pub E : CommRing
  E = held_ring (element_laws f F)

  pub total_in : (n : ℕ) (g : ℕ → List ℕ) → ((i : ℕ) → i < n → IsElement f (g i)) → IsElement f (total (adds (elements f)) n g)
  total_in zero g k = (element_laws f F).zero_held
  total_in (suc n) g k = (element_laws f F).add_held (total (adds (elements f)) n g) (g n) (total_in n g (λ i l. k i (omega arith))) (k n (omega arith))

  -- the coefficients of a sum
  total_coefficient : (n : ℕ) (g : ℕ → List ℕ) → ((i : ℕ) → i < n → IsElement f (g i)) → (j : ℕ) → get_or (total (adds (elements f)) n g) j 0 ≡ total counts n (λ i. get_or (g i) j 0) % f.p
  unfolding remainder
  total_coefficient zero g k j = nothing (length f.factor - 1) j ∙ sym (mod-eq_of_lt p_positive)
  total_coefficient (suc n) g k j = held_coeff-plus (word_laws f.p F.p_low) (total (adds (elements f)) n g) (g n) (element_held f (total (adds (elements f)) n g) (total_in n g (λ i l. k i (omega arith)))) (element_held f (g n) (k n (omega arith))) j ∙ ap (λ z. (z + get_or (g n) j 0) % f.p) (total_coefficient n g (λ i l. k i (omega arith)) j) ∙ mod-add-mod (total counts n (λ i. get_or (g i) j 0)) f.p (get_or (g n) j 0)

  pub scaled_in : (r : ℕ) (y : List ℕ) → IsElement f y → IsElement f (scaled (residues f.p) r y)
  scaled_in r y h = element_from f (scaled (residues f.p) r y) (length-map y ((residues f.p).mul r) ∙ element_long f y h) (λ k d l. subst (λ z. z < f.p) (sym (lists.get_or-map ((residues f.p).mul r) y k 0 d (omega (arith, l, length-map y ((residues f.p).mul r))))) (mod-lt (r * get_or y k 0) p_positive))

  -- ---- combinations, place by place
  module _ (factors : List ℕ) (rows : List (List ℕ)) (long : length factors ≤ length rows) (rows_in : All (λ a. IsElement f a) rows) where
    term : ℕ → List ℕ
    term j = scaled (residues f.p) (get_or factors j 0) (get_or rows j [])

    term_in : (j : ℕ) → j < length factors → IsElement f (term j)
    unfolding term
    term_in j l = scaled_in (get_or factors j 0) (get_or rows j []) (rows_in j [] (omega arith))

    pub combination_in : IsElement f (combination f factors rows)
    unfolding term
    combination_in = total_in (length factors) term term_in

    combination_at : (j : ℕ) → get_or (combination f factors rows) j 0 ≡ total counts (length factors) (λ i. get_or factors i 0 * get_or (get_or rows i []) j 0) % f.p
    unfolding term
    combination_at j = total_coefficient (length factors) term term_in j ∙ ap (λ g. total counts (length factors) g % f.p) (fun_ext (λ i. scaled_at f.p p_positive (get_or factors i 0) (get_or rows i []) j)) ∙ total_mod f.p (length factors) (λ i. get_or factors i 0 * get_or (get_or rows i []) j 0)

    pub combination_is : (xs : List ℕ) → length xs ≡ degree f → ((j : ℕ) → get_or xs j 0 ≡ total counts (length factors) (λ i. get_or factors i 0 * get_or (get_or rows i []) j 0) % f.p) → xs ≡ combination f factors rows
    combination_is xs e h = same_list (residues f.p) xs (combination f factors rows) (e ∙ sym (element_long f (combination f factors rows) combination_in)) (λ j. h j ∙ sym (combination_at j))

  -- ---- an element as a sum of powers of X
  abbrev pub X : E.Carrier
  X = (eta f, eta_element f F)

  one_word : IsTrue (all_held (word_held f F) (1 % f.p ∷ []))
  one_word = and_from (word_held f F (1 % f.p)) true (lt-ltb (1 % f.p) f.p (mod-lt 1 p_positive)) refl

  pub eta_power_is : (n : ℕ) → eta_power f n ≡ power (elements f) (eta f) n
  eta_power_is n = shifted_is (word_laws f.p F.p_low) f.factor (factor_held f F) (factor_monic f F) n (1 % f.p ∷ []) one_word ∙ (element_laws f F).mul_comm (power (elements f) (eta f) n) (elements f).one (eta_power_element f F n) (element_laws f F).one_held ∙ (element_laws f F).one_mul (power (elements f) (eta f) n) (eta_power_element f F n)

  pub eta_power_in : (n : ℕ) → IsElement f (eta_power f n)
  eta_power_in n = subst (IsElement f) (sym (eta_power_is n)) (eta_power_element f F n)

  -- each element is its own value at X
  own : (y : List ℕ) → IsElement f y → at f F (eta f) y ≡ y
  own y h =
      ap (λ x. at f F x y) (sym ((element_laws f F).mul_comm (eta f) (elements f).one (eta_element f F) (element_laws f F).one_held ∙ (element_laws f F).one_mul (eta f) (eta_element f F)))
      ∙ sym (powered f F 1 y h (lit< tt))
      ∙ ap (remainder (residues f.p) f.factor) (at_first_power (residues f.p) y)
      ∙ held_remainder_small (word_laws f.p F.p_low) f.factor (factor_held f F) (factor_monic f F) y (element_held f y h) (element_long f y h)

  number_mul : (c : ℕ) (y : List ℕ) → c < f.p → IsElement f y → (elements f).mul (number f c) y ≡ scaled (residues f.p) c y
  number_mul c y l h = ap ((elements f).mul (number f c)) (sym (own y h)) ∙ sym (at-scaled f F (eta f) (eta_element f F) c l y (element_held f y h)) ∙ own (scaled (residues f.p) c y) (scaled_in c y h)

  module _ (a : List ℕ) (small : All (λ c. c < f.p) a) where
    pub coeff_small : (i : ℕ) → get_or a i 0 < f.p
    coeff_small i = go (cases_lt i (length a))
      where
        go : (i < length a) ⊎ (length a ≤ i) → get_or a i 0 < f.p
        go (inl l) = small i 0 l
        go (inr l) = subst (λ z. z < f.p) (sym (get_or_past a i 0 l)) p_positive

    -- coefficient i
    abbrev pub N : ℕ → E.Carrier
    N i = (number f (get_or a i 0), number_element f F (get_or a i 0) (coeff_small i))

    numbers_in : (b : List ℕ) → All (λ c. c < f.p) b → IsTrue (all_held (is_element f) (map (number f) b))
    numbers_in [] h = refl
    numbers_in (c ∷ b) h = and_from (is_element f (number f c)) (all_held (is_element f) (map (number f) b)) (number_element f F c (h 0 0 (let l : 0 < suc (length b) = omega arith in l))) (numbers_in b (λ k d l. h (suc k) d (let n : suc k < suc (length b) = omega arith in n)))

    held : List E.Carrier
    held = lifted (is_element f) (map (number f) a) (numbers_in a small)

    held_is : values (is_element f) held ≡ map (number f) a
    unfolding held
    held_is = values-lifted (is_element f) (map (number f) a) (numbers_in a small)

    coeff_is : (i : ℕ) → coeff E.ops held i ≡ N i
    coeff_is i = same_held (is_element f) (map_coeff (held_preserves (element_laws f F)) held i ∙ ap (λ l. coeff (elements f) l i) held_is ∙ ap (get_or (map (number f) a) i) (sym (number_zero f F)) ∙ get_or-map (number f) a i 0)

    -- the value at x, as a sum
    pub at_is : (x : E.Carrier) → at f F x.0 a ≡ (total (adds E.ops) (length a) (λ i. E.mul (N i) (power E.ops x i))).0
    at_is x =
        ap (value_at (elements f) x.0) (sym held_is)
        ∙ sym (map_value_at (held_preserves (element_laws f F)) x held)
        ∙ ap (λ z. z.0) (plain.value_at_is E x held ∙ ap₂ (total (adds E.ops)) (sym (length-map held (λ z. z.0)) ∙ ap length held_is ∙ length-map a (number f)) (fun_ext (λ i. ap (λ z. E.mul z (power E.ops x i)) (coeff_is i))))

    -- a sum with these factors
    pub factors_total : (g : ℕ → E.Carrier) (n : ℕ) → (total (adds E.ops) n (λ i. E.mul (N i) (g i))).0 ≡ total (adds (elements f)) n (λ i. scaled (residues f.p) (get_or a i 0) (g i).0)
    factors_total g n = keeps_adds (held_preserves (element_laws f F)) n (λ i. E.mul (N i) (g i)) ∙ ap (total (adds (elements f)) n) (fun_ext (λ i. number_mul (get_or a i 0) (g i).0 (coeff_small i) (g i).1))

total_cong : {C : Type 0} (M : Monoid C) (n : ℕ) (f g : ℕ → C) → ((i : ℕ) → i < n → f i ≡ g i) → total M n f ≡ total M n g
total_cong M zero f g h = refl
total_cong M (suc n) f g h = ap₂ M.op (total_cong M n f g (λ i l. h i (omega arith))) (h n (omega arith))

module _ (f : Extension) (Ex : IsExtension f) where
  abbrev F : IsMonicFactor f
  F = Ex.factor

  abbrev Ring : CommRing
  Ring = E f F

  -- ---- the map that takes X to X^p
  pub frob_total : (a : List ℕ) → IsElement f a → (rows : List (List ℕ)) → ((j : ℕ) → j < length a → get_or rows j [] ≡ power (elements f) (power (elements f) (eta f) f.p) j) → frob f a ≡ combination f a rows
  frob_total a h rows each =
      sym (frob_is f F a h)
      ∙ at_is f F a (element_below f a h) image
      ∙ factors_total f F a (element_below f a h) (power Ring.ops image) (length a)
      ∙ total_cong (adds (elements f)) (length a) (λ i. scaled (residues f.p) (get_or a i 0) (power Ring.ops image i).0) (λ i. scaled (residues f.p) (get_or a i 0) (get_or rows i [])) (λ i l. ap (scaled (residues f.p) (get_or a i 0)) (keeps_power (held_preserves (element_laws f F)) image i ∙ sym (each i l)))
    where
      image : Ring.Carrier
      image = (power (elements f) (eta f) f.p, eta_power_element f F f.p)

  -- ---- repeated, and summed
  times-add_elements : (t : ℕ) (a b : List ℕ) → IsElement f a → IsElement f b → frob_times f t ((elements f).add a b) ≡ (elements f).add (frob_times f t a) (frob_times f t b)
  unfolding frob_times
  times-add_elements zero a b h k = refl
  times-add_elements (suc t) a b h k = ap (frob f) (times-add_elements t a b h k) ∙ frob-add f Ex (frob_times f t a) (frob_times f t b) (times_element f F t a h) (times_element f F t b k)

  times-number : (t c : ℕ) (a : List ℕ) → c < f.p → IsElement f a → frob_times f t ((elements f).mul (number f c) a) ≡ (elements f).mul (number f c) (frob_times f t a)
  unfolding frob_times
  times-number zero c a l h = refl
  times-number (suc t) c a l h = ap (frob f) (times-number t c a l h) ∙ frob-mul f Ex (number f c) (frob_times f t a) (number_element f F c l) (times_element f F t a h) ∙ ap (λ z. (elements f).mul z (frob f (frob_times f t a))) (frob_number f Ex c l)

  times_zero : (t : ℕ) → frob_times f t (elements f).zero ≡ (elements f).zero
  unfolding frob_times
  times_zero zero = refl
  times_zero (suc t) = ap (frob f) (times_zero t) ∙ frob_zero f Ex

  image_of : ℕ → Ring.Carrier → Ring.Carrier
  image_of t a = (frob_times f t a.0, times_element f F t a.0 a.1)

  pub trace_of : Ring.Carrier → Ring.Carrier
  trace_of a = total (adds Ring.ops) (degree f) (λ t. image_of t a)

  pub trace_is_sum : (a : Ring.Carrier) → (trace_of a).0 ≡ trace f a.0
  unfolding trace trace_of image_of
  trace_is_sum a =
      ap (λ z. z.0) (sym (sum_below Ring (degree f) (λ t. image_of t a)))
      ∙ map_sum (held_preserves (element_laws f F)) (map (λ t. image_of t a) (below (degree f)))
      ∙ ap (sum (elements f)) (map-map (λ z. z.0) (λ t. image_of t a) (below (degree f)))

  trace-add : (a b : Ring.Carrier) → trace_of (Ring.add a b) ≡ Ring.add (trace_of a) (trace_of b)
  unfolding trace_of image_of
  trace-add a b = ap (total (adds Ring.ops) (degree f)) (fun_ext (λ t. same_held (is_element f) (times-add_elements t a.0 b.0 a.1 b.1))) ∙ total-op (adds Ring.ops) (add_laws Ring) (degree f) (λ t. image_of t a) (λ t. image_of t b)

  trace_zero : trace_of Ring.zero ≡ Ring.zero
  unfolding trace_of image_of
  trace_zero = total_units (adds Ring.ops) (add_laws Ring) (degree f) (λ t. image_of t Ring.zero) (λ t l. same_held (is_element f) (times_zero t))

  trace-number : (c : ℕ) (l : c < f.p) (a : Ring.Carrier) → trace_of (Ring.mul (number f c, number_element f F c l) a) ≡ Ring.mul (number f c, number_element f F c l) (trace_of a)
  unfolding trace_of image_of
  trace-number c l a = ap (total (adds Ring.ops) (degree f)) (fun_ext (λ t. same_held (is_element f) (times-number t c a.0 l a.1))) ∙ sym (mul-total Ring (degree f) (λ t. image_of t a) (number f c, number_element f F c l))

  trace-total : (n : ℕ) (g : ℕ → Ring.Carrier) → trace_of (total (adds Ring.ops) n g) ≡ total (adds Ring.ops) n (λ i. trace_of (g i))
  trace-total zero g = trace_zero
  trace-total (suc n) g = trace-add (total (adds Ring.ops) n g) (g n) ∙ ap (λ z. Ring.add z (trace_of (g n))) (trace-total n g)

  -- the trace of an element times a power of X, out of the traces of powers of X
  pub trace_product : (a : List ℕ) → IsElement f a → (k : ℕ) (rows : List (List ℕ)) → ((j : ℕ) → j < length a → get_or rows j [] ≡ trace f (eta_power f (j + k))) → trace f ((elements f).mul a (eta_power f k)) ≡ combination f a rows
  trace_product a h k rows each =
      ap₂ (λ y z. trace f ((elements f).mul y z)) (sym (own f F a h) ∙ at_is f F a small (X f F)) (eta_power_is f F k ∙ sym (keeps_power (held_preserves (element_laws f F)) (X f F) k))
      ∙ sym (trace_is_sum (Ring.mul (total (adds Ring.ops) n (λ i. Ring.mul (N f F a small i) (power Ring.ops (X f F) i))) (power Ring.ops (X f F) k)))
      ∙ ap (λ z. z.0) (
      ap trace_of (total-mul Ring n (λ i. Ring.mul (N f F a small i) (power Ring.ops (X f F) i)) (power Ring.ops (X f F) k) ∙ ap (total (adds Ring.ops) n) (fun_ext (λ i. Ring.mul_assoc (N f F a small i) (power Ring.ops (X f F) i) (power Ring.ops (X f F) k) ∙ ap (Ring.mul (N f F a small i)) (sym (power-add Ring (X f F) i k)))))
      ∙ trace-total n (λ i. Ring.mul (N f F a small i) (power Ring.ops (X f F) (i + k)))
      ∙ ap (total (adds Ring.ops) n) (fun_ext (λ i. trace-number (get_or a i 0) (coeff_small f F a small i) (power Ring.ops (X f F) (i + k)))))
      ∙ factors_total f F a small (λ i. trace_of (power Ring.ops (X f F) (i + k))) n
      ∙ total_cong (adds (elements f)) n (λ i. scaled (residues f.p) (get_or a i 0) (trace_of (power Ring.ops (X f F) (i + k))).0) (λ i. scaled (residues f.p) (get_or a i 0) (get_or rows i [])) (λ i l. ap (scaled (residues f.p) (get_or a i 0)) (trace_is_sum (power Ring.ops (X f F) (i + k)) ∙ ap (trace f) (keeps_power (held_preserves (element_laws f F)) (X f F) (i + k) ∙ sym (eta_power_is f F (i + k))) ∙ sym (each i l)))
    where
      n : ℕ
      n = length a

      small : All (λ c. c < f.p) a
      small = element_below f a h
