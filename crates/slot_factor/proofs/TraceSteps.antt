-- The constant term of a trace, out of those of the powers of X.
use Rattle.std.proofs.Common.{◌≡◌, ℕ, zero, suc, ◌+◌, ◌*◌, ◌%◌, ◌^◌, ◌<◌, ◌≤◌, List, [], map, length, get_or, refl, sym, ap, ap₂, subst, ◌∙◌, arith}
use Rattle.std.proofs.Math.Numerals.{add-one}
use Rattle.std.proofs.lemmas.Grind.{get_or_default_zero}
use Rattle.std.proofs.lemmas.List.{get_or_read}
use mathlib.Core.Path.{fun_ext}
use Rattle.algebra.specs.Ring.{residues}
use Rattle.algebra.specs.Range.{Monoid, total, adds, counts}
use Rattle.algebra.specs.Poly.{scaled}
use Rattle.algebra.specs.Whole.{below}
use Rattle.ext_field.specs.Element.{Extension, IsMonicFactor, IsExtension, IsElement, elements, degree, eta_power, trace}
use Rattle.ext_field.proofs.Images.{get_or-values, length-values}
use Rattle.ext_field.proofs.Linear.{trace_of, trace_is_sum, trace_product}
use Rattle.ext_field.proofs.Rows.{element_long, element_below}
use Rattle.slot_laws.proofs.DecodeSums.{eta_power_is, eta_power_in, total_coefficient, total_mod}
use Rattle.slot_laws.proofs.WholeValue.{laws, p_positive}
use Rattle.slot_factor.specs.Tables.{AreTerms}
use Rattle.slot_factor.proofs.PowerSteps.{scaled_at, scaled_in}
use Rattle.slot_factor.proofs.RowSteps.{product_small}

total_same : {C : Type 0} (M : Monoid C) (n : ℕ) (g h : ℕ → C) → ((i : ℕ) → i < n → g i ≡ h i) → total M n g ≡ total M n h
total_same M zero g h e = refl
total_same M (suc n) g h e = ap₂ M.op (total_same M n g h (λ i l. e i (omega (arith, l)))) (e n (omega arith))

module _ (f : Extension) (Ex : IsExtension f) where
  M : IsMonicFactor f
  M = Ex.factor

  pub trace_in : (x : List ℕ) → IsElement f x → IsElement f (trace f x)
  trace_in x h = subst (IsElement f) (trace_is_sum f Ex (x, h)) (trace_of f Ex (x, h)).1

  trace_total : (a : List ℕ) → IsElement f a → trace f a ≡ total (adds (elements f)) (length a) (λ j. scaled (residues f.p) (get_or a j 0) (trace f (eta_power f j)))
  trace_total a h =
      ap (trace f) (sym (ap ((elements f).mul a) (eta_power_is f M 0) ∙ (laws f M).mul_comm a (elements f).one h (laws f M).one_held ∙ (laws f M).one_mul a h))
      ∙ trace_product f Ex a h 0 rows (λ j l. at j l ∙ ap (λ k. trace f (eta_power f k)) (let e : j ≡ j + 0 = omega arith in e))
      ∙ total_same (adds (elements f)) (length a) (λ j. scaled (residues f.p) (get_or a j 0) (get_or rows j [])) (λ j. scaled (residues f.p) (get_or a j 0) (trace f (eta_power f j))) (λ j l. ap (scaled (residues f.p) (get_or a j 0)) (at j l))
    where
      rows : List (List ℕ)
      rows = map (λ k. trace f (eta_power f k)) (below (degree f))

      at : (j : ℕ) → j < length a → get_or rows j [] ≡ trace f (eta_power f j)
      at j l = get_or-values (λ k. trace f (eta_power f k)) (degree f) rows refl j (omega (arith, l, element_long f a h))

  -- the terms of the table
  pub term_is : (xs : List (List ℕ)) (j n t : ℕ) (x : List ℕ) → xs ≡ map (λ k. trace f (eta_power f k)) (below n) → j < n → x ≡ get_or xs j x → t ≡ get_or x 0 0 → t ≡ get_or (trace f (eta_power f j)) 0 0
  term_is xs j n t x xs_is l x_is t_is = t_is ∙ ap (λ z. get_or z 0 0) (get_or_read xs j x (omega (arith, l, length-values (λ k. trace f (eta_power f k)) n xs xs_is)) x_is [] ∙ get_or-values (λ k. trace f (eta_power f k)) n xs xs_is j l)

  pub term_below : (j t : ℕ) → t ≡ get_or (trace f (eta_power f j)) 0 0 → t < f.p
  term_below j t t_is = subst (λ z. z < f.p) (sym t_is) (element_below f (trace f (eta_power f j)) (trace_in (eta_power f j) (eta_power_in f M j)) 0 0 (omega (arith, M.degree_low, element_long f (trace f (eta_power f j)) (trace_in (eta_power f j) (eta_power_in f M j)))))

  -- the sum of products
  pub product_below : (a terms : List ℕ) (j d e : ℕ) → IsElement f a → AreTerms f terms → j < length terms → get_or a j d * get_or terms j e ≤ 2 ^ 34
  product_below a terms j d e h T l = product_small f.p (get_or a j d) (get_or terms j e) M.p_high (element_below f a h j d (omega (arith, l, T.filled.long, element_long f a h))) (T.below j e l)

  pub products_more : (a terms : List ℕ) (j d e s : ℕ) → IsElement f a → AreTerms f terms → j < length terms → s ≡ total counts j (λ j. get_or a j 0 * get_or terms j 0) → s + get_or a j d * get_or terms j e ≡ total counts (j + 1) (λ j. get_or a j 0 * get_or terms j 0)
  products_more a terms j d e s h T l s_is =
      ap₂ (λ y z. y + z) s_is (ap₂ (λ y z. y * z) (get_or_default_zero a j d (omega (arith, l, T.filled.long, element_long f a h))) (get_or_default_zero terms j e l))
      ∙ ap (λ n. total counts n (λ j. get_or a j 0 * get_or terms j 0)) (sym (add-one j))

  pub trace_constant : (a terms : List ℕ) (s p n : ℕ) → IsElement f a → AreTerms f terms → s ≡ total counts n (λ j. get_or a j 0 * get_or terms j 0) → n ≡ degree f → p ≡ f.p → s % p ≡ get_or (trace f a) 0 0
  trace_constant a terms s p n h T s_is n_is p_is =
      ap₂ (λ y z. y % z) (s_is ∙ total_same counts n (λ j. get_or a j 0 * get_or terms j 0) (λ j. get_or a j 0 * get_or (trace f (eta_power f j)) 0 0) (λ j l. ap (λ z. get_or a j 0 * z) (T.filled.at j (omega (arith, l, n_is))))) p_is
      ∙ sym (
      ap (λ z. get_or z 0 0) (trace_total a h)
      ∙ total_coefficient f M (length a) (λ j. scaled (residues f.p) (get_or a j 0) (trace f (eta_power f j))) (λ j. scaled_in f M (get_or a j 0) (trace f (eta_power f j)) (trace_in (eta_power f j) (eta_power_in f M j))) 0
      ∙ ap (λ g. total counts (length a) g % f.p) (fun_ext (λ j. scaled_at f.p (p_positive f M) (get_or a j 0) (trace f (eta_power f j)) 0))
      ∙ total_mod f.p (length a) (λ j. get_or a j 0 * get_or (trace f (eta_power f j)) 0 0)
      ∙ ap (λ k. total counts k (λ j. get_or a j 0 * get_or (trace f (eta_power f j)) 0 0) % f.p) (element_long f a h ∙ sym n_is))
