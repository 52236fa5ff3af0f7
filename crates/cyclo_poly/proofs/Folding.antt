-- The passes of `fold` give the remainder by Phi_m modulo q.
use Rattle.std.specs.Prelude.{◌≡◌, ℕ, suc, ◌+◌, ◌-◌, ◌%◌, ◌<◌, ◌≤◌, ◌⊎◌, List, [], ◌∷◌, map, length, take, drop, get_or, ℤ, pos, ◌+ℤ◌, refl}
use Rattle.std.specs.List.{All}
use Rattle.std.proofs.Common.{sym, ◌∙◌, ap, ap₂, inl, inr, arith, mod-eq_of_lt}
use Rattle.std.proofs.lemmas.List.{get_or_past, get_or-take, get_or-drop, length-take, length-drop, length-map}
use Rattle.std.proofs.lemmas.Bool.{cases_lt}
use Rattle.std.proofs.Math.ListN.{get_or-map}
use mathlib.Core.Path.{fun_ext}
use Rattle.algebra.specs.Ring.{whole_numbers, residues}
use Rattle.algebra.specs.Series.{product, shifted}
use Rattle.algebra.specs.Poly.{coeff, times, plus, remainder}
use Rattle.algebra.specs.Whole.{residue}
use Rattle.algebra.proofs.Basic.{add_zero}
use Rattle.algebra.proofs.Integers.{whole_ring}
use Rattle.algebra.proofs.SeriesRing.{product-sum, product_comm}
use Rattle.algebra.proofs.Spread.{shifted_high, shifted_low, product-shifted}
use Rattle.algebra.proofs.Lists.{same_list, length-plus, length-times, coeff-plus, coeff-times}
use Rattle.algebra.proofs.Dividing.{remainder_of}
use Rattle.algebra.proofs.Maps.{map_remainder}
use Rattle.algebra.proofs.WholeResidues.{residue-add, residue_preserves}
use Rattle.cyclotomic.specs.Cyclotomic.{phi, degree}
use Rattle.cyclotomic.proofs.PhiLists.{phi_monic}
use Rattle.cyclo_poly.specs.Strides.{AreStrides, IsLess}
use Rattle.cyclo_poly.proofs.Shifts.{Whole, from_top, lift, Below-lift, by_passes}

module _ (q : ℕ) (positive : 0 < q) where
  -- the residues of small numbers are these
  own_residues : (b : List ℕ) → All (λ c. c < q) b → map (residue q) (map pos b) ≡ b
  own_residues [] h = refl
  own_residues (x ∷ b) h = ap₂ (λ y z. y ∷ z) (mod-eq_of_lt (h 0 0 (let l : 0 < suc (length b) = omega arith in l))) (own_residues b (λ i d l. h (suc i) d (let n : suc i < suc (length b) = omega arith in n)))

  module _ (k : ℕ) (s : List ℕ) where
    abbrev d : ℕ
    d = degree (suc k)

    abbrev Psi : Whole
    Psi = coeff whole_numbers (phi (suc k))

    -- a row in two parts: the places below d, and X^d times the others
    parts : (i : ℕ) → lift q positive s i ≡ lift q positive (take d s) i +ℤ shifted whole_numbers d (lift q positive (drop d s)) i
    parts i = go (cases_lt i d)
      where
        go : (i < d) ⊎ (d ≤ i) → lift q positive s i ≡ lift q positive (take d s) i +ℤ shifted whole_numbers d (lift q positive (drop d s)) i
        go (inl l) = sym (ap₂ (λ y z. y +ℤ z) (ap pos (get_or-take d s i 0 l)) (shifted_low whole_ring d (lift q positive (drop d s)) i l) ∙ add_zero whole_ring (lift q positive s i))
        go (inr l) = sym (ap₂ (λ y z. y +ℤ z) (ap pos (get_or_past (take d s) i 0 (omega (arith, length-take d s)))) (high (i - d) (let e : i ≡ d + (i - d) = omega arith in e)) ∙ whole_ring.zero_add (lift q positive s i))
          where
            high : (t : ℕ) → i ≡ d + t → shifted whole_numbers d (lift q positive (drop d s)) i ≡ lift q positive s i
            high t e = ap (shifted whole_numbers d (lift q positive (drop d s))) e ∙ shifted_high whole_ring d (lift q positive (drop d s)) t ∙ ap pos (get_or-drop d s t 0) ∙ ap (lift q positive s) (sym e)

    -- so the product's places from d on are in two parts too
    top_parts : (i : ℕ) → from_top Psi d (lift q positive s) i ≡ product whole_numbers (lift q positive (drop d s)) Psi i +ℤ from_top Psi d (lift q positive (take d s)) i
    top_parts i = product_comm whole_ring Psi (lift q positive s) (i + d) ∙ ap (λ z. product whole_numbers z Psi (i + d)) (fun_ext parts) ∙ product-sum whole_ring low (shifted whole_numbers d high) Psi (i + d) ∙ whole_ring.add_comm (product whole_numbers low Psi (i + d)) (product whole_numbers (shifted whole_numbers d high) Psi (i + d)) ∙ ap₂ (λ y z. y +ℤ z) (product-shifted whole_ring d high Psi (i + d) ∙ ap (shifted whole_numbers d (product whole_numbers high Psi)) (let e : i + d ≡ d + i = omega arith in e) ∙ shifted_high whole_ring d (product whole_numbers high Psi) i) (product_comm whole_ring low Psi (i + d))
      where
        low : Whole
        low = lift q positive (take d s)

        high : Whole
        high = lift q positive (drop d s)

    module _ (above below : List ℕ) (S : AreStrides (suc k) above below) (f a c b : List ℕ) where
      -- f as a whole polynomial: quotient times Phi_m, and the rest
      whole : List ℤ
      whole = plus whole_numbers (times whole_numbers (map pos (drop d s)) (phi (suc k))) (map pos b)

      whole_at : (i : ℕ) → product whole_numbers (lift q positive (drop d s)) Psi i +ℤ coeff whole_numbers (map pos b) i ≡ coeff whole_numbers whole i
      unfolding whole
      whole_at i = sym (coeff-plus whole_ring (times whole_numbers (map pos (drop d s)) (phi (suc k))) (map pos b) i ∙ ap (λ z. z +ℤ coeff whole_numbers (map pos b) i) (coeff-times whole_ring (map pos (drop d s)) (phi (suc k)) i ∙ ap (λ z. product whole_numbers z Psi i) (fun_ext (λ t. get_or-map pos (drop d s) t 0))))

      length-whole : length s ≡ suc k → length b ≡ d → d ≤ k → length whole ≡ suc k
      unfolding whole
      length-whole e g l = omega (arith, length-plus whole_numbers (times whole_numbers (map pos (drop d s)) (phi (suc k))) (map pos b), length-times whole_numbers (map pos (drop d s)) (phi (suc k)) (omega (arith, long)) (phi_monic k).filled, long, length-map b pos, (phi_monic k).filled)
        where
          long : length (map pos (drop d s)) ≡ suc k - d
          long = length-map (drop d s) pos ∙ length-drop d s ∙ ap (λ z. z - d) e

      pub passes_fold : length f ≡ suc k → length s ≡ suc k → length b ≡ degree (suc k) → degree (suc k) ≤ k → All (λ x. x < q) f → All (λ x. x < q) b → IsLess q below f a → IsLess q above s a → IsLess q above (take (degree (suc k)) s) c → IsLess q below b c → b ≡ remainder (residues q) (map (residue q) (phi (suc k))) f
      passes_fold f_long s_long b_long small f_in b_in f_a s_a s_c b_c = sym (ap (remainder (residues q) (map (residue q) (phi (suc k)))) rows ∙ sym (map_remainder (residue_preserves q positive) (phi (suc k)) whole) ∙ ap (map (residue q)) (sym rest) ∙ own_residues b b_in)
        where
          own_at : (x : List ℕ) → All (λ c. c < q) x → (i : ℕ) → residue q (pos (get_or x i 0)) ≡ get_or x i 0
          own_at x h i = go (cases_lt i (length x))
            where
              go : (i < length x) ⊎ (length x ≤ i) → residue q (pos (get_or x i 0)) ≡ get_or x i 0
              go (inl l) = mod-eq_of_lt (h i 0 l)
              go (inr l) = ap (λ z. z % q) (get_or_past x i 0 l) ∙ mod-eq_of_lt positive ∙ sym (get_or_past x i 0 l)

          same_whole : (i : ℕ) → get_or f i 0 ≡ residue q (coeff whole_numbers whole i)
          same_whole i = sym (own_at f f_in i) ∙ by_passes q positive k above below S f a s f_a s_a i ∙ ap (residue q) (top_parts i) ∙ residue-add q positive (product whole_numbers (lift q positive (drop d s)) Psi i) (from_top Psi d (lift q positive (take d s)) i) ∙ ap (λ z. (residue q (product whole_numbers (lift q positive (drop d s)) Psi i) + z) % q) (sym (by_passes q positive k above below S b c (take d s) b_c s_c i)) ∙ sym (residue-add q positive (product whole_numbers (lift q positive (drop d s)) Psi i) (lift q positive b i)) ∙ ap (residue q) (ap (λ z. product whole_numbers (lift q positive (drop d s)) Psi i +ℤ z) (sym (get_or-map pos b i 0)) ∙ whole_at i)

          rows : f ≡ map (residue q) whole
          rows = same_list (residues q) f (map (residue q) whole) (f_long ∙ sym (length-map whole (residue q) ∙ length-whole s_long b_long small)) (λ i. same_whole i ∙ sym (ap (get_or (map (residue q) whole) i) (sym (mod-eq_of_lt positive)) ∙ get_or-map (residue q) whole i (pos 0)))

          rest : map pos b ≡ remainder whole_numbers (phi (suc k)) whole
          rest = remainder_of whole_ring (phi (suc k)) (phi_monic k) whole (map pos b) (length (drop d s)) (lift q positive (drop d s)) (Below-lift q positive (drop d s)) (length-map b pos ∙ b_long) whole_at
