-- Sums that are reduced only where they would grow too large.
use Rattle.std.proofs.Common.{◌≡◌, ℕ, zero, suc, ◌+◌, ◌*◌, ◌%◌, ◌<◌, List, [], ◌∷◌, map, length, get_or, set, pos, refl, sym, ap, ap₂, ◌∙◌, subst, arith}
use Rattle.std.specs.Prelude.{ℤ}
use Rattle.std.specs.List.{All}
use Rattle.std.proofs.Math.Nat.{add-mod-mod, mod-lt, mod-mod}
use Rattle.std.proofs.lemmas.Grind.{get_or_default_zero}
use Rattle.algebra.specs.Range.{total, adds}
use Rattle.algebra.specs.Whole.{residue}
use Rattle.cyclotomic.specs.Cyclotomic.{R, fold}
use Rattle.slot_laws.proofs.EncodeSums.{same_fold}
use Rattle.slot_laws.proofs.FoldSums.{place_term}
use Rattle.slot_factor.proofs.RowSteps.{place_more}

module _ (q m : ℕ) (q_pos : 0 < q) (m_pos : 0 < m) where
  -- a number that is put in, and its residue
  set_same : (L : List ℕ) (at r : ℕ) → map (residue q) (map pos (set L at r)) ≡ map (residue q) (map pos (set L at (r % q)))
  set_same [] at r = refl
  set_same (y ∷ L) zero r = ap (λ z. z ∷ map (residue q) (map pos L)) (sym (mod-mod r q))
  set_same (y ∷ L) (suc at) r = ap (λ z. y % q ∷ z) (set_same L at r)

  -- one more place, at which the sum is kept up to a multiple of q
  pub place_lazily : (L : List ℕ) (S : List ℤ) (k : ℕ) (a : List ℕ) (i at r t x d : ℕ) → length L ≡ m → i < length a → at ≡ (i * k) % m → at < m → x ≡ get_or L at x → r % q ≡ (x + t) % q → t % q ≡ get_or a i d
      → map (residue q) (fold m (map pos L)) ≡ map (residue q) ((R m).add S (total (adds (R m)) i (place_term m k (map pos a))))
      → map (residue q) (fold m (map pos (set L at r))) ≡ map (residue q) ((R m).add S (total (adds (R m)) (i + 1) (place_term m k (map pos a))))
  place_lazily L S k a i at r t x d long l at_is at_in x_is r_is t_is s =
      same_fold q m q_pos m_pos (map pos (set L at r)) (map pos (set L at (r % q))) (set_same L at r)
      ∙ place_more q m q_pos m_pos L S k a i at (r % q) x d long l at_is at_in x_is (r_is ∙ sym (add-mod-mod x t q) ∙ ap (λ z. (x + z) % q) t_is) s

  -- a row, and its residues
  row_same : (L M : List ℕ) → length M ≡ length L → ((i : ℕ) → get_or M i 0 ≡ get_or L i 0 % q) → map (residue q) (map pos M) ≡ map (residue q) (map pos L)
  row_same [] [] long h = refl
  row_same [] (y ∷ M) long h = absurd (omega (arith, long))
  row_same (x ∷ L) [] long h = absurd (omega (arith, long))
  row_same (x ∷ L) (y ∷ M) long h = ap₂ (λ u v. u ∷ v) (ap (λ z. z % q) (h 0) ∙ mod-mod x q) (row_same L M (omega (arith, long)) (λ i. h (suc i)))

  pub reduced_fold : (L M : List ℕ) → length M ≡ length L → ((i : ℕ) → get_or M i 0 ≡ get_or L i 0 % q) → map (residue q) (fold m (map pos M)) ≡ map (residue q) (fold m (map pos L))
  reduced_fold L M long h = same_fold q m q_pos m_pos (map pos M) (map pos L) (row_same L M long h)

pub reduced_below : (q : ℕ) → 0 < q → (L M : List ℕ) → ((i : ℕ) → get_or M i 0 ≡ get_or L i 0 % q) → All (λ v. v < q) M
reduced_below q q_pos L M h k d s = subst (λ z. z < q) (sym (get_or_default_zero M k d s ∙ h k)) (mod-lt (get_or L k 0) q_pos)
