-- The sums of the absolute coefficients of what encryption adds up.
use Rattle.std.specs.Prelude.{◌≡◌, ℕ, zero, suc, ◌+◌, ◌*◌, ◌/◌, ◌≤◌, ◌==◌, not, cond, count_by, All, List, [], ◌∷◌, length, ℤ, nat_abs, refl}
use Rattle.std.proofs.Common.{arith, sym, ◌∙◌, ap, ap₂, subst, subst₂}
use Rattle.std.proofs.lemmas.List.Elements.{All-tail}
use Rattle.std.proofs.lemmas.List.Sums.{sum_by-cons}
use Rattle.cyclotomic.specs.Cyclotomic.{degree, IsElement}
use Rattle.cyclotomic.specs.Norm.{one_norm}
use Rattle.slot_array.specs.Arrays.{Array}
use Rattle.slot_laws.specs.Slots.{encode}
use Rattle.slot_laws.specs.SlotLaws.{IsPlaintext}
use Rattle.slot_laws.proofs.Encoding.{encodes_slots}
use Rattle.scheme_laws.specs.Scheme.{SchemeSetting, IsScheme}
use Rattle.scheme_laws.specs.SchemeLaws.{NormCounts, NormCountsLaw}

-- coefficients of at most b
norm_le : (b : ℕ) (xs : List ℤ) → All (λ x. nat_abs x ≤ b) xs → one_norm xs ≤ b * length xs
norm_le b [] h = omega arith
norm_le b (x ∷ xs) h = omega (arith, h 0 x (omega arith), norm_le b xs (All-tail (λ x. nat_abs x ≤ b) x xs h))

-- where each is at most 1, as many as are not 0
norm_count : (xs : List ℤ) → All (λ x. nat_abs x ≤ 1) xs → one_norm xs ≡ count_by (λ x. not (nat_abs x == 0)) xs
norm_count [] h = refl
norm_count (x ∷ xs) h = ap₂ (λ y z. y + z) (one (nat_abs x) (h 0 x (omega arith))) (norm_count xs (All-tail (λ x. nat_abs x ≤ 1) x xs h)) ∙ sym (sum_by-cons (λ x. cond (not (nat_abs x == 0)) 1 0) x xs)
  where
    one : (n : ℕ) → n ≤ 1 → n ≡ cond (not (n == 0)) 1 0
    one zero l = refl
    one (suc zero) l = refl
    one (suc (suc n)) l = absurd (omega arith)

module _ (t : SchemeSetting) (T : IsScheme t) where
  pub plaintext : (x : Array) → IsPlaintext t.field t.cube (encode t.field t.cube x)
  plaintext = (encodes_slots t.field t.cube T.packing).plaintext

  pub p_same : t.field.p ≡ t.ring.moduli.p
  p_same = T.packing.same_p ∙ T.same_p

  pub encoded_element : (x : Array) → IsElement t.ring.moduli.m (encode t.field t.cube x)
  encoded_element x = (plaintext x).long ∙ ap degree T.same_m

  pub counts : NormCounts t
  counts = record {
    encoded = λ x. subst₂ (λ m p. one_norm (encode t.field t.cube x) ≤ degree m * (p / 2)) T.same_m p_same (plaintext x).small;
    secret = λ s S. norm_count s S.small ∙ S.chosen;
    error = λ e E. subst (λ n. one_norm e ≤ 10 * n) E.long (norm_le 10 e E.small);
    small = λ u U. omega (arith, norm_le 1 u U.small, U.long);
  }

pub norm_counts : NormCountsLaw
norm_counts = counts
