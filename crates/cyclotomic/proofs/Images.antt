-- A second family, at another element y: phi m divides its member at x^k for units k, and its member at a root of unity is 0.
use Rattle.std.specs.Prelude.{◌≡◌, ℕ, zero, suc, ◌*◌ as ◌*ₙ◌, ◌<◌, ◌≤◌, Bool, true, false, cond, refl}
use Rattle.std.proofs.Common.{sym, ◌∙◌, ap, ap₂, subst, arith, zero-lt-suc, mul_comm, mul-pos}
use Rattle.algebra.specs.Ring.{CommRing}
use Rattle.algebra.specs.Hom.{Hom}
use Rattle.algebra.specs.Range.{muls}
use Rattle.algebra.proofs.Homs.{map_less, map_power, map_muls}
use Rattle.algebra.proofs.Ranges.{total_cong, mul_laws}
use Rattle.algebra.specs.Power.{less, power, Divides, IsUnit}
use Rattle.algebra.specs.Divisor.{is_divisor, HasInverse}
use Rattle.algebra.proofs.Basic.{mul_zero}
use Rattle.algebra.proofs.Divisors.{larger_no}
use Rattle.algebra.proofs.Units.{unit_cancels}
use Rattle.algebra.proofs.Powers.{Divides_trans, power-mul, power_divides, unit_of_divisor, unit_product, unit_cancel}
use Rattle.cyclotomic.specs.Family.{part, over_divisors, IsProductAt}
use Rattle.cyclotomic.specs.Roots.{IsRoot}
use Rattle.cyclotomic.proofs.Family.{Monics, Coprime, Coprime_sym, Coprime_one, Coprime_product, Good, by_part, own_part, member_divides, phi_coprime, divides_rest}

module _ (P : CommRing) (x : P.Carrier) (M : Monics P x) (phi psi : ℕ → P.Carrier) where
  open P use {mul as ◌*◌, one as 𝟙}

  infixl 75 ◌*◌
  pub divides_image : (n m k : ℕ) → Good P x M phi n → m < n → 0 < k → HasInverse (suc m) k → ((j : ℕ) → j ≤ m → IsProductAt P.ops (power P.ops x k) psi (suc j)) → M.IsMonic (psi (suc m)) → Divides P.ops (phi (suc m)) (psi (suc m))
  divides_image n m k G l p unit law monic = divides_rest P x M phi (phi (suc m)) (over_divisors P.ops psi (suc m) m) (psi (suc m)) (G.monic m l) monic (Coprime_sym P (over_divisors P.ops psi (suc m) m) (phi (suc m)) (apart m (omega arith))) whole
    where
      to_power : (j : ℕ) → power P.ops (power P.ops x k) j ≡ power P.ops x (k *ₙ j)
      to_power j = sym (power-mul P x k j)

      -- phi m is coprime to each smaller member of the second family
      member_apart : (i : ℕ) → i < m → Coprime P (psi (suc i)) (phi (suc m))
      member_apart i q = Coprime_sym P (phi (suc m)) (psi (suc i)) (phi_coprime P x M phi n m (k *ₙ suc i) (psi (suc i)) G l (mul-pos p (zero-lt-suc i)) (λ d. larger_no (suc m) (suc i) (zero-lt-suc i) (omega arith) (unit_cancels (suc m) k (suc i) unit d)) (subst (λ z. Divides P.ops (psi (suc i)) (less P.ops z 𝟙)) (to_power (suc i)) (member_divides P (power P.ops x k) psi i (law i (omega arith)))))

      apart : (i : ℕ) → i ≤ m → Coprime P (over_divisors P.ops psi (suc m) i) (phi (suc m))
      apart zero q = Coprime_one P (phi (suc m))
      apart (suc i) q = Coprime_product P (over_divisors P.ops psi (suc m) i) (part P.ops psi (suc m) i) (phi (suc m)) (apart i (omega arith)) (by_part P x psi (λ z. Coprime P z (phi (suc m))) (suc m) i (λ d. member_apart i (omega arith)) (Coprime_one P (phi (suc m))))

      whole : Divides P.ops (phi (suc m)) (over_divisors P.ops psi (suc m) m * psi (suc m))
      whole = subst (Divides P.ops (phi (suc m))) (ap (λ z. less P.ops (power P.ops x z) 𝟙) (mul_comm (suc m) k) ∙ ap (λ z. less P.ops z 𝟙) (sym (to_power (suc m))) ∙ sym (law m (omega arith)) ∙ ap (λ z. over_divisors P.ops psi (suc m) m * z) (own_part P x psi m)) (Divides_trans P (phi (suc m)) (less P.ops (power P.ops x (suc m)) 𝟙) (less P.ops (power P.ops x (suc m *ₙ k)) 𝟙) (member_divides P x phi m (G.law m l)) (power_divides P x (suc m) k))

module _ (R : CommRing) (y : R.Carrier) (psi : ℕ → R.Carrier) where
  open R use {mul as ◌*◌, zero as 𝟘, one as 𝟙}

  infixl 75 ◌*◌
  -- the member at m is 0 where y^m is 1 and the test at the divisors of m holds
  pub vanishes : (m : ℕ) → IsRoot R.ops y (suc m) → ((j : ℕ) → j ≤ m → IsProductAt R.ops y psi (suc j)) → psi (suc m) ≡ 𝟘
  vanishes m root law = unit_cancel R (over_divisors R.ops psi (suc m) m) (psi (suc m)) 𝟘 (units m (omega arith)) (ap (λ z. over_divisors R.ops psi (suc m) m * z) (sym (own_part R y psi m)) ∙ law m (omega arith) ∙ ap (λ z. less R.ops z 𝟙) root.root ∙ R.add_comm 𝟙 (R.neg 𝟙) ∙ R.neg_add 𝟙 ∙ sym (mul_zero R (over_divisors R.ops psi (suc m) m)))
    where
      units : (i : ℕ) → i ≤ m → IsUnit R.ops (over_divisors R.ops psi (suc m) i)
      units zero q = (𝟙, sym (R.one_mul 𝟙))
      units (suc i) q = unit_product R (over_divisors R.ops psi (suc m) i) (part R.ops psi (suc m) i) (units i (omega arith)) (by_part R y psi (IsUnit R.ops) (suc m) i (λ d. unit_of_divisor R (psi (suc i)) (less R.ops (power R.ops y (suc i)) 𝟙) (member_divides R y psi i (law i (omega arith))) (root.at_divisors (suc i) (zero-lt-suc i) (omega arith) d)) (𝟙, sym (R.one_mul 𝟙)))

-- a map of rings takes a family to one
module _ (P S : CommRing) (F : Hom P S) (x : P.Carrier) (phi : ℕ → P.Carrier) where
  abbrev image : ℕ → S.Carrier
  image d = F.map (phi d)

  image_part : (m i : ℕ) → F.map (part P.ops phi m i) ≡ part S.ops image m i
  image_part m i = cases_of (is_divisor (suc i) m)
    where
      cases_of : (b : Bool) → F.map (cond b (phi (suc i)) P.one) ≡ cond b (image (suc i)) S.one
      cases_of true = refl
      cases_of false = F.map_one

  image_over : (m n : ℕ) → F.map (over_divisors P.ops phi m n) ≡ over_divisors S.ops image m n
  image_over m n = map_muls P S F n (part P.ops phi m) ∙ total_cong (muls S.ops) (mul_laws S) n (λ i. F.map (part P.ops phi m i)) (part S.ops image m) (λ i l. image_part m i)

  pub image_law : (y : S.Carrier) → F.map x ≡ y → (m : ℕ) → IsProductAt P.ops x phi m → IsProductAt S.ops y image m
  image_law y e m law = sym (image_over m m) ∙ ap F.map law ∙ map_less P S F (power P.ops x m) P.one ∙ ap₂ (less S.ops) (map_power P S F x m ∙ ap (λ z. power S.ops z m) e) F.map_one
