-- For a prime p, Phi_k(X^p) is Phi_(p k), or its product with Phi_k where p does not divide k: over any ring with a cyclotomic family.
use Rattle.std.specs.Prelude.{◌≡◌, ℕ, zero, suc, ◌+◌ as ◌+ₙ◌, ◌*◌ as ◌*ₙ◌, ◌<◌, ◌≢◌, ◌⊎◌, Bool, true, false, cond, refl}
use Rattle.std.proofs.Common.{sym, ◌∙◌, ap, ap₂, subst, inl, inr, arith, zero-lt-suc, mul_comm}
use Rattle.algebra.specs.Ring.{CommRing}
use Rattle.algebra.specs.Hom.{Hom}
use Rattle.algebra.specs.Range.{Monoid, MonoidLaws, total, muls}
use Rattle.algebra.specs.Power.{less, power}
use Rattle.algebra.specs.Divisor.{Dvd, is_divisor}
use Rattle.algebra.proofs.Basic.{mul_one}
use Rattle.algebra.proofs.Divisors.{divisor_cases, divisor_yes, divisor_no, larger_no, Dvd_rest, Dvd_multiple, Dvd_scaled, Dvd_unscaled}
use Rattle.algebra.proofs.Ranges.{total_cong, total_units, total-op, total_split, total_single, mul_laws}
use Rattle.algebra.proofs.Powers.{power-mul}
use Rattle.cyclotomic.specs.Family.{part, over_divisors, IsProductAt}
use Rattle.cyclotomic.proofs.Family.{Monics, part_yes, part_no, by_part, own_part}
use Rattle.cyclotomic.proofs.Images.{image_law}

-- what Euclid's lemma says of p + 1
abbrev pub IsPrimal : ℕ → Type 0
IsPrimal p = (e k : ℕ) → Dvd e (suc p *ₙ k) → (Dvd (suc p) e) ⊎ (Dvd e k)

module _ {C : Type 0} (M : Monoid C) (L : MonoidLaws M) where
  -- of a total over q m places with terms at the multiples of q alone
  total_multiples : (p m : ℕ) (f : ℕ → C) → ((i : ℕ) → (Dvd (suc p) (suc i) → ⊥) → f i ≡ M.unit) → total M (suc p *ₙ m) f ≡ total M m (λ j. f (suc p *ₙ j +ₙ p))
  total_multiples p zero f h = at (suc p *ₙ 0) (omega arith)
    where
      at : (n : ℕ) → n ≡ 0 → total M n f ≡ M.unit
      at n e = ap (λ z. total M z f) e
  total_multiples p (suc m) f h = at (suc p *ₙ suc m) (omega arith) ∙ total_split M L (suc p *ₙ m) (suc p) f ∙ ap₂ M.op (total_multiples p m f h) (total_single M L (suc p) p (λ i. f (suc p *ₙ m +ₙ i)) (omega arith) others)
    where
      at : (n : ℕ) → n ≡ suc p *ₙ m +ₙ suc p → total M n f ≡ total M (suc p *ₙ m +ₙ suc p) f
      at n e = ap (λ z. total M z f) e

      others : (i : ℕ) → i < suc p → i ≢ p → f (suc p *ₙ m +ₙ i) ≡ M.unit
      others i l n = h (suc p *ₙ m +ₙ i) (λ d. larger_no (suc p) (suc i) (zero-lt-suc i) (omega arith) (rest d))
        where
          step : (a : ℕ) → a +ₙ suc i ≡ suc (a +ₙ i)
          step a = omega arith

          rest : Dvd (suc p) (suc (suc p *ₙ m +ₙ i)) → Dvd (suc p) (suc i)
          rest d = Dvd_rest (suc p) (suc p *ₙ m) (suc i) (m, mul_comm (suc p) m) (d.0, step (suc p *ₙ m) ∙ d.1)

module _ (P : CommRing) (x : P.Carrier) (M : Monics P x) (phi : ℕ → P.Carrier) (law : (k : ℕ) → IsProductAt P.ops x phi (suc k)) (monic : (k : ℕ) → M.IsMonic (phi (suc k))) (p : ℕ) (primal : IsPrimal p) (F : Hom P P) (to_power : F.map x ≡ power P.ops x (suc p)) where
  open P use {mul as ◌*◌, one as 𝟙}

  infixl 75 ◌*◌
  abbrev old : ℕ → P.Carrier
  old e = cond (is_divisor (suc p) e) 𝟙 (phi e)

  -- what Phi_e(X^p) is to be
  abbrev wanted : ℕ → P.Carrier
  wanted e = phi (suc p *ₙ e) * old e

  abbrev image : ℕ → P.Carrier
  image e = F.map (phi e)

  wanted_monic : (i : ℕ) → M.IsMonic (wanted (suc i))
  wanted_monic i = M.monic_mul (phi (suc p *ₙ suc i)) (old (suc i)) (subst (λ z. M.IsMonic (phi z)) (let e : suc (p +ₙ suc p *ₙ i) ≡ suc p *ₙ suc i = omega arith in e) (monic (p +ₙ suc p *ₙ i))) (at (is_divisor (suc p) (suc i)))
    where
      at : (b : Bool) → M.IsMonic (cond b 𝟙 (phi (suc i)))
      at true = M.monic_one
      at false = monic i

  -- the terms at multiples of p, and the others
  multiples : ℕ → ℕ → P.Carrier
  multiples m i = cond (is_divisor (suc p) (suc i)) (part P.ops phi (suc p *ₙ m) i) 𝟙

  others : ℕ → ℕ → P.Carrier
  others m i = cond (is_divisor (suc p) (suc i)) 𝟙 (part P.ops phi m i)

  split : (m i : ℕ) → part P.ops phi (suc p *ₙ m) i ≡ multiples m i * others m i
  unfolding multiples others
  split m i = go (divisor_cases (suc p) (suc i))
    where
      go : ((is_divisor (suc p) (suc i) ≡ true) × Dvd (suc p) (suc i)) ⊎ ((is_divisor (suc p) (suc i) ≡ false) × (Dvd (suc p) (suc i) → ⊥)) → part P.ops phi (suc p *ₙ m) i ≡ multiples m i * others m i
      go (inl (t, d)) = sym (mul_one P (part P.ops phi (suc p *ₙ m) i)) ∙ sym (ap (λ b. cond b (part P.ops phi (suc p *ₙ m) i) 𝟙 * cond b 𝟙 (part P.ops phi m i)) t)
      go (inr (t, n)) = same (divisor_cases (suc i) m) ∙ sym (P.one_mul (part P.ops phi m i)) ∙ sym (ap (λ b. cond b (part P.ops phi (suc p *ₙ m) i) 𝟙 * cond b 𝟙 (part P.ops phi m i)) t)
        where
          smaller : Dvd (suc i) (suc p *ₙ m) → (Dvd (suc i) m → ⊥) → ⊥
          smaller d none = either (primal (suc i) m d)
            where
              either : (Dvd (suc p) (suc i)) ⊎ (Dvd (suc i) m) → ⊥
              either (inl a) = n a
              either (inr b) = none b

          same : ((is_divisor (suc i) m ≡ true) × Dvd (suc i) m) ⊎ ((is_divisor (suc i) m ≡ false) × (Dvd (suc i) m → ⊥)) → part P.ops phi (suc p *ₙ m) i ≡ part P.ops phi m i
          same (inl (u, d)) = part_yes P x phi (suc p *ₙ m) i (Dvd_multiple (suc i) m (suc p) d) ∙ sym (part_yes P x phi m i d)
          same (inr (u, d)) = part_no P x phi (suc p *ₙ m) i (λ e. smaller e d) ∙ sym (part_no P x phi m i d)

  of_multiples : (m : ℕ) → total (muls P.ops) (suc p *ₙ m) (multiples m) ≡ total (muls P.ops) m (λ j. cond (is_divisor (suc j) m) (phi (suc p *ₙ suc j)) 𝟙)
  unfolding multiples
  of_multiples m = total_multiples (muls P.ops) (mul_laws P) p m (multiples m) (λ i n. ap (λ b. cond b (part P.ops phi (suc p *ₙ m) i) 𝟙) (divisor_no (suc p) (suc i) n)) ∙ total_cong (muls P.ops) (mul_laws P) m (λ j. multiples m (suc p *ₙ j +ₙ p)) (λ j. cond (is_divisor (suc j) m) (phi (suc p *ₙ suc j)) 𝟙) (λ j l. place j (suc p *ₙ j +ₙ p) (omega arith))
    where
      place : (j i : ℕ) → suc i ≡ suc p *ₙ suc j → multiples m i ≡ cond (is_divisor (suc j) m) (phi (suc p *ₙ suc j)) 𝟙
      place j i e = ap (λ b. cond b (part P.ops phi (suc p *ₙ m) i) 𝟙) (divisor_yes (suc p) (suc i) (suc j, e ∙ mul_comm (suc p) (suc j))) ∙ go (divisor_cases (suc j) m)
        where
          go : ((is_divisor (suc j) m ≡ true) × Dvd (suc j) m) ⊎ ((is_divisor (suc j) m ≡ false) × (Dvd (suc j) m → ⊥)) → part P.ops phi (suc p *ₙ m) i ≡ cond (is_divisor (suc j) m) (phi (suc p *ₙ suc j)) 𝟙
          go (inl (t, d)) = part_yes P x phi (suc p *ₙ m) i (subst (λ z. Dvd z (suc p *ₙ m)) (sym e) (Dvd_scaled (suc p) (suc j) m d)) ∙ ap phi e ∙ sym (ap (λ b. cond b (phi (suc p *ₙ suc j)) 𝟙) t)
          go (inr (t, d)) = part_no P x phi (suc p *ₙ m) i (λ h. d (Dvd_unscaled (suc p) (suc j) m (zero-lt-suc p) (subst (λ z. Dvd z (suc p *ₙ m)) e h))) ∙ sym (ap (λ b. cond b (phi (suc p *ₙ suc j)) 𝟙) t)

  of_others : (k : ℕ) → total (muls P.ops) (suc p *ₙ suc k) (others (suc k)) ≡ total (muls P.ops) (suc k) (others (suc k))
  unfolding others
  of_others k = at (suc p *ₙ suc k) (omega arith) ∙ total_split (muls P.ops) (mul_laws P) (suc k) (p *ₙ suc k) (others (suc k)) ∙ ap (λ z. total (muls P.ops) (suc k) (others (suc k)) * z) (total_units (muls P.ops) (mul_laws P) (p *ₙ suc k) (λ i. others (suc k) (suc k +ₙ i)) (λ i l. none i)) ∙ mul_one P (total (muls P.ops) (suc k) (others (suc k)))
    where
      at : (n : ℕ) → n ≡ suc k +ₙ p *ₙ suc k → total (muls P.ops) n (others (suc k)) ≡ total (muls P.ops) (suc k +ₙ p *ₙ suc k) (others (suc k))
      at n e = ap (λ z. total (muls P.ops) z (others (suc k))) e

      none : (i : ℕ) → others (suc k) (suc k +ₙ i) ≡ 𝟙
      none i = ap (λ z. cond (is_divisor (suc p) (suc (suc k +ₙ i))) 𝟙 z) (part_no P x phi (suc k) (suc k +ₙ i) (larger_no (suc (suc k +ₙ i)) (suc k) (zero-lt-suc k) (omega arith))) ∙ flat (is_divisor (suc p) (suc (suc k +ₙ i)))
        where
          flat : (b : Bool) → cond b 𝟙 𝟙 ≡ 𝟙
          flat true = refl
          flat false = refl

  -- the products over the divisors of p m and of m
  products : (k : ℕ) → over_divisors P.ops phi (suc p *ₙ suc k) (suc p *ₙ suc k) ≡ over_divisors P.ops wanted (suc k) (suc k)
  unfolding others
  products k = total_cong (muls P.ops) (mul_laws P) (suc p *ₙ suc k) (part P.ops phi (suc p *ₙ suc k)) (λ i. multiples (suc k) i * others (suc k) i) (λ i l. split (suc k) i) ∙ total-op (muls P.ops) (mul_laws P) (suc p *ₙ suc k) (multiples (suc k)) (others (suc k)) ∙ ap₂ (λ y z. y * z) (of_multiples (suc k)) (of_others k) ∙ sym (total-op (muls P.ops) (mul_laws P) (suc k) (λ j. cond (is_divisor (suc j) (suc k)) (phi (suc p *ₙ suc j)) 𝟙) (others (suc k))) ∙ total_cong (muls P.ops) (mul_laws P) (suc k) (λ j. cond (is_divisor (suc j) (suc k)) (phi (suc p *ₙ suc j)) 𝟙 * others (suc k) j) (part P.ops wanted (suc k)) (λ j l. place j)
    where
      place : (j : ℕ) → cond (is_divisor (suc j) (suc k)) (phi (suc p *ₙ suc j)) 𝟙 * others (suc k) j ≡ part P.ops wanted (suc k) j
      place j = at (is_divisor (suc j) (suc k)) (is_divisor (suc p) (suc j))
        where
          at : (b c : Bool) → cond b (phi (suc p *ₙ suc j)) 𝟙 * cond c 𝟙 (cond b (phi (suc j)) 𝟙) ≡ cond b (phi (suc p *ₙ suc j) * cond c 𝟙 (phi (suc j))) 𝟙
          at true c = refl
          at false true = mul_one P 𝟙
          at false false = mul_one P 𝟙

  image_products : (k : ℕ) → over_divisors P.ops image (suc k) (suc k) ≡ over_divisors P.ops wanted (suc k) (suc k)
  image_products k = image_law P P F x phi (power P.ops x (suc p)) to_power (suc k) (law k) ∙ ap (λ z. less P.ops z 𝟙) (sym (power-mul P x (suc p) (suc k))) ∙ sym (subst (λ n. IsProductAt P.ops x phi n) (let e : suc (p +ₙ suc p *ₙ k) ≡ suc p *ₙ suc k = omega arith in e) (law (p +ₙ suc p *ₙ k))) ∙ products k

  wanted_upto_monic : (m n : ℕ) → M.IsMonic (over_divisors P.ops wanted m n)
  wanted_upto_monic m zero = M.monic_one
  wanted_upto_monic m (suc n) = M.monic_mul (over_divisors P.ops wanted m n) (part P.ops wanted m n) (wanted_upto_monic m n) (by_part P x wanted M.IsMonic m n (λ d. wanted_monic n) M.monic_one)

  below : (n k : ℕ) → k < n → image (suc k) ≡ wanted (suc k)
  below zero k l = absurd (omega arith)
  below (suc n) k l = own (λ i s. below n i (omega arith))
    where
      own : ((i : ℕ) → i < k → image (suc i) ≡ wanted (suc i)) → image (suc k) ≡ wanted (suc k)
      own r = M.cancel (over_divisors P.ops wanted (suc k) k) (image (suc k)) (wanted (suc k)) (wanted_upto_monic (suc k) k) (ap₂ (λ y z. y * z) (sym earlier) (sym (own_part P x image k)) ∙ image_products k ∙ ap (λ z. over_divisors P.ops wanted (suc k) k * z) (own_part P x wanted k))
        where
          earlier : over_divisors P.ops image (suc k) k ≡ over_divisors P.ops wanted (suc k) k
          earlier = total_cong (muls P.ops) (mul_laws P) k (part P.ops image (suc k)) (part P.ops wanted (suc k)) (λ i s. ap (λ z. cond (is_divisor (suc i) (suc k)) z 𝟙) (r i s))

  -- Phi_k(X^p)
  pub image_is : (k : ℕ) → F.map (phi (suc k)) ≡ phi (suc p *ₙ suc k) * cond (is_divisor (suc p) (suc k)) 𝟙 (phi (suc k))
  image_is k = below (suc k) k (omega arith)
