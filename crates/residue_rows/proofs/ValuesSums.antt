-- Values at some powers of a root of unity: the coefficients with given values there and 0 at the other powers, as sums.
use Rattle.std.specs.Prelude.{◌≡◌, ◌≢◌, ◌⊎◌, ℕ, ◌*◌ as ◌*ₙ◌, ◌<◌, true, false, cond, eqb, refl}
use Rattle.std.proofs.Common.{sym, ◌∙◌, ap, inl, inr, eqb-true, eq-eqb}
use Rattle.std.proofs.lemmas.Bool.{cases_Bool}
use Rattle.algebra.specs.Ring.{CommRing}
use Rattle.algebra.specs.Range.{total, adds}
use Rattle.algebra.specs.Power.{power, number}
use Rattle.algebra.proofs.Basic.{zero_mul, mul_zero}
use Rattle.algebra.proofs.Ranges.{total_cong, total_exchange, total_single, total-mul, mul-total, add_laws}
use Rattle.algebra.specs.Expression.{◌:*◌}
use Rattle.algebra.proofs.Solver.{solve3}
use Rattle.cyclotomic.specs.Roots.{IsRoot, transform}
use Rattle.cyclotomic.proofs.Roots.{transform_forth}

module _ (R : CommRing) (w v : R.Carrier) (m : ℕ) (inverse : R.mul w v ≡ R.one) (root : IsRoot R.ops w m) where
  open R use {Carrier as C, ops as o, add as ◌+◌, mul as ◌*◌, zero as 𝟘, one as 𝟙}

  infixl 70 ◌+◌
  infixl 75 ◌*◌
  -- 1 at the place a, else 0
  single : ℕ → ℕ → C
  single a k = cond (eqb k a) 𝟙 𝟘

  single_own : (a : ℕ) → single a a ≡ 𝟙
  unfolding single
  single_own a = ap (λ b. cond b 𝟙 𝟘) (eq-eqb a a refl)

  single_other : (a k : ℕ) → k ≢ a → single a k ≡ 𝟘
  unfolding single
  single_other a k d = go (cases_Bool (eqb k a))
    where
      go : (eqb k a ≡ true) ⊎ (eqb k a ≡ false) → cond (eqb k a) 𝟙 𝟘 ≡ 𝟘
      go (inl e) = absurd (d (eqb-true k a e))
      go (inr e) = ap (λ b. cond b 𝟙 𝟘) e

  single_turned : (a t : ℕ) → a < m → transform o v m (single a) t ≡ power o v (t *ₙ a)
  single_turned a t l = total_single (adds o) (add_laws R) m a (λ k. single a k * power o v (t *ₙ k)) l (λ k q d. ap (λ z. z * power o v (t *ₙ k)) (single_other a k d) ∙ zero_mul R (power o v (t *ₙ k))) ∙ ap (λ z. z * power o v (t *ₙ a)) (single_own a) ∙ R.one_mul (power o v (t *ₙ a))

  -- the sum over t < m of v^(t a) w^(j t)
  abbrev crossed : ℕ → ℕ → C
  crossed a j = total (adds o) m (λ t. power o v (t *ₙ a) * power o w (j *ₙ t))

  crossed_is : (a j : ℕ) → a < m → j < m → crossed a j ≡ single a j * number o m
  crossed_is a j l k = sym (total_cong (adds o) (add_laws R) m (λ t. transform o v m (single a) t * power o w (j *ₙ t)) (λ t. power o v (t *ₙ a) * power o w (j *ₙ t)) (λ t q. ap (λ z. z * power o w (j *ₙ t)) (single_turned a t l))) ∙ transform_forth R w v m inverse root (single a) j k

  module _ (c : C) (scale : c * number o m ≡ 𝟙) (n : ℕ) (point : ℕ → ℕ) (within : (u : ℕ) → u < n → point u < m) (apart : (u i : ℕ) → u < n → i < n → u ≢ i → point u ≢ point i) (b : ℕ → C) where
    -- coefficient t of the polynomial with the values b at the points
    abbrev pub pointed : ℕ → C
    pointed t = c * total (adds o) n (λ u. b u * power o v (t *ₙ point u))

    pub pointed_value : (i : ℕ) → i < n → transform o w m pointed (point i) ≡ b i
    pointed_value i l =
        total_cong (adds o) (add_laws R) m (λ t. pointed t * power o w (point i *ₙ t)) (λ t. c * total (adds o) n (λ u. term u t)) (λ t q. R.mul_assoc c (total (adds o) n (λ u. b u * power o v (t *ₙ point u))) (power o w (point i *ₙ t)) ∙ ap (λ z. c * z) (total-mul R n (λ u. b u * power o v (t *ₙ point u)) (power o w (point i *ₙ t))))
        ∙ sym (mul-total R m (λ t. total (adds o) n (λ u. term u t)) c)
        ∙ ap (λ z. c * z) (total_exchange (adds o) (add_laws R) m n (λ t u. term u t) ∙ total_cong (adds o) (add_laws R) n (λ u. total (adds o) m (term u)) (λ u. b u * crossed (point u) (point i)) (λ u q. total_cong (adds o) (add_laws R) m (term u) (λ t. b u * (power o v (t *ₙ point u) * power o w (point i *ₙ t))) (λ t p. R.mul_assoc (b u) (power o v (t *ₙ point u)) (power o w (point i *ₙ t))) ∙ sym (mul-total R m (λ t. power o v (t *ₙ point u) * power o w (point i *ₙ t)) (b u))) ∙ total_single (adds o) (add_laws R) n i (λ u. b u * crossed (point u) (point i)) l other)
        ∙ ap (λ z. c * (b i * z)) (crossed_is (point i) (point i) (within i l) (within i l) ∙ ap (λ z. z * number o m) (single_own (point i)) ∙ R.one_mul (number o m))
        ∙ solve3 R (λ c b n. c :* (b :* n)) (λ c b n. c :* n :* b) refl c (b i) (number o m)
        ∙ ap (λ z. z * b i) scale
        ∙ R.one_mul (b i)
      where
        term : ℕ → ℕ → C
        term u t = b u * power o v (t *ₙ point u) * power o w (point i *ₙ t)

        other : (u : ℕ) → u < n → u ≢ i → b u * crossed (point u) (point i) ≡ 𝟘
        other u q d = ap (λ z. b u * z) (crossed_is (point u) (point i) (within u q) (within i l) ∙ ap (λ z. z * number o m) (single_other (point u) (point i) (apart i u l q (λ e. d (sym e)))) ∙ zero_mul R (number o m)) ∙ mul_zero R (b u)
