-- The least divisor above 1 is prime.
use Rattle.std.specs.Prelude.{◌≡◌, ℕ, zero, suc, ◌+◌, ◌*◌, ◌%◌, ◌<◌, ◌≤◌, ◌⊎◌}
use Rattle.std.proofs.Common.{◌∙◌, subst, inl, inr, arith, zero-lt-suc, mul_comm, eq-or-lt_of_le, eqb-true}
use Rattle.std.proofs.lemmas.Bool.{cases_lt, cases_order}
use Rattle.algebra.specs.Divisor.{Dvd}
use Rattle.algebra.proofs.Divisors.{divisor_yes, Dvd_trans, Dvd_le, Dvd_positive}
use Rattle.algebra.proofs.Euclid.{Euclid, euclid}
use Rattle.algebra.proofs.Units.{unit_cancels}
use Rattle.cyclo_poly.specs.Primes.{IsPrime}

pub least_is_prime : (p r : ℕ) → 1 < p → Dvd p r → ((e : ℕ) → 1 < e → e < p → Dvd e r → ⊥) → IsPrime p
least_is_prime p r above divides least = record { above = above; euclid = lemma }
  where
    lemma : (e k : ℕ) → Dvd e (p * k) → (Dvd p e) ⊎ (Dvd e k)
    lemma zero k h = inr (0, none p k above (h.1 ∙ (let z : h.0 * 0 ≡ 0 = omega arith in z)))
      where
        none : (p k : ℕ) → 1 < p → p * k ≡ 0 → k ≡ 0 * 0
        none p zero a h = omega arith
        none (suc (suc p)) (suc k) a h = absurd (omega arith)
        none (suc zero) (suc k) a h = absurd (omega arith)
        none zero (suc k) a h = absurd (omega arith)
    lemma (suc e) k h = go (euclid p (suc e) (omega arith) (zero-lt-suc e))
      where
        go : Euclid p (suc e) → (Dvd p (suc e)) ⊎ (Dvd (suc e) k)
        go E = by (cases_order E.g 1)
          where
            g_divides : Dvd E.g p
            g_divides = (E.of_a, E.divides_a)

            large : 1 < E.g → Dvd p (suc e)
            large l = at (cases_lt E.g p)
              where
                at : (E.g < p) ⊎ (p ≤ E.g) → Dvd p (suc e)
                at (inl s) = absurd (least E.g l s (Dvd_trans E.g p r g_divides divides))
                at (inr s) = subst (λ z. Dvd z (suc e)) (let q : E.g ≡ p = omega (arith, Dvd_le E.g p (omega arith) g_divides) in q) (E.of_b, E.divides_b)

            by : (E.g ≡ 1) ⊎ ((E.g < 1) ⊎ (1 < E.g)) → (Dvd p (suc e)) ⊎ (Dvd (suc e) k)
            by (inl u) = inr (unit_cancels (suc e) p k (E.u, E.v, mul_comm p E.u ∙ E.sum ∙ omega (arith, u, mul_comm E.v (suc e))) h)
            by (inr (inl l)) = absurd (omega (arith, Dvd_positive E.g p (omega arith) g_divides))
            by (inr (inr l)) = inl (large l)

-- one number more that does not divide r
pub none_below_more : (p r : ℕ) → ((e : ℕ) → 1 < e → e < p → Dvd e r → ⊥) → (r % p ≡ 0 → ⊥) → (e : ℕ) → 1 < e → e < p + 1 → Dvd e r → ⊥
none_below_more p r h n e a l d = go (eq-or-lt_of_le (let k : e ≤ p = omega arith in k))
  where
    go : (e ≡ p) ⊎ (e < p) → ⊥
    go (inl s) = n (eqb-true (r % p) 0 (divisor_yes p r (subst (λ z. Dvd z r) s d)))
    go (inr s) = h e a s d
