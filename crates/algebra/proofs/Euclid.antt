-- Euclid's algorithm with coefficients, over natural numbers and without subtraction.
use Rattle.std.specs.Prelude.{◌≡◌, ℕ, zero, suc, ◌+◌, ◌-◌, ◌*◌, ◌<◌, ◌≤◌, ◌⊎◌}
use Rattle.std.proofs.Common.{subst, inl, inr, arith, eq-or-lt_of_le}
use native.Mathlib.Decide.{dec_le}

-- g divides a and b, and is u * a less v * b
pub record Euclid (a b : ℕ) : Type 0 where
  pub g : ℕ
  pub u : ℕ
  pub v : ℕ
  pub of_a : ℕ
  pub of_b : ℕ
  pub sum : u * a ≡ v * b + g
  pub divides_a : a ≡ of_a * g
  pub divides_b : b ≡ of_b * g

-- by differences, n above their number
by_fuel : (n a b : ℕ) → a + b ≤ n → 0 < a → 0 < b → Euclid a b
by_fuel zero a b l p q = absurd (omega arith)
by_fuel (suc n) a b l p q = go (by_fuel n) (dec_le a b)
  where
    same : a ≡ b → Euclid a b
    same e = record { g = a; u = 1; v = 0; of_a = 1; of_b = 1; sum = omega arith; divides_a = omega arith; divides_b = omega arith }

    less : a < b → Euclid a (b - a) → Euclid a b
    less s r = record {
      g = r.g;
      u = r.u + r.v;
      v = r.v;
      of_a = r.of_a;
      of_b = r.of_a + r.of_b;
      sum = subst (λ b'. (r.u + r.v) * a ≡ r.v * b' + r.g) (back b a s) (omega (arith, r.sum));
      divides_a = r.divides_a;
      divides_b = omega (arith, r.divides_a, r.divides_b);
    }
      where
        back : (b a : ℕ) → a < b → a + (b - a) ≡ b
        back b a s = omega arith

    more : b < a → Euclid (a - b) b → Euclid a b
    more s r = record {
      g = r.g;
      u = r.u;
      v = r.v + r.u;
      of_a = r.of_a + r.of_b;
      of_b = r.of_b;
      sum = subst (λ a'. r.u * a' ≡ (r.v + r.u) * b + r.g) (back a b s) (omega (arith, r.sum));
      divides_a = omega (arith, r.divides_a, r.divides_b);
      divides_b = r.divides_b;
    }
      where
        back : (a b : ℕ) → b < a → b + (a - b) ≡ a
        back a b s = omega arith

    above : ((a b : ℕ) → a + b ≤ n → 0 < a → 0 < b → Euclid a b) → (a ≡ b) ⊎ (a < b) → Euclid a b
    above r (inl e) = same e
    above r (inr s) = less s (r a (b - a) (omega arith) p (omega arith))

    go : ((a b : ℕ) → a + b ≤ n → 0 < a → 0 < b → Euclid a b) → Dec (a ≤ b) → Euclid a b
    go r (yes h) = above r (eq-or-lt_of_le h)
    go r (no h) = more (omega arith) (r (a - b) b (omega arith) (omega arith) q)

pub euclid : (a b : ℕ) → 0 < a → 0 < b → Euclid a b
euclid a b p q = by_fuel (a + b) a b (omega arith) p q
