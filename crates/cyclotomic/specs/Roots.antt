-- Roots of unity: the test at the divisors, and the transform of m values.
use Rattle.std.specs.Prelude.{◌≡◌, ℕ, ◌*◌, ◌<◌}
use Rattle.algebra.specs.Ring.{Ops}
use Rattle.algebra.specs.Range.{total, adds}
use Rattle.algebra.specs.Power.{less, power, IsUnit}
use Rattle.algebra.specs.Divisor.{Dvd}

module _ {C : Type 0} (o : Ops C) where
  -- w^m is 1, and for each divisor k of m below m the difference w^k - 1 has an inverse
  pub record IsRoot (w : C) (m : ℕ) : Type 0 where
    pub root : power o w m ≡ o.one
    pub at_divisors : (k : ℕ) → 0 < k → k < m → Dvd k m → IsUnit o (less o (power o w k) o.one)

  -- the sum of a_k * w^(j * k) over k < m: the value at w^j of the polynomial with the coefficients a
  abbrev pub transform : C → ℕ → (ℕ → C) → ℕ → C
  transform w m a j = total (adds o) m (λ k. o.mul (a k) (power o w (j * k)))
