-- Powers, multiples of one, and divisibility, over the operations of a ring.
use Rattle.std.specs.Prelude.{◌≡◌, ℕ, zero, suc}
use Rattle.algebra.specs.Ring.{Ops}
use Rattle.algebra.specs.Range.{total, adds}

module _ {C : Type 0} (o : Ops C) where
  -- a - b
  abbrev pub less : C → C → C
  less a b = o.add a (o.neg b)

  abbrev pub power : C → ℕ → C
  power x zero = o.one
  power x (suc n) = o.mul x (power x n)

  -- 1 + x + .. + x^(n - 1)
  abbrev pub geometric : C → ℕ → C
  geometric x n = total (adds o) n (power x)

  -- 1 + 1 + .. + 1, n times
  abbrev pub number : ℕ → C
  number n = total (adds o) n (λ i. o.one)

  -- b = a c for some c
  abbrev pub Divides : C → C → Type 0
  Divides a b = (c : C) × (b ≡ o.mul a c)

  -- an element with an inverse
  abbrev pub IsUnit : C → Type 0
  IsUnit a = Divides a o.one

  -- c = u a + v b for some u and v
  abbrev pub Meets : C → C → C → Type 0
  Meets a b c = (u : C) × (v : C) × (c ≡ o.add (o.mul u a) (o.mul v b))
