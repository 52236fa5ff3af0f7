-- Sequences of coefficients, the constant one first: formal power series.
-- A polynomial is one that is zero from some place on.
use Rattle.std.specs.Prelude.{◌≡◌, ℕ, zero, suc, ◌/◌, ◌%◌, ◌≤◌, eqb, cond}
use Rattle.algebra.specs.Ring.{Ops}

abbrev pub Series : Type 0 → Type 0
Series C = ℕ → C

-- without the constant coefficient, divided by X
abbrev pub tail : {C : Type 0} → Series C → Series C
tail f n = f (suc n)

-- a + X f
abbrev pub cons : {C : Type 0} → C → Series C → Series C
cons a f zero = a
cons a f (suc n) = f n

module _ {C : Type 0} (o : Ops C) where
  abbrev pub zeros : Series C
  zeros n = o.zero

  abbrev pub const : C → Series C
  const a = cons a zeros

  abbrev pub sum : Series C → Series C → Series C
  sum f g n = o.add (f n) (g n)

  abbrev pub negated : Series C → Series C
  negated f n = o.neg (f n)

  abbrev pub scaled : C → Series C → Series C
  scaled a f n = o.mul a (f n)

  -- (a + X f') g = a g + X f' g
  unfoldable pub product : Series C → Series C → Series C
  product f g zero = o.mul (f zero) (g zero)
  product f g (suc n) = o.add (o.mul (f zero) (g (suc n))) (product (tail f) g n)

  -- X^k f
  abbrev pub shifted : ℕ → Series C → Series C
  shifted zero f = f
  shifted (suc k) f = cons o.zero (shifted k f)

  -- f(X^k), for k above 0
  abbrev pub spread : ℕ → Series C → Series C
  spread k f i = cond (eqb (i % k) 0) (f (i / k)) o.zero

  abbrev pub series : Ops (Series C)
  series = record { zero = zeros; one = const o.one; add = sum; mul = product; neg = negated }

  -- no coefficient at n or above
  abbrev pub Below : ℕ → Series C → Type 0
  Below n f = (i : ℕ) → n ≤ i → f i ≡ o.zero

  -- of degree d with leading coefficient 1
  pub record Monic (d : ℕ) (g : Series C) : Type 0 where
    pub below : Below (suc d) g
    pub top : g d ≡ o.one

  -- f = q g + r, with r below the degree d of g
  pub record IsDivision (d : ℕ) (g f q r : Series C) : Type 0 where
    pub small : Below d r
    pub sum_is : (i : ℕ) → o.add (product q g i) (r i) ≡ f i
