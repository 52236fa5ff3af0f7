-- Polynomials as lists of coefficients, the constant one first, over the operations of a ring.
use Rattle.std.specs.Prelude.{◌≡◌, ℕ, ◌-◌, ◌<◌, ◌&&◌, Bool, true, eqb, List, [], ◌∷◌, ◌++◌, map, length, get_or, take, replicate}
use Rattle.algebra.specs.Ring.{Ops}
use Rattle.algebra.specs.Series.{Series}

-- each element of the list is held
abbrev pub all_held : {C : Type 0} → (C → Bool) → List C → Bool
all_held held [] = true
all_held held (a ∷ f) = held a && all_held held f

-- a list of n held elements
abbrev pub row_held : {C : Type 0} → (C → Bool) → ℕ → List C → Bool
row_held held n f = eqb (length f) n && all_held held f

module _ {C : Type 0} (o : Ops C) where
  -- the coefficients of a list: those past its end are 0
  abbrev pub coeff : List C → Series C
  coeff f i = get_or f i o.zero

  -- the same polynomial, with any number of zeros at the end
  abbrev pub SameCoeffs : List C → List C → Type 0
  SameCoeffs f g = (i : ℕ) → coeff f i ≡ coeff g i

  abbrev pub sum : List C → C
  sum [] = o.zero
  sum (x ∷ xs) = o.add x (sum xs)

  -- the value at x
  abbrev pub value_at : C → List C → C
  value_at x [] = o.zero
  value_at x (a ∷ f) = o.add a (o.mul x (value_at x f))

  abbrev pub plus : List C → List C → List C
  plus [] g = g
  plus (a ∷ f) [] = a ∷ f
  plus (a ∷ f) (b ∷ g) = o.add a b ∷ plus f g

  abbrev pub negated : List C → List C
  negated f = map o.neg f

  abbrev pub scaled : C → List C → List C
  scaled a f = map (o.mul a) f

  -- the schoolbook product
  unfoldable pub times : List C → List C → List C
  times [] g = []
  times (a ∷ f) g = plus (scaled a g) (o.zero ∷ times f g)

  -- X^k
  abbrev pub monomial : ℕ → List C
  monomial k = replicate k o.zero ++ o.one ∷ []

  -- f(X^k), for k above 0
  unfoldable pub at_power : ℕ → List C → List C
  at_power k [] = []
  at_power k (a ∷ f) = a ∷ (replicate (k - 1) o.zero ++ at_power k f)

  -- What follows divides by a monic polynomial g, whose last coefficient is 1.
  abbrev pub degree_of : List C → ℕ
  degree_of g = length g - 1

  pub record IsMonic (g : List C) : Type 0 where
    pub filled : 0 < length g
    pub top : coeff g (degree_of g) ≡ o.one

  abbrev pub top : List C → List C → C
  top g w = coeff w (degree_of g)

  -- w, of at most the degree of g, less its top coefficient times g
  abbrev pub reduced : List C → List C → List C
  reduced g w = take (degree_of g) (plus w (scaled (o.neg (top g w)) g))

  -- long division: the remainder of a + X f is that of a + X r, where r is the remainder of f
  unfoldable pub remainder : List C → List C → List C
  remainder g [] = replicate (degree_of g) o.zero
  remainder g (a ∷ f) = reduced g (a ∷ remainder g f)

  unfoldable pub quotient_digits : List C → List C → List C
  quotient_digits g [] = []
  quotient_digits g (a ∷ f) = top g (a ∷ remainder g f) ∷ quotient_digits g f

  unfoldable pub quotient_by : List C → List C → List C
  quotient_by g f = take (length f - degree_of g) (quotient_digits g f)

  -- what quotient and remainder are: f = q g + r
  pub record IsDivided (g f q r : List C) : Type 0 where
    pub quotient_long : length q ≡ length f - degree_of g
    pub remainder_long : length r ≡ degree_of g
    pub sum_is : SameCoeffs (plus (times q g) r) f

  -- the polynomials modulo g
  abbrev pub modulo : List C → Ops (List C)
  modulo g = record {
    zero = remainder g [];
    one = remainder g (o.one ∷ []);
    add = plus;
    mul = λ a b. remainder g (times a b);
    neg = negated;
  }
