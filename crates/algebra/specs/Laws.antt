-- Laws over every ring, as the functions of src/ state them: for the elements of a carrier that are held.
use Rattle.std.specs.Prelude.{◌≡◌, ℕ, suc, ◌+◌, ◌-◌, ◌*◌, ◌<◌, Bool, IsTrue, List, length}
use Rattle.algebra.specs.Ring.{Ops, HeldLaws}
use Rattle.algebra.specs.Range.{total, adds}
use Rattle.algebra.specs.Power.{power, geometric, less, Divides}
use Rattle.algebra.specs.Series.{spread}
use Rattle.algebra.specs.Expression.{Expr, Same, value}
use Rattle.algebra.specs.Poly.{all_held, row_held, coeff, SameCoeffs, plus, times, at_power, value_at, degree_of, IsMonic, remainder, quotient_by, IsDivided, modulo}

module _ {C : Type 0} (held : C → Bool) (o : Ops C) where
  -- powers under sums and products of exponents, and the geometric sum
  pub record PowerLaw : Type 0 where
    pub sums : (x : C) → IsTrue (held x) → (m n : ℕ) → power o x (m + n) ≡ o.mul (power o x m) (power o x n)
    pub products : (x : C) → IsTrue (held x) → (m n : ℕ) → power o x (m * n) ≡ power o (power o x m) n
    pub geometric_sum : (x : C) → IsTrue (held x) → (n : ℕ) → o.mul (less o x o.one) (geometric o x n) ≡ less o (power o x n) o.one
    pub divides : (x : C) → IsTrue (held x) → (m n : ℕ) → Divides o (less o (power o x m) o.one) (less o (power o x (m * n)) o.one)

  -- the coefficients of a sum are the sums
  abbrev pub SumLaw : Type 0
  SumLaw = (f g : List C) → IsTrue (all_held held f) → IsTrue (all_held held g) → (i : ℕ) → coeff o (plus o f g) i ≡ o.add (coeff o f i) (coeff o g i)

  -- coefficient i of a product is the sum of f j g (i - j) over j from 0 to i
  abbrev pub ProductLaw : Type 0
  ProductLaw = (f g : List C) → IsTrue (all_held held f) → IsTrue (all_held held g) → (i : ℕ) → coeff o (times o f g) i ≡ total (adds o) (suc i) (λ j. o.mul (coeff o f j) (coeff o g (i - j)))

  -- coefficient i of f is coefficient k i of f(X^k), which has no others
  abbrev pub SubstitutionLaw : Type 0
  SubstitutionLaw = (k : ℕ) → 0 < k → (f : List C) → IsTrue (all_held held f) → (i : ℕ) → coeff o (at_power o k f) i ≡ spread o k (coeff o f) i

  -- the value at x is the sum of the coefficients times powers of x
  abbrev pub ValueLaw : Type 0
  ValueLaw = (x : C) → IsTrue (held x) → (f : List C) → IsTrue (all_held held f) → value_at o x f ≡ total (adds o) (length f) (λ i. o.mul (coeff o f i) (power o x i))

  -- evaluation keeps sums and products, and takes f(X^k) at x to f at x^k
  pub record EvaluationLaw : Type 0 where
    pub of_plus : (x : C) → IsTrue (held x) → (f g : List C) → IsTrue (all_held held f) → IsTrue (all_held held g) → value_at o x (plus o f g) ≡ o.add (value_at o x f) (value_at o x g)
    pub of_times : (x : C) → IsTrue (held x) → (f g : List C) → IsTrue (all_held held f) → IsTrue (all_held held g) → value_at o x (times o f g) ≡ o.mul (value_at o x f) (value_at o x g)
    pub of_at_power : (k : ℕ) → 0 < k → (x : C) → IsTrue (held x) → (f : List C) → IsTrue (all_held held f) → value_at o x (at_power o k f) ≡ value_at o (power o x k) f
    pub of_remainder : (x : C) → IsTrue (held x) → (g f : List C) → IsTrue (all_held held g) → IsTrue (all_held held f) → IsMonic o g → value_at o x g ≡ o.zero → value_at o x (remainder o g f) ≡ value_at o x f

  -- substitution of X^k for X keeps sums and products
  pub record SubstitutionKeeps : Type 0 where
    pub sums : (k : ℕ) → 0 < k → (f g : List C) → IsTrue (all_held held f) → IsTrue (all_held held g) → SameCoeffs o (at_power o k (plus o f g)) (plus o (at_power o k f) (at_power o k g))
    pub products : (k : ℕ) → 0 < k → (f g : List C) → IsTrue (all_held held f) → IsTrue (all_held held g) → SameCoeffs o (at_power o k (times o f g)) (times o (at_power o k f) (at_power o k g))

  -- long division by a monic list gives a quotient and a remainder, and the only ones
  pub record DivisionLaw : Type 0 where
    pub divides : (g f : List C) → IsTrue (all_held held g) → IsTrue (all_held held f) → IsMonic o g → IsDivided o g f (quotient_by o g f) (remainder o g f)
    pub only : (g f q r : List C) → IsTrue (all_held held g) → IsTrue (all_held held f) → IsTrue (all_held held q) → IsTrue (all_held held r) → IsMonic o g → IsDivided o g f q r → (q ≡ quotient_by o g f) × (r ≡ remainder o g f)

  -- the remainder by g keeps sums and products, sees coefficients alone, and leaves what is short
  pub record RemainderLaw : Type 0 where
    pub of_plus : (g : List C) → IsTrue (all_held held g) → IsMonic o g → (f h : List C) → IsTrue (all_held held f) → IsTrue (all_held held h) → remainder o g (plus o f h) ≡ plus o (remainder o g f) (remainder o g h)
    pub of_times : (g : List C) → IsTrue (all_held held g) → IsMonic o g → (f h : List C) → IsTrue (all_held held f) → IsTrue (all_held held h) → remainder o g (times o f h) ≡ (modulo o g).mul (remainder o g f) (remainder o g h)
    pub same : (g : List C) → IsTrue (all_held held g) → IsMonic o g → (f h : List C) → IsTrue (all_held held f) → IsTrue (all_held held h) → SameCoeffs o f h → remainder o g f ≡ remainder o g h
    pub small : (g : List C) → IsTrue (all_held held g) → IsMonic o g → (f : List C) → IsTrue (all_held held f) → length f ≡ degree_of o g → remainder o g f ≡ f

  -- the lists of the degree's length are a ring under sum and product modulo g
  abbrev pub QuotientLaw : Type 0
  QuotientLaw = (g : List C) → IsTrue (all_held held g) → IsMonic o g → HeldLaws (row_held held (degree_of o g)) (modulo o g)

  -- expressions with one normal form have one value
  abbrev pub SolverLaw : Type 0
  SolverLaw = (at : ℕ → C) → ((n : ℕ) → IsTrue (held (at n))) → (a b : Expr) → Same a b → value o at a ≡ value o at b
