-- What is said of roots of unity, and of the values at their powers, over every ring: `held` tests the elements that count.
use Rattle.std.specs.Prelude.{◌≡◌, ℕ, ◌<◌, Bool, IsTrue, List, map, length, get_or, ℤ}
use Rattle.algebra.specs.Ring.{Ops, whole_numbers}
use Rattle.algebra.specs.Hom.{Preserves}
use Rattle.algebra.specs.Power.{less, power, number}
use Rattle.algebra.specs.Divisor.{Dvd, UnitModulo, units}
use Rattle.algebra.specs.Poly.{all_held, value_at, remainder}
use Rattle.cyclotomic.specs.Roots.{transform}
use Rattle.cyclotomic.specs.Cyclotomic.{phi, degree}

module _ {C : Type 0} (held : C → Bool) (o : Ops C) where
  -- a has an inverse among the held elements
  abbrev pub HasHeldInverse : C → Type 0
  HasHeldInverse a = (c : C) × IsTrue (held c) × (o.mul a c ≡ o.one)

  -- w^m is 1, and for each divisor k of m below m the difference w^k - 1 has an inverse
  pub record IsHeldRoot (w : C) (m : ℕ) : Type 0 where
    pub held_root : IsTrue (held w)
    pub root : power o w m ≡ o.one
    pub at_divisors : (k : ℕ) → 0 < k → k < m → Dvd k m → HasHeldInverse (less o (power o w k) o.one)

  -- then each difference of two powers of w below m has an inverse
  abbrev pub RootsDiffer : Type 0
  RootsDiffer = (w : C) (m i j : ℕ) → 0 < m → IsHeldRoot w m → i < m → j < i → HasHeldInverse (less o (power o w i) (power o w j))

  -- v is the inverse of the root w
  pub record IsRootPair (w v : C) (m : ℕ) : Type 0 where
    pub is_root : IsHeldRoot w m
    pub held_inverse : IsTrue (held v)
    pub inverse : o.mul w v ≡ o.one

  -- the transform by w, then that by its inverse, is the product with m; so is the other order
  pub record TransformsUndo (w v : C) (m : ℕ) (a : ℕ → C) : Type 0 where
    pub back : (k : ℕ) → k < m → transform o v m (transform o w m a) k ≡ o.mul (a k) (number o m)
    pub forth : (k : ℕ) → k < m → transform o w m (transform o v m a) k ≡ o.mul (a k) (number o m)

  abbrev pub TransformLaw : Type 0
  TransformLaw = (w v : C) (m : ℕ) (a : ℕ → C) → 0 < m → IsRootPair w v m → ((k : ℕ) → IsTrue (held (a k))) → TransformsUndo w v m a

  -- the value at w^j of Phi_m is 0 for a unit j, so the remainder by Phi_m keeps the value
  pub record KeepsValues (f : ℤ → C) (w : C) (m j : ℕ) : Type 0 where
    pub zero : value_at o (power o w j) (map f (phi m)) ≡ o.zero
    pub remainder : (a : List C) → IsTrue (all_held held a) → value_at o (power o w j) (remainder o (map f (phi m)) a) ≡ value_at o (power o w j) a

  abbrev pub ValueLaw : Type 0
  ValueLaw = (f : ℤ → C) (w v : C) (m j : ℕ) → Preserves whole_numbers o f → ((a : ℤ) → IsTrue (held (f a))) → 0 < m → IsRootPair w v m → 0 < j → UnitModulo m j → KeepsValues f w m j

  -- a has n coefficients, and the values b at the powers of w with the units as exponents, in ascending order
  pub record HasValues (w : C) (m : ℕ) (b : ℕ → C) (a : List C) : Type 0 where
    pub long : length a ≡ degree m
    pub is_held : IsTrue (all_held held a)
    pub values : (i : ℕ) → i < degree m → value_at o (power o w (get_or (units m) i 0)) a ≡ b i

  -- there is one such polynomial, where m has an inverse
  abbrev pub ValuesExist : Type 0
  ValuesExist = (f : ℤ → C) (w v : C) (m : ℕ) (b : ℕ → C) → Preserves whole_numbers o f → ((a : ℤ) → IsTrue (held (f a))) → 1 < m → IsRootPair w v m → HasHeldInverse (number o m) → ((i : ℕ) → IsTrue (held (b i))) → (a : List C) × HasValues w m b a

  abbrev pub ValuesDetermine : Type 0
  ValuesDetermine = (w v : C) (m : ℕ) (b : ℕ → C) (a c : List C) → 0 < m → IsRootPair w v m → HasValues w m b a → HasValues w m b c → a ≡ c
