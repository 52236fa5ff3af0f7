-- What the map that takes X to X^p keeps.
use Rattle.std.specs.Prelude.{◌≡◌, ℕ, ◌+◌, ◌^◌, ◌<◌, List, map, ℤ}
use Rattle.algebra.specs.Ring.{residues}
use Rattle.algebra.specs.Power.{power}
use Rattle.algebra.specs.Poly.{value_at, at_power, remainder}
use Rattle.algebra.specs.Whole.{residue}
use Rattle.ext_field.specs.Element.{Extension, IsElement, elements, number, eta, frob, frob_times}

pub record FrobeniusLaw (f : Extension) : Type 0 where
  -- elements, sums, products, 0 and 1
  pub element : (a : List ℕ) → IsElement f a → IsElement f (frob f a)
  pub sums : (a b : List ℕ) → IsElement f a → IsElement f b → frob f ((elements f).add a b) ≡ (elements f).add (frob f a) (frob f b)
  pub products : (a b : List ℕ) → IsElement f a → IsElement f b → frob f ((elements f).mul a b) ≡ (elements f).mul (frob f a) (frob f b)
  pub zero : frob f (elements f).zero ≡ (elements f).zero
  pub one : frob f (elements f).one ≡ (elements f).one
  -- numbers stay, and X becomes X^p
  pub numbers : (c : ℕ) → c < f.p → frob f (number f c) ≡ number f c
  pub root : frob f (eta f) ≡ power (elements f) (eta f) f.p
  -- a whole polynomial at x becomes the same polynomial at frob(x)
  pub values : (x : List ℕ) → IsElement f x → (a : List ℤ) → frob f (value_at (elements f) x (map (λ k. number f (residue f.p k)) a)) ≡ value_at (elements f) (frob f x) (map (λ k. number f (residue f.p k)) a)
  -- t times the map, and then s times
  pub repeated : (s t : ℕ) (a : List ℕ) → frob_times f (s + t) a ≡ frob_times f s (frob_times f t a)
  -- t times the map puts X^(p^t) for X
  pub times : (t : ℕ) (a : List ℕ) → IsElement f a → frob_times f t a ≡ remainder (residues f.p) f.factor (at_power (residues f.p) (f.p ^ t) a)
