-- Commutative rings with one: the operations on a carrier, and the laws as a fact about them.
use Rattle.std.specs.Prelude.{◌≡◌, ℕ, ◌+◌, ◌-◌, ◌*◌, ◌%◌, Bool, IsTrue, ℤ, pos, ◌+ℤ◌, ◌*ℤ◌, neg_ℤ}

pub record Ops (C : Type 0) : Type 0 where
  pub zero : C
  pub one : C
  pub add : C → C → C
  pub mul : C → C → C
  pub neg : C → C

pub record RingLaws {C : Type 0} (o : Ops C) : Type 0 where
  pub add_assoc : (a b c : C) → o.add (o.add a b) c ≡ o.add a (o.add b c)
  pub add_comm : (a b : C) → o.add a b ≡ o.add b a
  pub zero_add : (a : C) → o.add o.zero a ≡ a
  pub neg_add : (a : C) → o.add (o.neg a) a ≡ o.zero
  pub mul_assoc : (a b c : C) → o.mul (o.mul a b) c ≡ o.mul a (o.mul b c)
  pub mul_comm : (a b : C) → o.mul a b ≡ o.mul b a
  pub one_mul : (a : C) → o.mul o.one a ≡ a
  pub add_mul : (a b c : C) → o.mul (o.add a b) c ≡ o.add (o.mul a c) (o.mul b c)

-- The same laws for those elements of the carrier that are held, which the operations keep.
pub record HeldLaws {C : Type 0} (held : C → Bool) (o : Ops C) : Type 0 where
  pub zero_held : IsTrue (held o.zero)
  pub one_held : IsTrue (held o.one)
  pub add_held : (a b : C) → IsTrue (held a) → IsTrue (held b) → IsTrue (held (o.add a b))
  pub mul_held : (a b : C) → IsTrue (held a) → IsTrue (held b) → IsTrue (held (o.mul a b))
  pub neg_held : (a : C) → IsTrue (held a) → IsTrue (held (o.neg a))
  pub add_assoc : (a b c : C) → IsTrue (held a) → IsTrue (held b) → IsTrue (held c) → o.add (o.add a b) c ≡ o.add a (o.add b c)
  pub add_comm : (a b : C) → IsTrue (held a) → IsTrue (held b) → o.add a b ≡ o.add b a
  pub zero_add : (a : C) → IsTrue (held a) → o.add o.zero a ≡ a
  pub neg_add : (a : C) → IsTrue (held a) → o.add (o.neg a) a ≡ o.zero
  pub mul_assoc : (a b c : C) → IsTrue (held a) → IsTrue (held b) → IsTrue (held c) → o.mul (o.mul a b) c ≡ o.mul a (o.mul b c)
  pub mul_comm : (a b : C) → IsTrue (held a) → IsTrue (held b) → o.mul a b ≡ o.mul b a
  pub one_mul : (a : C) → IsTrue (held a) → o.mul o.one a ≡ a
  pub add_mul : (a b c : C) → IsTrue (held a) → IsTrue (held b) → IsTrue (held c) → o.mul (o.add a b) c ≡ o.add (o.mul a c) (o.mul b c)

-- A ring with its laws: the form that proofs take as one parameter.
pub record CommRing : Type 1 where
  pub Carrier : Type 0
  pub ops : Ops Carrier
  pub open ops use *
  pub laws : RingLaws ops
  pub open laws use *

abbrev pub whole_numbers : Ops ℤ
whole_numbers = record { zero = pos 0; one = pos 1; add = ◌+ℤ◌; mul = ◌*ℤ◌; neg = neg_ℤ }

-- The residues modulo q, as the numbers below q.
abbrev pub residues : ℕ → Ops ℕ
residues q = record { zero = 0; one = 1 % q; add = λ a b. (a + b) % q; mul = λ a b. (a * b) % q; neg = λ a. (q - a % q) % q }
