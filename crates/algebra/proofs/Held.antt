-- The held elements of a carrier, as a ring of their own.
use Rattle.std.specs.Prelude.{◌≡◌, Bool, true}
use mathlib.Core.HLevel.{Σ_prop_path}
use mathlib.Core.Bool.{Bool-set}
use Rattle.algebra.specs.Ring.{Ops, CommRing, RingLaws, HeldLaws}
use Rattle.algebra.specs.HeldRing.{Held, held_ops}

pub same_held : {C : Type 0} (held : C → Bool) {a b : Held held} → a.0 ≡ b.0 → a ≡ b
same_held held = Σ_prop_path (λ a. Bool-set (held a) true)

module _ {C : Type 0} {held : C → Bool} {o : Ops C} (L : HeldLaws held o) where
  pub held_laws : RingLaws (held_ops L)
  held_laws = record {
    add_assoc = λ a b c. same_held held (L.add_assoc a.0 b.0 c.0 a.1 b.1 c.1);
    add_comm = λ a b. same_held held (L.add_comm a.0 b.0 a.1 b.1);
    zero_add = λ a. same_held held (L.zero_add a.0 a.1);
    neg_add = λ a. same_held held (L.neg_add a.0 a.1);
    mul_assoc = λ a b c. same_held held (L.mul_assoc a.0 b.0 c.0 a.1 b.1 c.1);
    mul_comm = λ a b. same_held held (L.mul_comm a.0 b.0 a.1 b.1);
    one_mul = λ a. same_held held (L.one_mul a.0 a.1);
    add_mul = λ a b c. same_held held (L.add_mul a.0 b.0 c.0 a.1 b.1 c.1);
  }

  abbrev pub held_ring : CommRing
  held_ring = record { Carrier = Held held; ops = held_ops L; laws = held_laws }
