-- The held elements of a carrier, as a carrier of their own.
use Rattle.std.specs.Prelude.{Bool, IsTrue}
use Rattle.algebra.specs.Ring.{Ops, HeldLaws}

abbrev pub Held : {C : Type 0} → (C → Bool) → Type 0
Held {C} held = (a : C) × IsTrue (held a)

module _ {C : Type 0} {held : C → Bool} {o : Ops C} (L : HeldLaws held o) where
  abbrev pub held_ops : Ops (Held held)
  held_ops = record {
    zero = (o.zero, L.zero_held);
    one = (o.one, L.one_held);
    add = λ a b. (o.add a.0 b.0, L.add_held a.0 b.0 a.1 b.1);
    mul = λ a b. (o.mul a.0 b.0, L.mul_held a.0 b.0 a.1 b.1);
    neg = λ a. (o.neg a.0, L.neg_held a.0 a.1);
  }
