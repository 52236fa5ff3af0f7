-- Sums and products over the numbers below n.
use Rattle.std.specs.Prelude.{◌≡◌, ℕ, zero, suc, ◌+◌}
use Rattle.algebra.specs.Ring.{Ops}

-- An operation with a unit.
pub record Monoid (C : Type 0) : Type 0 where
  pub unit : C
  pub op : C → C → C

pub record MonoidLaws {C : Type 0} (M : Monoid C) : Type 0 where
  pub assoc : (a b c : C) → M.op (M.op a b) c ≡ M.op a (M.op b c)
  pub comm : (a b : C) → M.op a b ≡ M.op b a
  pub unit_op : (a : C) → M.op M.unit a ≡ a

-- f 0 · f 1 · .. · f (n - 1)
abbrev pub total : {C : Type 0} → Monoid C → ℕ → (ℕ → C) → C
total M zero f = M.unit
total M (suc n) f = M.op (total M n f) (f n)

abbrev pub adds : {C : Type 0} → Ops C → Monoid C
adds o = record { unit = o.zero; op = o.add }

abbrev pub muls : {C : Type 0} → Ops C → Monoid C
muls o = record { unit = o.one; op = o.mul }

abbrev pub counts : Monoid ℕ
counts = record { unit = 0; op = ◌+◌ }
