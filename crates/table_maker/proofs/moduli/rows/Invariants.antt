use Rattle.table_maker.proofs.Filling.{AreFirstRows}
use Rattle.table_maker.proofs.moduli.rows.Given as goal

abbrev pub invariant-loop-i : goal.invariant-loop-i
invariant-loop-i l = AreFirstRows l.m l.p l.moduli l.i l.rows.items
