use Rattle.std.proofs.Common.{get_or}
use Rattle.table_maker.proofs.Filling.{no_roots, rows-all, rows-fault}
use Rattle.table_maker.proofs.moduli.rows.Goals as goal

pub returns-in_default : goal.returns-in_default
returns-in_default c _ =
    let q = get_or c.args.moduli.now c.loop-i.i 0 in
    rows-fault c.args.m c.args.p c.args.moduli.now c.loop-i.i c.loop-i.rows.items c.loop-i.invariant c.loop-i-test.true
    (no_roots c.args.m c.args.p q c.row.result c.row.ensures c.in_default.is)

pub returns : goal.returns
returns c = rows-all c.args.m c.args.p c.args.moduli.now c.loop-i.i c.loop-i.rows.items c.loop-i.invariant c.loop-i-test.false
