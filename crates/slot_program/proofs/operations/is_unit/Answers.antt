use Rattle.std.proofs.Common.{◌<◌, arith}
use Rattle.std.proofs.lemmas.Grind.{common_steps}
use Rattle.slot_program.proofs.EuclidSteps.{euclid_more, euclid_end}
use Rattle.slot_program.proofs.operations.is_unit.Goals as goal

pub euclid-preserved : goal.euclid-preserved
euclid-preserved c =
    let positive : 0 < c.euclid.b = grind (arith, common_steps) in
    euclid_more c.args.k c.args.m c.euclid.a c.euclid.b positive c.euclid.invariant

pub returns : goal.returns
returns c =
    let same = rw c.euclid-test.false at c.euclid.invariant in
    euclid_end c.args.k c.args.m c.euclid.a c.requires.k_in c.requires.m_in same
