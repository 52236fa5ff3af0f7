use Rattle.std.proofs.Common.{ap, arith}
use Rattle.cyclotomic.specs.Cyclotomic.{degree}
use Rattle.cyclotomic.proofs.PhiLaws.{degree_is_units}
use Rattle.table_file.proofs.accepting.ring_tables.Goals as goal

pub new-requires-2-clause-weight_most : goal.new-requires-2-clause-weight_most
new-requires-2-clause-weight_most c =
    omega (arith, c.requires.light, c.requires.m_low, degree_is_units c.args.cyclo.now (omega (arith, c.requires.m_low)), ap degree c.in_ok-cyclo.ensures, ap (λ k. k.weight) c.document.view_is)
