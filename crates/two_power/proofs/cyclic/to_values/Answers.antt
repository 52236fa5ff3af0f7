use Rattle.std.proofs.Common.{◌*◌, arith, ◌∙◌}
use Rattle.two_power.proofs.Rows.{each_from_all}
use Rattle.two_power.proofs.cyclic.to_values.Goals as goal

pub descend-requires-clause-node_in : goal.descend-requires-clause-node_in
descend-requires-clause-node_in c = omega arith

pub descend-requires-clause-a_in : goal.descend-requires-clause-a_in
descend-requires-clause-a_in c = each_from_all c.args.q (4 * c.args.q) c.args.row.now (omega arith) (omega arith) c.requires.row_in

pub returns-clause-values : goal.returns-clause-values
returns-clause-values c = λ j m. c.reduce.ensures.value j ∙ c.descend.ensures.values j m
