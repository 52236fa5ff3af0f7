use Rattle.std.proofs.Common.{arith, ap, ◌∙◌}
use Rattle.slot_array.specs.Operations.{operand_count}
use Rattle.slot_array.proofs.Formulas.{if_ok_along, first_operand}
use Rattle.slot_array.proofs.operations.apply.Goals as goal

pub returns-in-Rotate-clause-array : goal.returns-in-Rotate-clause-array
returns-in-Rotate-clause-array c = if_ok_along c.rotation.result _ _ (λ y k. k c.args.ext.now (first_operand c.args.ext.now c.args.cube.now c.args.args.now 1 _ c.requires.arrays (c.requires.count ∙ ap operand_count c.in-Rotate.is) (omega arith) c.index-args-0-in-Rotate.is)) c.rotation.ensures.array
