use Rattle.std.proofs.Common.{rules}
use Rattle.packed_clear.proofs.PackedSteps.{turned}
use Rattle.packed_clear.proofs.running.rotated.Goals as goal

pub returns : goal.returns
returns c =
    turned c.args.slots.now.field c.ext.result.now c.args.slots.now.cube c.args.cube.now
    c.ext.ensures.valid c.ext.ensures.value c.requires.same_cube
    c.args.dim c.args.amount c.in_ok-array.array c.in_ok-turned.turned _
    c.in_ok-array.ensures.value c.in_ok-turned.ensures.value c.in_ok-turned.ensures.array c.encode.result (search rules)
