use Rattle.std.proofs.Common.{arith}
use Rattle.mod_ring.proofs.Barrett.{room, room_low, room_high}
use Rattle.mod_ring.proofs.words.room_above.Goals as goal

pub overflow_sub-result : goal.overflow_sub-result
overflow_sub-result c =
    let j = room c.args.q (omega arith) (omega arith) in
    omega (arith, j.1, j.2)

pub returns-clause-scaled_low : goal.returns-clause-scaled_low
returns-clause-scaled_low c =
    let j = room c.args.q (omega arith) (omega arith) in
    room_low c.args.q j.0 _ (omega (arith, j.1, j.2)) j.3

pub returns-clause-scaled_high : goal.returns-clause-scaled_high
returns-clause-scaled_high c =
    let j = room c.args.q (omega arith) (omega arith) in
    room_high c.args.q j.0 _ (omega (arith, j.1, j.2)) j.4
