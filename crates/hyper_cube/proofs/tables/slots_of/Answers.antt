use Rattle.std.proofs.Common.{◌≡◌, suc, ◌-◌, ◌<◌, length, arith}
use Rattle.hyper_cube.proofs.Pairs.{count_more, count_part}
use Rattle.hyper_cube.proofs.tables.slots_of.Goals as goal

pub overflow_mul-slots : goal.overflow_mul-slots
overflow_mul-slots c =
    let gs = c.args.gens.now in
    let j = c.loop-i.i - 1 in
    let up : c.loop-i.i ≡ suc j = omega (arith, c.loop-i-test.true) in
    let within : j < length gs = omega (arith, c.loop-i.auto.i, c.loop-i-test.true) in
    omega (arith, count_more gs c.loop-i.i j c.loop-i.slots up within c.loop-i.invariant, count_part gs j c.requires.sizes, c.requires.few)

pub loop-i-preserved : goal.loop-i-preserved
loop-i-preserved c =
    let gs = c.args.gens.now in
    let j = c.loop-i.i - 1 in
    count_more gs c.loop-i.i j c.loop-i.slots (omega (arith, c.loop-i-test.true)) (omega (arith, c.loop-i.auto.i, c.loop-i-test.true)) c.loop-i.invariant
