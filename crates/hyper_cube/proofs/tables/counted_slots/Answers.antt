use Rattle.std.proofs.Common.{◌≡◌, suc, ◌-◌, ◌<◌, length, arith}
use Rattle.hyper_cube.specs.Torus.{count}
use Rattle.hyper_cube.specs.Checks.{dimensions_of}
use Rattle.hyper_cube.proofs.Pairs.{count_more, count_part}
use Rattle.hyper_cube.proofs.Counting.{too_many}
use Rattle.hyper_cube.proofs.tables.counted_slots.Goals as goal

pub returns-then-slots-units-clause-none : goal.returns-then-slots-units-clause-none
returns-then-slots-units-clause-none c =
    let gs = c.args.gens.now in
    let j = c.loop-i.i - 1 in
    let up : c.loop-i.i ≡ suc j = omega (arith, c.loop-i-test.true) in
    let within : j < length gs = omega (arith, c.loop-i.auto.i, c.loop-i-test.true) in
    too_many c.args.d (count (dimensions_of gs)) _ c.requires.d_low (omega (arith, c.if-slots-units.true, c.unit_count-units.ensures.value, count_more gs c.loop-i.i j c.loop-i.slots up within c.loop-i.invariant.value, count_part gs j (λ k d l. (c.requires.sizes k d l).0)))

pub loop-i-preserved : goal.loop-i-preserved
loop-i-preserved c =
    let gs = c.args.gens.now in
    let j = c.loop-i.i - 1 in
    record {
      value = count_more gs c.loop-i.i j c.loop-i.slots (omega (arith, c.loop-i-test.true)) (omega (arith, c.loop-i.auto.i, c.loop-i-test.true)) c.loop-i.invariant.value;
      bound = omega (arith, c.if-slots-units.false, c.unit_count-units.ensures.bound, c.requires.m_high);
    }
