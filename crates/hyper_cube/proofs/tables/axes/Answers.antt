use Rattle.std.proofs.Common.{◌+◌, ap, arith, refl}
use Rattle.hyper_cube.specs.Torus.{count}
use Rattle.hyper_cube.proofs.Pairs.{later_dims, count_part, held_more, strides_more}
use Rattle.hyper_cube.proofs.tables.axes.Goals as goal

pub slots_of-stride-requires-clause-few : goal.slots_of-stride-requires-clause-few
slots_of-stride-requires-clause-few c =
    let gs = c.args.gens.now in
    omega (arith, ap count (later_dims gs (c.loop-i.i + 1)), count_part gs (c.loop-i.i + 1) c.requires.sizes, c.requires.few)

pub loop-i-preserved : goal.loop-i-preserved
loop-i-preserved c =
    let gs = c.args.gens.now in
    record {
      dimensions = held_more gs c.loop-i.i c.loop-i.axes.items c.push.new.self.items _ (omega arith) c.loop-i.invariant.dimensions c.in_ok-push.ensures.items refl refl;
      strides = strides_more gs c.loop-i.i c.loop-i.axes.items c.push.new.self.items _ c.loop-i.invariant.strides c.in_ok-push.ensures.items c.slots_of-stride.ensures;
    }
