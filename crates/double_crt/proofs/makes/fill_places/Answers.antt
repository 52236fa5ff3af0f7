use Rattle.std.proofs.Common.{◌≡◌, arith, length, ap, ◌∙◌}
use Rattle.algebra.specs.Divisor.{units}
use Rattle.double_crt.proofs.UnitSteps.{unit_in, units_few, places_more}
use Rattle.double_crt.proofs.makes.fill_places.Goals as goal

pub overflow_cast-places : goal.overflow_cast-places
overflow_cast-places c = omega (arith, units_few c.args.units.now (length c.args.places.now) c.requires.units)

pub bounds-places-units : goal.bounds-places-units
bounds-places-units c = omega (arith, unit_in c.args.units.now (length c.args.places.now) c.loop-i.i c.requires.some c.requires.units (omega arith))

pub loop-i-preserved : goal.loop-i-preserved
loop-i-preserved c = places_more c.args.units.now c.loop-i.places c.loop-i.i (omega arith) (c.requires.units ∙ ap units (let e : length c.args.places.now ≡ length c.loop-i.places = omega arith in e)) (omega arith) c.loop-i.invariant
