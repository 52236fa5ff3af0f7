use Rattle.std.proofs.Common.{arith}
use Rattle.cyclo_poly.proofs.PassSteps.{zeros_are}
use Rattle.cyclo_poly.proofs.passes.clear.Goals as goal

pub returns : goal.returns
returns c = zeros_are c.loop-place.values c.args.values.now c.loop-place.place-index c.loop-place.auto.values (omega (arith, c.loop-place-test.false, c.loop-place.auto)) c.loop-place.invariant
