use Rattle.std.proofs.Common.{arith}
use Rattle.cyclo_poly.proofs.MemberSteps.{next_product, next_positive}
use Rattle.cyclo_poly.proofs.StrideSteps.{strides_first}
use Rattle.cyclo_poly.proofs.strides.strides_of.Goals as goal

pub loop-rest-init : goal.loop-rest-init
loop-rest-init c = (omega arith, c.requires.low, rw (c.in_ok-vec.ensures.items, c.new.ensures.items) strides_first)

pub loop-rest-preserved : goal.loop-rest-preserved
loop-rest-preserved c =
    let u = c.least_prime-p.ensures.divides in
    let above = c.least_prime-p.ensures.prime.above in
    (next_product c.loop-rest.k c.loop-rest.rest c.args.m c.least_prime-p.result u.0 above c.loop-rest.invariant.0 u.1, next_positive c.loop-rest.rest c.least_prime-p.result u.0 above c.loop-rest.invariant.1 u.1, c.in_ok-strides.ensures)
