use Rattle.std.proofs.Common.{ap, arith}
use Rattle.cyclotomic.specs.Cyclotomic.{degree}
use Rattle.slot_factor.proofs.slots.Slots.decode.Goals as goal

pub decode-requires-clause-few : goal.decode-requires-clause-few
decode-requires-clause-few c = omega (arith, c.degree-n.ensures.value, c.degree-n.ensures.less, c.m-m.ensures.high, c.requires, ap degree c.self.invariant.same_m, ap (λ s. degree s.cube.m) c.self.view_is)
