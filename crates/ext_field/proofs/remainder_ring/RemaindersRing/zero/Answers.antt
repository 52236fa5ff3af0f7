use Rattle.ext_field.proofs.Across.{out, short}
use Rattle.ext_field.proofs.remainder_ring.RemaindersRing.zero.Goals as goal

pub invariant_of-result : goal.invariant_of-result
invariant_of-result c = short _ _ _ c.self.invariant.3 c.self.invariant.0 c.in_ok-poly.ensures.held

pub returns-clause-held : goal.returns-clause-held
returns-clause-held c = out _ _ c.args.self.now _ c.self.invariant.3 c.self.view_is c.in_ok-poly.ensures.held
