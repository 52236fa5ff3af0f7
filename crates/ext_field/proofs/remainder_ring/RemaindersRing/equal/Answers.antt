use Rattle.ext_field.proofs.Across.{into}
use Rattle.ext_field.proofs.remainder_ring.RemaindersRing.equal.Goals as goal

pub equal-requires-clause-a_held : goal.equal-requires-clause-a_held
equal-requires-clause-a_held c = into _ _ c.args.self.now _ c.args.a.now c.self.invariant.3 c.self.view_is c.a.view_is c.requires.a_held

pub equal-requires-clause-b_held : goal.equal-requires-clause-b_held
equal-requires-clause-b_held c = into _ _ c.args.self.now _ c.args.b.now c.self.invariant.3 c.self.view_is c.b.view_is c.requires.b_held
