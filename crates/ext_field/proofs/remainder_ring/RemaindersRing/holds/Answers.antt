use Rattle.ext_field.proofs.Across.{test_is}
use Rattle.ext_field.proofs.remainder_ring.RemaindersRing.holds.Goals as goal

pub returns : goal.returns
returns c = test_is _ _ c.args.self.now _ c.args.a.now _ c.self.invariant.3 c.self.view_is c.a.view_is c.holds.ensures
