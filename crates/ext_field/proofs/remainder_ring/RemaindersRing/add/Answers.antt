use Rattle.ext_field.proofs.Across.{into, out, short, sum_out}
use Rattle.ext_field.proofs.remainder_ring.RemaindersRing.add.Goals as goal

pub add-requires-clause-a_held : goal.add-requires-clause-a_held
add-requires-clause-a_held c = into _ _ c.args.self.now _ c.args.a.now c.self.invariant.3 c.self.view_is c.a.view_is c.requires.a_held

pub add-requires-clause-b_held : goal.add-requires-clause-b_held
add-requires-clause-b_held c = into _ _ c.args.self.now _ c.args.b.now c.self.invariant.3 c.self.view_is c.b.view_is c.requires.b_held

pub invariant_of-result : goal.invariant_of-result
invariant_of-result c = short _ _ _ c.self.invariant.3 c.self.invariant.0 c.in_ok-poly.ensures.held

pub returns-clause-value : goal.returns-clause-value
returns-clause-value c = sum_out _ _ c.args.self.now c.self.invariant.2 c.self.view_is _ c.args.a.now _ c.args.b.now _ c.a.view_is c.b.view_is c.in_ok-poly.ensures.value

pub returns-clause-held : goal.returns-clause-held
returns-clause-held c = out _ _ c.args.self.now _ c.self.invariant.3 c.self.view_is c.in_ok-poly.ensures.held
