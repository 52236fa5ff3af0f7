use Rattle.double_crt.proofs.Operations.{fewer_becomes}
use Rattle.double_crt.proofs.dcrt.Dcrt.restrict.Goals as goal

pub invariant_of-result : goal.invariant_of-result
invariant_of-result c = (fewer_becomes c.self.inside.tables.value c.self.inside.chain_rows c.self.inside.special c.self.inside.rows.items c.self.invariant c.args.self.now c.self.view_is c.args.chain_rows c.args.special c.requires.chain_fits c.requires.special_there c.in_ok-clone.field-0.value c.in_ok-clone.ensures.cases c.deref.result.now c.in_ok-rows.rows.items c.deref.ensures.value c.in_ok-rows.ensures).held

pub returns-clause-value : goal.returns-clause-value
returns-clause-value c = (fewer_becomes c.self.inside.tables.value c.self.inside.chain_rows c.self.inside.special c.self.inside.rows.items c.self.invariant c.args.self.now c.self.view_is c.args.chain_rows c.args.special c.requires.chain_fits c.requires.special_there c.in_ok-clone.field-0.value c.in_ok-clone.ensures.cases c.deref.result.now c.in_ok-rows.rows.items c.deref.ensures.value c.in_ok-rows.ensures).is

pub returns-clause-kept : goal.returns-clause-kept
returns-clause-kept c = (fewer_becomes c.self.inside.tables.value c.self.inside.chain_rows c.self.inside.special c.self.inside.rows.items c.self.invariant c.args.self.now c.self.view_is c.args.chain_rows c.args.special c.requires.chain_fits c.requires.special_there c.in_ok-clone.field-0.value c.in_ok-clone.ensures.cases c.deref.result.now c.in_ok-rows.rows.items c.deref.ensures.value c.in_ok-rows.ensures).kept
