use Rattle.std.proofs.Common.{arith}
use Rattle.double_crt.proofs.Operations.{negative_becomes}
use Rattle.double_crt.proofs.dcrt.Dcrt.neg_in.Goals as goal

pub invariant_of-self : goal.invariant_of-self
invariant_of-self c = (negative_becomes c.self.inside.tables.value c.self.inside.chain_rows c.self.inside.special c.self.inside.rows.items c.self.invariant c.args.self.now c.self.view_is c.deref_mut.result.now c.neg_rows.new.rows c.deref_mut.ensures.value c.self.inside.rows.len (omega arith) (omega arith) c.neg_rows.ensures).held

pub returns-clause-value : goal.returns-clause-value
returns-clause-value c = (negative_becomes c.self.inside.tables.value c.self.inside.chain_rows c.self.inside.special c.self.inside.rows.items c.self.invariant c.args.self.now c.self.view_is c.deref_mut.result.now c.neg_rows.new.rows c.deref_mut.ensures.value c.self.inside.rows.len (omega arith) (omega arith) c.neg_rows.ensures).is

pub returns-clause-kept : goal.returns-clause-kept
returns-clause-kept c = (negative_becomes c.self.inside.tables.value c.self.inside.chain_rows c.self.inside.special c.self.inside.rows.items c.self.invariant c.args.self.now c.self.view_is c.deref_mut.result.now c.neg_rows.new.rows c.deref_mut.ensures.value c.self.inside.rows.len (omega arith) (omega arith) c.neg_rows.ensures).kept
