use Rattle.std.proofs.Common.{ℕ, map, arith, Vec, Global}
use Rattle.double_crt.proofs.Operations.{taken_becomes}
use Rattle.double_crt.proofs.dcrt.Dcrt.from_residues.Goals as goal

pub invariant_of-result : goal.invariant_of-result
invariant_of-result c = (taken_becomes c.args.tables.now.value c.deref.result.now c.deref-2.result.now c.in_ok-clone.field-0.value c.args.chain_rows c.args.special c.deref.ensures c.deref-2.ensures c.in_ok-clone.ensures.cases c.in_ok-rows.ensures.setting c.requires.fits c.in_ok-rows.rows.items (map (λ (row : Vec ℕ Global). row.items) c.args.rows.now) c.in_ok-rows.ensures.moduli (c.in_ok-rows.ensures.entries) (c.requires.rows) c.deref_mut.result.now c.to_values.new.rows c.in_ok-rows.rows.len c.deref_mut.ensures.value (omega arith) (omega arith) c.in_ok-to_values.ensures).held

pub returns-clause-value : goal.returns-clause-value
returns-clause-value c = (taken_becomes c.args.tables.now.value c.deref.result.now c.deref-2.result.now c.in_ok-clone.field-0.value c.args.chain_rows c.args.special c.deref.ensures c.deref-2.ensures c.in_ok-clone.ensures.cases c.in_ok-rows.ensures.setting c.requires.fits c.in_ok-rows.rows.items (map (λ (row : Vec ℕ Global). row.items) c.args.rows.now) c.in_ok-rows.ensures.moduli (c.in_ok-rows.ensures.entries) (c.requires.rows) c.deref_mut.result.now c.to_values.new.rows c.in_ok-rows.rows.len c.deref_mut.ensures.value (omega arith) (omega arith) c.in_ok-to_values.ensures).is

pub returns-clause-kept : goal.returns-clause-kept
returns-clause-kept c = (taken_becomes c.args.tables.now.value c.deref.result.now c.deref-2.result.now c.in_ok-clone.field-0.value c.args.chain_rows c.args.special c.deref.ensures c.deref-2.ensures c.in_ok-clone.ensures.cases c.in_ok-rows.ensures.setting c.requires.fits c.in_ok-rows.rows.items (map (λ (row : Vec ℕ Global). row.items) c.args.rows.now) c.in_ok-rows.ensures.moduli (c.in_ok-rows.ensures.entries) (c.requires.rows) c.deref_mut.result.now c.to_values.new.rows c.in_ok-rows.rows.len c.deref_mut.ensures.value (omega arith) (omega arith) c.in_ok-to_values.ensures).kept
