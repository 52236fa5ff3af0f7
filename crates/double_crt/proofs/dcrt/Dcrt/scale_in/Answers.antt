use Rattle.std.proofs.Common.{◌≡◌, ◌<◌, ℕ, get_or, length, w64, arith, subst}
use Rattle.std.proofs.lemmas.Int.{to_z-of_z}
use Rattle.double_crt.specs.ModuloRows.{empty_row, scaled_by}
use Rattle.double_crt.proofs.Operations.{multiple_becomes}
use Rattle.double_crt.proofs.dcrt.Dcrt.scale_in.Goals as goal

pub invariant_of-self : goal.invariant_of-self
invariant_of-self c = (multiple_becomes c.self.inside.tables.value c.self.inside.chain_rows c.self.inside.special c.self.inside.rows.items c.self.invariant c.args.self.now c.self.view_is c.deref_mut.result.now c.scale_rows.new.rows c.deref_mut.ensures.value c.self.inside.rows.len (omega arith) (omega arith) c.args.k (subst (λ k. (i : ℕ) → i < length c.deref_mut.result.now → get_or c.scale_rows.new.rows i empty_row ≡ scaled_by k (get_or c.deref_mut.result.now i empty_row)) (to_z-of_z w64 c.args.k c.ranges.k) c.scale_rows.ensures)).held

pub returns-clause-value : goal.returns-clause-value
returns-clause-value c = (multiple_becomes c.self.inside.tables.value c.self.inside.chain_rows c.self.inside.special c.self.inside.rows.items c.self.invariant c.args.self.now c.self.view_is c.deref_mut.result.now c.scale_rows.new.rows c.deref_mut.ensures.value c.self.inside.rows.len (omega arith) (omega arith) c.args.k (subst (λ k. (i : ℕ) → i < length c.deref_mut.result.now → get_or c.scale_rows.new.rows i empty_row ≡ scaled_by k (get_or c.deref_mut.result.now i empty_row)) (to_z-of_z w64 c.args.k c.ranges.k) c.scale_rows.ensures)).is

pub returns-clause-kept : goal.returns-clause-kept
returns-clause-kept c = (multiple_becomes c.self.inside.tables.value c.self.inside.chain_rows c.self.inside.special c.self.inside.rows.items c.self.invariant c.args.self.now c.self.view_is c.deref_mut.result.now c.scale_rows.new.rows c.deref_mut.ensures.value c.self.inside.rows.len (omega arith) (omega arith) c.args.k (subst (λ k. (i : ℕ) → i < length c.deref_mut.result.now → get_or c.scale_rows.new.rows i empty_row ≡ scaled_by k (get_or c.deref_mut.result.now i empty_row)) (to_z-of_z w64 c.args.k c.ranges.k) c.scale_rows.ensures)).kept
