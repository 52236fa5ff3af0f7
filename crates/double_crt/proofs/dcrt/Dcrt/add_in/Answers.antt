use Rattle.std.proofs.Common.{◌<◌, ℕ, List, get_or, length, arith, sym, subst₂}
use Rattle.double_crt.specs.ModuloRows.{ModuloRow, empty_row, IsAlike}
use Rattle.double_crt.proofs.Operations.{sum_becomes, alike_at}
use Rattle.double_crt.proofs.dcrt.Dcrt.add_in.Goals as goal

pub add_rows-requires-clause-alike : goal.add_rows-requires-clause-alike
add_rows-requires-clause-alike c = subst₂ (λ (front back : List ModuloRow). (k : ℕ) → k < length front → IsAlike (get_or front k empty_row) (get_or back k empty_row)) (sym c.deref_mut.ensures.value) (sym c.deref.ensures.value) (alike_at c.self.inside.tables.value c.self.inside.chain_rows c.self.inside.special c.self.inside.rows.items c.self.invariant c.b.inside.tables.value c.b.inside.chain_rows c.b.inside.special c.b.inside.rows.items c.args.self.now c.args.b.now c.self.view_is c.b.view_is c.b.invariant c.requires.alike)

pub invariant_of-self : goal.invariant_of-self
invariant_of-self c = (sum_becomes c.self.inside.tables.value c.self.inside.chain_rows c.self.inside.special c.self.inside.rows.items c.self.invariant c.b.inside.tables.value c.b.inside.chain_rows c.b.inside.special c.b.inside.rows.items c.args.self.now c.args.b.now c.self.view_is c.b.view_is c.b.invariant c.requires.alike c.deref_mut.result.now c.deref.result.now c.add_rows.new.rows c.deref_mut.ensures.value c.deref.ensures.value c.self.inside.rows.len (omega arith) (omega arith) c.add_rows.ensures).held

pub returns-clause-value : goal.returns-clause-value
returns-clause-value c = (sum_becomes c.self.inside.tables.value c.self.inside.chain_rows c.self.inside.special c.self.inside.rows.items c.self.invariant c.b.inside.tables.value c.b.inside.chain_rows c.b.inside.special c.b.inside.rows.items c.args.self.now c.args.b.now c.self.view_is c.b.view_is c.b.invariant c.requires.alike c.deref_mut.result.now c.deref.result.now c.add_rows.new.rows c.deref_mut.ensures.value c.deref.ensures.value c.self.inside.rows.len (omega arith) (omega arith) c.add_rows.ensures).is

pub returns-clause-kept : goal.returns-clause-kept
returns-clause-kept c = (sum_becomes c.self.inside.tables.value c.self.inside.chain_rows c.self.inside.special c.self.inside.rows.items c.self.invariant c.b.inside.tables.value c.b.inside.chain_rows c.b.inside.special c.b.inside.rows.items c.args.self.now c.args.b.now c.self.view_is c.b.view_is c.b.invariant c.requires.alike c.deref_mut.result.now c.deref.result.now c.add_rows.new.rows c.deref_mut.ensures.value c.deref.ensures.value c.self.inside.rows.len (omega arith) (omega arith) c.add_rows.ensures).kept
