use Rattle.std.proofs.Common.{◌≡◌, ◌<◌, ℕ, List, get_or, length, arith, ap, sym, ◌∙◌, subst, subst₂}
use Rattle.algebra.specs.Divisor.{UnitModulo, units}
use Rattle.residue_rows.specs.Kept.{Residues, RingSetting}
use Rattle.double_crt.specs.ModuloRows.{ModuloRow, empty_row, IsAlike}
use Rattle.double_crt.specs.Places.{ArePlaces}
use Rattle.double_crt.proofs.UnitSteps.{units_long}
use Rattle.double_crt.proofs.HeldSteps.{long_or}
use Rattle.double_crt.proofs.Operations.{alike_at, moved_becomes}
use Rattle.double_crt.proofs.dcrt.Dcrt.permute_into.Goals as goal

pub permute_rows-requires-clause-k_unit : goal.permute_rows-requires-clause-k_unit
permute_rows-requires-clause-k_unit c = subst (λ m. UnitModulo m c.args.k) (sym (c.places.ensures.long ∙ ap (λ (t : RingSetting). t.moduli.m) (c.deref-3.ensures ∙ ap (λ (a : Residues). a.tables) c.self.view_is))) c.requires.unit

pub permute_rows-requires-clause-long : goal.permute_rows-requires-clause-long
permute_rows-requires-clause-long c = subst (λ (front : List ModuloRow). (i : ℕ) → i < length front → length (get_or front i empty_row).entries ≡ length c.units.result.now) (sym c.deref.ensures.value) (λ i l. long_or c.self.inside.tables.value c.self.inside.chain_rows c.self.inside.special c.self.inside.rows.items c.self.invariant.held i l ∙ sym (ap length (c.units.ensures.value ∙ ap (λ (t : RingSetting). units t.moduli.m) c.deref-2.ensures) ∙ units_long c.self.inside.tables.value.moduli.m (let p = c.self.invariant.setting.accepted.shaped.m_low in omega arith)))

pub permute_rows-requires-clause-alike : goal.permute_rows-requires-clause-alike
permute_rows-requires-clause-alike c = subst₂ (λ (front back : List ModuloRow). (i : ℕ) → i < length front → IsAlike (get_or front i empty_row) (get_or back i empty_row)) (sym c.deref.ensures.value) (sym c.deref_mut.ensures.value) (alike_at c.self.inside.tables.value c.self.inside.chain_rows c.self.inside.special c.self.inside.rows.items c.self.invariant c.out.inside.tables.value c.out.inside.chain_rows c.out.inside.special c.out.inside.rows.items c.args.self.now c.args.out.now c.self.view_is c.out.view_is c.out.invariant c.requires.alike)

pub invariant_of-out : goal.invariant_of-out
invariant_of-out c = (moved_becomes c.self.inside.tables.value c.self.inside.chain_rows c.self.inside.special c.self.inside.rows.items c.self.invariant c.out.inside.tables.value c.out.inside.chain_rows c.out.inside.special c.out.inside.rows.items c.args.self.now c.args.out.now c.self.view_is c.out.view_is c.out.invariant c.requires.alike c.args.k c.places.result.now c.units.result.now (subst (λ (t : RingSetting). ArePlaces t.moduli.m c.places.result.now) (c.deref-3.ensures ∙ ap (λ (a : Residues). a.tables) c.self.view_is) c.places.ensures) (omega arith) c.requires.unit (c.units.ensures.value ∙ ap (λ (t : RingSetting). units t.moduli.m) (c.deref-2.ensures ∙ ap (λ (a : Residues). a.tables) c.self.view_is)) c.deref.result.now c.permute_rows.new.out c.out.inside.rows.len c.deref.ensures.value (omega arith) (omega arith) c.permute_rows.ensures).held

pub returns-clause-value : goal.returns-clause-value
returns-clause-value c = (moved_becomes c.self.inside.tables.value c.self.inside.chain_rows c.self.inside.special c.self.inside.rows.items c.self.invariant c.out.inside.tables.value c.out.inside.chain_rows c.out.inside.special c.out.inside.rows.items c.args.self.now c.args.out.now c.self.view_is c.out.view_is c.out.invariant c.requires.alike c.args.k c.places.result.now c.units.result.now (subst (λ (t : RingSetting). ArePlaces t.moduli.m c.places.result.now) (c.deref-3.ensures ∙ ap (λ (a : Residues). a.tables) c.self.view_is) c.places.ensures) (omega arith) c.requires.unit (c.units.ensures.value ∙ ap (λ (t : RingSetting). units t.moduli.m) (c.deref-2.ensures ∙ ap (λ (a : Residues). a.tables) c.self.view_is)) c.deref.result.now c.permute_rows.new.out c.out.inside.rows.len c.deref.ensures.value (omega arith) (omega arith) c.permute_rows.ensures).is

pub returns-clause-kept : goal.returns-clause-kept
returns-clause-kept c = (moved_becomes c.self.inside.tables.value c.self.inside.chain_rows c.self.inside.special c.self.inside.rows.items c.self.invariant c.out.inside.tables.value c.out.inside.chain_rows c.out.inside.special c.out.inside.rows.items c.args.self.now c.args.out.now c.self.view_is c.out.view_is c.out.invariant c.requires.alike c.args.k c.places.result.now c.units.result.now (subst (λ (t : RingSetting). ArePlaces t.moduli.m c.places.result.now) (c.deref-3.ensures ∙ ap (λ (a : Residues). a.tables) c.self.view_is) c.places.ensures) (omega arith) c.requires.unit (c.units.ensures.value ∙ ap (λ (t : RingSetting). units t.moduli.m) (c.deref-2.ensures ∙ ap (λ (a : Residues). a.tables) c.self.view_is)) c.deref.result.now c.permute_rows.new.out c.out.inside.rows.len c.deref.ensures.value (omega arith) (omega arith) c.permute_rows.ensures).kept
