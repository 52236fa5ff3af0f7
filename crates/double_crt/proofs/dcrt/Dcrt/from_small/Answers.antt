use Rattle.std.proofs.Common.{◌≡◌, ◌≤◌, length, arith, ap, sym, ◌∙◌, subst}
use Rattle.cyclotomic.specs.Cyclotomic.{degree}
use Rattle.residue_rows.specs.Rows.{AreRows, rows_of}
use Rattle.residue_rows.specs.Kept.{RingSetting, IsSetting, moduli_kept}
use Rattle.double_crt.specs.Held.{moduli_in, entries_in}
use Rattle.double_crt.proofs.Operations.{small_held, taken_becomes}
use Rattle.double_crt.proofs.dcrt.Dcrt.from_small.Goals as goal

pub to_values-requires-clause-held : goal.to_values-requires-clause-held
to_values-requires-clause-held c = record { moduli = ap moduli_in c.deref_mut.ensures.value ∙ c.in_ok-rows.ensures.moduli ∙ ap (λ t. moduli_kept t c.args.chain_rows c.args.special) same; entries = subst (AreRows c.deref-2.result.now.moduli.m (moduli_kept c.deref-2.result.now c.args.chain_rows c.args.special)) (sym (ap entries_in c.deref_mut.ensures.value ∙ c.in_ok-rows.ensures.entries ∙ ap (λ t. rows_of (moduli_kept t c.args.chain_rows c.args.special) c.args.coeffs.now) same)) (small_held c.deref-2.result.now c.args.chain_rows c.args.special (subst IsSetting same c.in_ok-rows.ensures.setting) (subst (λ (t : RingSetting). c.args.chain_rows ≤ length t.moduli.chain) (sym c.deref-2.ensures) c.requires.fits) c.args.coeffs.now (c.requires.long ∙ ap (λ (t : RingSetting). degree t.moduli.m) (sym c.deref-2.ensures))) }
  where
    same : c.deref.result.now ≡ c.deref-2.result.now
    same = c.deref.ensures ∙ sym c.deref-2.ensures

pub invariant_of-result : goal.invariant_of-result
invariant_of-result c = (taken_becomes c.args.tables.now.value c.deref.result.now c.deref-2.result.now c.in_ok-clone.field-0.value c.args.chain_rows c.args.special c.deref.ensures c.deref-2.ensures c.in_ok-clone.ensures.cases c.in_ok-rows.ensures.setting c.requires.fits c.in_ok-rows.rows.items (rows_of (moduli_kept c.args.tables.now.value c.args.chain_rows c.args.special) c.args.coeffs.now) c.in_ok-rows.ensures.moduli (c.in_ok-rows.ensures.entries ∙ ap (λ t. rows_of (moduli_kept t c.args.chain_rows c.args.special) c.args.coeffs.now) c.deref.ensures) (small_held c.args.tables.now.value c.args.chain_rows c.args.special (subst IsSetting c.deref.ensures c.in_ok-rows.ensures.setting) c.requires.fits c.args.coeffs.now c.requires.long) c.deref_mut.result.now c.to_values.new.rows c.in_ok-rows.rows.len c.deref_mut.ensures.value (omega arith) (omega arith) c.in_ok-to_values.ensures).held

pub returns-clause-value : goal.returns-clause-value
returns-clause-value c = (taken_becomes c.args.tables.now.value c.deref.result.now c.deref-2.result.now c.in_ok-clone.field-0.value c.args.chain_rows c.args.special c.deref.ensures c.deref-2.ensures c.in_ok-clone.ensures.cases c.in_ok-rows.ensures.setting c.requires.fits c.in_ok-rows.rows.items (rows_of (moduli_kept c.args.tables.now.value c.args.chain_rows c.args.special) c.args.coeffs.now) c.in_ok-rows.ensures.moduli (c.in_ok-rows.ensures.entries ∙ ap (λ t. rows_of (moduli_kept t c.args.chain_rows c.args.special) c.args.coeffs.now) c.deref.ensures) (small_held c.args.tables.now.value c.args.chain_rows c.args.special (subst IsSetting c.deref.ensures c.in_ok-rows.ensures.setting) c.requires.fits c.args.coeffs.now c.requires.long) c.deref_mut.result.now c.to_values.new.rows c.in_ok-rows.rows.len c.deref_mut.ensures.value (omega arith) (omega arith) c.in_ok-to_values.ensures).is

pub returns-clause-kept : goal.returns-clause-kept
returns-clause-kept c = (taken_becomes c.args.tables.now.value c.deref.result.now c.deref-2.result.now c.in_ok-clone.field-0.value c.args.chain_rows c.args.special c.deref.ensures c.deref-2.ensures c.in_ok-clone.ensures.cases c.in_ok-rows.ensures.setting c.requires.fits c.in_ok-rows.rows.items (rows_of (moduli_kept c.args.tables.now.value c.args.chain_rows c.args.special) c.args.coeffs.now) c.in_ok-rows.ensures.moduli (c.in_ok-rows.ensures.entries ∙ ap (λ t. rows_of (moduli_kept t c.args.chain_rows c.args.special) c.args.coeffs.now) c.deref.ensures) (small_held c.args.tables.now.value c.args.chain_rows c.args.special (subst IsSetting c.deref.ensures c.in_ok-rows.ensures.setting) c.requires.fits c.args.coeffs.now c.requires.long) c.deref_mut.result.now c.to_values.new.rows c.in_ok-rows.rows.len c.deref_mut.ensures.value (omega arith) (omega arith) c.in_ok-to_values.ensures).kept
