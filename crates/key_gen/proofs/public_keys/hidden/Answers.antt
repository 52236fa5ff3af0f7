use Rattle.std.proofs.Common.{◌∙◌, refl, ap, ap₂, length, subst}
use Rattle.std.specs.Prelude.{false}
use Rattle.residue_rows.specs.Rows.{rows_of}
use Rattle.residue_rows.specs.Kept.{RingSetting, IsSetting, Residues, moduli_kept}
use Rattle.key_gen.proofs.KeySteps.{hidden_is}
use Rattle.key_gen.proofs.public_keys.hidden.Goals as goal

pub returns-clause-value : goal.returns-clause-value
returns-clause-value c =
    let t = c.args.tables.now.value in
    hidden_is t (subst IsSetting c.deref.ensures c.chain_len.ensures.setting) (length t.moduli.chain) refl c.args.secret.now.coeffs.items c.args.e.now c.args.a.now
    c.in_ok-noise.noise c.in_ok-s.s c.in_ok-b.b c.mul_in.new.self c.neg_in.new.self c.add_in.new.self
    c.requires.a.tables c.requires.a.chain_rows c.requires.a.special
    (ap (λ (r : Residues). r.rows) c.in_ok-noise.ensures.value)
    (ap (λ (r : Residues). r.rows) c.in_ok-s.ensures.value
    ∙ ap₂ (λ k list. rows_of (moduli_kept t k false) list) (c.chain_len.ensures.value ∙ ap (λ (r : RingSetting). length r.moduli.chain) c.deref.ensures) c.deref-2.ensures.value)
    c.in_ok-b.ensures.value c.mul_in.ensures.value c.neg_in.ensures.value c.add_in.ensures.value
