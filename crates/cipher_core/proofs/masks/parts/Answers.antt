use Rattle.std.proofs.Common.{◌≡◌, ◌∙◌, length, ap, subst}
use Rattle.residue_rows.specs.Kept.{RingSetting, IsSetting, Residues}
use Rattle.cipher_core.specs.Masked.{masked}
use Rattle.cipher_core.proofs.MaskSteps.{whole_chain, c0_is}
use Rattle.cipher_core.proofs.masks.parts.Goals as goal

pub returns-clause-c0 : goal.returns-clause-c0
returns-clause-c0 c =
    let t = c.args.tables.now.value in
    let setting : IsSetting t = subst IsSetting c.deref.ensures c.chain_len-rows.ensures.setting in
    let rows = c.chain_len-rows.result in
    let all : rows ≡ length t.moduli.chain = c.chain_len-rows.ensures.value ∙ ap (λ (r : RingSetting). length r.moduli.chain) c.deref.ensures in
    let key = c.requires.key.b in
    c0_is t setting rows c.args.r.now c.args.e0.now c.args.plain.now c.args.public.now.b c.in_ok-r.r c.in_ok-plain.plain c.in_ok-c0.c0 c.add_in.new.self all key.tables key.chain_rows key.special
    (ap (λ (a : Residues). a.rows) c.in_ok-r.ensures.value) (ap (λ (a : Residues). a.rows) c.in_ok-plain.ensures.value) c.in_ok-c0.ensures.value c.add_in.ensures.value

pub returns-clause-c1 : goal.returns-clause-c1
returns-clause-c1 c =
    let t = c.args.tables.now.value in
    let setting : IsSetting t = subst IsSetting c.deref.ensures c.chain_len-rows.ensures.setting in
    let rows = c.chain_len-rows.result in
    let all : rows ≡ length t.moduli.chain = c.chain_len-rows.ensures.value ∙ ap (λ (r : RingSetting). length r.moduli.chain) c.deref.ensures in
    ap (λ (a : Residues). a.rows) c.in_ok-c1.ensures.value
    ∙ ap (λ r. masked t c.args.public.now.a.rows r c.args.e1.now) (ap (λ (a : Residues). a.rows) c.in_ok-r.ensures.value ∙ whole_chain t setting rows c.args.r.now all)
