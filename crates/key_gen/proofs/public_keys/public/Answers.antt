use Rattle.std.proofs.Common.{◌≡◌, ◌∙◌, ℕ, ◌*◌, List, map, length, ap, subst, rules}
use Rattle.std.specs.Prelude.{Vec, false}
use Rattle.std.specs.declared.alloc.Global.{Global}
use Rattle.cyclotomic.specs.Cyclotomic.{degree}
use Rattle.draw_stream.specs.Draw.{after}
use Rattle.residue_rows.specs.Rows.{AreRows}
use Rattle.residue_rows.specs.Kept.{RingSetting, IsSetting, Residues, moduli_kept}
use Rattle.scheme_laws.specs.Keys.{public_part, public_drawn, uniform_rows}
use Rattle.key_switch.specs.declared.keys.Public.{Public}
use Rattle.key_switch.specs.Shown.{key_of}
use Rattle.key_gen.specs.Drawn.{first_moduli}
use Rattle.key_gen.proofs.KeySteps.{rows_in, error_long, key_is, key_of_secret, moved_by}
use Rattle.key_gen.proofs.public_keys.public.Goals as goal

abbrev items : Vec ℕ Global → List ℕ
items v = v.items

pub from_residues-requires-clause-rows : goal.from_residues-requires-clause-rows
from_residues-requires-clause-rows c =
    let list : List (List ℕ) = map items c.deref.result.now in
    let rows = c.chain_len-rows.result in
    let drawn = rows_in c.deref-ring.result.now c.chain_len-rows.ensures.setting rows c.chain_len-rows.ensures.value c.args.draws.now list (ap (map items) c.deref.ensures.value ∙ c.in_ok-a.ensures.value) in
    subst (λ (r : RingSetting). AreRows r.moduli.m (moduli_kept r rows false) list) c.deref-ring.ensures drawn

pub hidden-requires-clause-e : goal.hidden-requires-clause-e
hidden-requires-clause-e c =
    let r = c.deref-ring.result.now in
    ap length c.deref-2.ensures.value
    ∙ error_long r c.chain_len-rows.ensures.setting c.chain_len-rows.result c.chain_len-rows.ensures.value c.uniform_rows.new.draws c.n.result c.in_ok-e.e.items c.n.ensures.value c.in_ok-e.ensures.value
    ∙ ap (λ (r : RingSetting). degree r.moduli.m) c.deref-ring.ensures

pub returns : goal.returns
returns c =
    let t = c.args.tables.now.value in
    let setting : IsSetting t = subst IsSetting c.deref-ring.ensures c.chain_len-rows.ensures.setting in
    let s = c.args.draws.now in
    let rows = c.chain_len-rows.result in
    let all : rows ≡ length t.moduli.chain = c.chain_len-rows.ensures.value ∙ ap (λ (r : RingSetting). length r.moduli.chain) c.deref-ring.ensures in
    let same : c.n.result ≡ degree t.moduli.m = c.n.ensures.value ∙ ap (λ (r : RingSetting). degree r.moduli.m) c.deref-ring.ensures in
    let moved : c.uniform_rows.new.draws ≡ after s (4 * degree t.moduli.m * rows) = c.in_ok-a.ensures.moved ∙ ap (λ (r : RingSetting). after s (4 * degree r.moduli.m * rows)) c.deref-ring.ensures in
    let secret = c.args.secret.now.coeffs.items in
    let a = c.in_ok-a-2.a in
    let key : Public = record { b = c.in_ok-b.b; a = a } in
    let is : key_of key ≡ public_drawn t secret s =
    key_is t setting rows all s c.uniform_rows.new.draws c.n.result (map items c.in_ok-a.a.items) c.in_ok-e.e.items secret a c.in_ok-b.b same moved
    (c.in_ok-a.ensures.value ∙ ap (λ (r : RingSetting). uniform_rows s s.place (degree r.moduli.m) (first_moduli r.moduli rows)) c.deref-ring.ensures)
    c.in_ok-e.ensures.value
    (ap (λ (r : Residues). r.rows) c.in_ok-a-2.ensures.value ∙ ap (map items) c.deref.ensures.value)
    (ap (λ (r : Residues). r.rows) c.in_ok-b.ensures.value ∙ ap (public_part t secret a.rows) c.deref-2.ensures.value) in
    record {
      value = is;
      parts = search rules;
      of_secret = key_of_secret t setting rows all s secret (key_of key) is;
      moved = moved_by t setting rows all s c.uniform_rows.new.draws c.errors.new.draws c.n.result same moved c.in_ok-e.ensures.moved;
    }
