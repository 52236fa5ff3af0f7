use Rattle.std.proofs.Common.{◌≡◌, ◌∙◌, ◌-◌, length, ap, subst}
use Rattle.cyclotomic.specs.Cyclotomic.{degree}
use Rattle.noise_bound.specs.Machine.{Sizes, fresh}
use Rattle.noise_bound.specs.Value.{value}
use Rattle.residue_rows.specs.Kept.{RingSetting, IsSetting}
use Rattle.slot_factor.specs.Packing.{Packing}
use Rattle.slot_laws.specs.Slots.{encode}
use Rattle.slot_laws.specs.Checks.{IsPacking}
use Rattle.scheme_laws.specs.Scheme.{IsScheme, sizes_of, top}
use Rattle.scheme_laws.specs.Keys.{n_of}
use Rattle.scheme_laws.specs.Ciphers.{Cipher, encryption_drawn}
use Rattle.key_switch.specs.Shown.{key_of}
use Rattle.cipher_core.specs.Shown.{setting_of, cipher_of}
use Rattle.cipher_core.proofs.EncryptSteps.{small_long, error_long, encoded_long, fresh_is, fresh_stands_for}
use Rattle.cipher_core.proofs.schemes.Scheme.encrypt.Goals as goal

pub parts-requires-clause-r : goal.parts-requires-clause-r
parts-requires-clause-r c =
    let scheme = c.args.self.now in
    let same : c.n-n.result ≡ n_of scheme.tables.value = c.n-n.ensures.value ∙ ap n_of c.deref-tables.ensures in
    small_long (setting_of scheme) c.args.draws.now c.n-n.result c.in_ok-r.r.items c.deref.result.now same c.in_ok-r.ensures.value c.deref.ensures.value

pub parts-requires-clause-e0 : goal.parts-requires-clause-e0
parts-requires-clause-e0 c =
    let scheme = c.args.self.now in
    let same : c.n-n.result ≡ n_of scheme.tables.value = c.n-n.ensures.value ∙ ap n_of c.deref-tables.ensures in
    error_long (setting_of scheme) c.smalls.new.draws c.n-n.result c.in_ok-e0.e0.items c.deref-2.result.now same c.in_ok-e0.ensures.value c.deref-2.ensures.value

pub parts-requires-clause-e1 : goal.parts-requires-clause-e1
parts-requires-clause-e1 c =
    let scheme = c.args.self.now in
    let same : c.n-n.result ≡ n_of scheme.tables.value = c.n-n.ensures.value ∙ ap n_of c.deref-tables.ensures in
    error_long (setting_of scheme) c.errors.new.draws c.n-n.result c.in_ok-e1.e1.items c.deref-3.result.now same c.in_ok-e1.ensures.value c.deref-3.ensures.value

pub parts-requires-clause-plain : goal.parts-requires-clause-plain
parts-requires-clause-plain c =
    let scheme = c.args.self.now in
    let is : IsScheme (setting_of scheme) = record {
      setting = subst IsSetting c.deref-tables.ensures c.n-n.ensures.setting;
      packing = subst (λ (k : Packing). IsPacking k.field k.cube) c.deref-slots.ensures c.cube-cube.ensures.valid;
      same_m = scheme.same_m;
      same_p = scheme.same_p;
    } in
    encoded_long (setting_of scheme) is c.args.x.now c.in_ok-plain.plain.items c.deref-4.result.now
    (c.in_ok-plain.ensures.value ∙ ap (λ (k : Packing). encode k.field k.cube c.args.x.now) c.deref-slots.ensures) c.deref-4.ensures.value

pub returns-clause-value : goal.returns-clause-value
returns-clause-value c =
    let scheme = c.args.self.now in
    let key = key_of c.args.public.now in
    let same : c.n-n.result ≡ n_of scheme.tables.value = c.n-n.ensures.value ∙ ap n_of c.deref-tables.ensures in
    let is : IsScheme (setting_of scheme) = record {
      setting = subst IsSetting c.deref-tables.ensures c.n-n.ensures.setting;
      packing = subst (λ (k : Packing). IsPacking k.field k.cube) c.deref-slots.ensures c.cube-cube.ensures.valid;
      same_m = scheme.same_m;
      same_p = scheme.same_p;
    } in
    let made : Cipher = record { level = c.chain_len-level.result - 1; bound = value c.fresh-bound.result; c0 = c.in_ok-c0.c0.rows; c1 = c.in_ok-c0.c1.rows } in
    let drawn : made ≡ encryption_drawn (setting_of scheme) key c.args.draws.now c.args.x.now =
    fresh_is (setting_of scheme) is key c.args.draws.now c.smalls.new.draws c.errors.new.draws c.n-n.result (c.chain_len-level.result - 1) (value c.fresh-bound.result)
    c.deref.result.now c.deref-2.result.now c.deref-3.result.now c.deref-4.result.now c.args.x.now c.in_ok-c0.c0.rows c.in_ok-c0.c1.rows same c.in_ok-r.ensures.moved c.in_ok-e0.ensures.moved
    (c.deref.ensures.value ∙ c.in_ok-r.ensures.value) (c.deref-2.ensures.value ∙ c.in_ok-e0.ensures.value) (c.deref-3.ensures.value ∙ c.in_ok-e1.ensures.value)
    (c.deref-4.ensures.value ∙ c.in_ok-plain.ensures.value ∙ ap (λ (k : Packing). encode k.field k.cube c.args.x.now) c.deref-slots.ensures)
    (ap (λ k. k - 1) (c.chain_len-level.ensures.value ∙ ap (λ (r : RingSetting). length r.moduli.chain) c.deref-tables.ensures))
    (c.fresh-bound.ensures.number ∙ ap fresh (c.deref-bounds.ensures ∙ scheme.same_sizes))
    c.in_ok-c0.ensures.c0 c.in_ok-c0.ensures.c1 in
    drawn

pub returns-clause-stands : goal.returns-clause-stands
returns-clause-stands c =
    let scheme = c.args.self.now in
    let key = key_of c.args.public.now in
    let same : c.n-n.result ≡ n_of scheme.tables.value = c.n-n.ensures.value ∙ ap n_of c.deref-tables.ensures in
    let is : IsScheme (setting_of scheme) = record {
      setting = subst IsSetting c.deref-tables.ensures c.n-n.ensures.setting;
      packing = subst (λ (k : Packing). IsPacking k.field k.cube) c.deref-slots.ensures c.cube-cube.ensures.valid;
      same_m = scheme.same_m;
      same_p = scheme.same_p;
    } in
    let made : Cipher = record { level = c.chain_len-level.result - 1; bound = value c.fresh-bound.result; c0 = c.in_ok-c0.c0.rows; c1 = c.in_ok-c0.c1.rows } in
    let drawn : made ≡ encryption_drawn (setting_of scheme) key c.args.draws.now c.args.x.now =
    fresh_is (setting_of scheme) is key c.args.draws.now c.smalls.new.draws c.errors.new.draws c.n-n.result (c.chain_len-level.result - 1) (value c.fresh-bound.result)
    c.deref.result.now c.deref-2.result.now c.deref-3.result.now c.deref-4.result.now c.args.x.now c.in_ok-c0.c0.rows c.in_ok-c0.c1.rows same c.in_ok-r.ensures.moved c.in_ok-e0.ensures.moved
    (c.deref.ensures.value ∙ c.in_ok-r.ensures.value) (c.deref-2.ensures.value ∙ c.in_ok-e0.ensures.value) (c.deref-3.ensures.value ∙ c.in_ok-e1.ensures.value)
    (c.deref-4.ensures.value ∙ c.in_ok-plain.ensures.value ∙ ap (λ (k : Packing). encode k.field k.cube c.args.x.now) c.deref-slots.ensures)
    (ap (λ k. k - 1) (c.chain_len-level.ensures.value ∙ ap (λ (r : RingSetting). length r.moduli.chain) c.deref-tables.ensures))
    (c.fresh-bound.ensures.number ∙ ap fresh (c.deref-bounds.ensures ∙ scheme.same_sizes))
    c.in_ok-c0.ensures.c0 c.in_ok-c0.ensures.c1 in
    fresh_stands_for (setting_of scheme) is key c.args.draws.now c.args.x.now made c.requires.array drawn
