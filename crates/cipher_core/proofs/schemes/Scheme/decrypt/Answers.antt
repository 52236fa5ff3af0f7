use Rattle.std.proofs.Common.{◌≡◌, ◌∙◌, ◌+◌, ◌<◌, ◌≤◌, ℕ, List, false, length, map, sym, ap, ap₂, subst, arith, add-one}
use Rattle.std.specs.Prelude.{Vec, ℤ}
use Rattle.std.specs.declared.alloc.Global.{Global}
use Rattle.std.proofs.lemmas.Result.{IfOk-weaker}
use Rattle.cyclotomic.specs.Cyclotomic.{degree}
use Rattle.noise_bound.specs.Value.{value}
use Rattle.residue_rows.specs.Rows.{AreRows}
use Rattle.residue_rows.specs.Whole.{whole}
use Rattle.residue_rows.specs.Kept.{RingSetting, IsSetting, IsKept, moduli_kept}
use Rattle.slot_array.specs.Arrays.{Array}
use Rattle.slot_factor.specs.Packing.{Packing}
use Rattle.slot_laws.specs.Slots.{balanced_row, slots}
use Rattle.slot_laws.specs.Checks.{IsPacking}
use Rattle.scheme_laws.specs.Ciphers.{decrypted}
use Rattle.cipher_core.specs.Shown.{setting_of, cipher_of}
use Rattle.cipher_core.proofs.Columns.{items}
use Rattle.cipher_core.proofs.DecryptSteps.{plain_long, decoded_is, decrypts_to}
use Rattle.cipher_core.proofs.schemes.Scheme.decrypt.Goals as goal

-- the residues modulo p of the whole polynomial behind rows
abbrev plain_of : RingSetting → List (Vec ℕ Global) → List ℤ
plain_of t rows = balanced_row t.moduli.p (whole t.moduli.m (moduli_kept t (length rows) false) (map items rows))

pub decode-requires : goal.decode-requires
decode-requires c =
    let scheme = c.args.self.now in
    let t = scheme.tables.value in
    let packing = scheme.slots.value in
    let rows = c.in_ok-rows.rows.items in
    let level = c.args.c.now.level in
    let P : IsPacking packing.field packing.cube = subst (λ (k : Packing). IsPacking k.field k.cube) c.deref-slots.ensures c.cube-cube.ensures.valid in
    let S : IsSetting t = subst IsSetting c.requires.tables (c.in_ok-rows.ensures.c0).setting in
    let R : AreRows t.moduli.m (moduli_kept t (length rows) false) (map items rows) =
    subst (λ k. AreRows t.moduli.m (moduli_kept t k false) (map items rows)) (sym (c.in_ok-rows.ensures.count ∙ add-one level)) c.in_ok-rows.ensures.rows in
    let fits : length rows ≤ length t.moduli.chain = omega (arith, c.in_ok-rows.ensures.count, c.in_ok-rows.ensures.fits) in
    let plain : c.deref-3.result.now ≡ plain_of t rows = c.deref-3.ensures.value ∙ c.in_ok-plain.ensures ∙ ap₂ plain_of c.deref.ensures c.deref-2.ensures.value in
    plain_long t packing.field packing.cube scheme.same_m scheme.same_p P S (length rows) fits (map items rows) R c.deref-3.result.now plain
    ∙ ap (λ (k : Packing). degree k.cube.m) (sym c.deref-slots.ensures)

pub returns-clause-value : goal.returns-clause-value
returns-clause-value c =
    let scheme = c.args.self.now in
    let t = scheme.tables.value in
    let packing = scheme.slots.value in
    let rows = c.in_ok-rows.rows.items in
    let x = c.args.c.now in
    let coeffs = c.args.secret.now.coeffs.items in
    let P : IsPacking packing.field packing.cube = subst (λ (k : Packing). IsPacking k.field k.cube) c.deref-slots.ensures c.cube-cube.ensures.valid in
    let plain : c.deref-3.result.now ≡ plain_of t rows = c.deref-3.ensures.value ∙ c.in_ok-plain.ensures ∙ ap₂ plain_of c.deref.ensures c.deref-2.ensures.value in
    IfOk-weaker c.decode.result (λ y. y ≡ slots c.deref-slots.result.now.field c.deref-slots.result.now.cube c.deref-3.result.now) (λ y. y ≡ decrypted (setting_of scheme) coeffs (cipher_of x))
    (λ y is. decoded_is t packing.field packing.cube scheme.same_m scheme.same_p P (length rows) x.level (value x.bound) (map items rows) x.c0.rows x.c1.rows c.deref-3.result.now coeffs y
    c.in_ok-rows.ensures.count c.in_ok-rows.ensures.value plain (is ∙ ap (λ (k : Packing). slots k.field k.cube c.deref-3.result.now) c.deref-slots.ensures))
    c.decode.ensures.value

pub returns-clause-stands : goal.returns-clause-stands
returns-clause-stands c = λ array secret stands low.
    let scheme = c.args.self.now in
    let t = scheme.tables.value in
    let packing = scheme.slots.value in
    let rows = c.in_ok-rows.rows.items in
    let x = c.args.c.now in
    let coeffs = c.args.secret.now.coeffs.items in
    let P : IsPacking packing.field packing.cube = subst (λ (k : Packing). IsPacking k.field k.cube) c.deref-slots.ensures c.cube-cube.ensures.valid in
    let plain : c.deref-3.result.now ≡ plain_of t rows = c.deref-3.ensures.value ∙ c.in_ok-plain.ensures ∙ ap₂ plain_of c.deref.ensures c.deref-2.ensures.value in
    let is : decrypted (setting_of scheme) coeffs (cipher_of x) ≡ array =
    decrypts_to t packing.field packing.cube scheme.same_m scheme.same_p P x.level (value x.bound) x.c0 x.c1 coeffs c.requires.tables x.rows x.no_special x.alike
    c.in_ok-rows.ensures.c0 c.in_ok-rows.ensures.c1 array secret stands low in
    IfOk-weaker c.decode.result (λ y. y ≡ slots c.deref-slots.result.now.field c.deref-slots.result.now.cube c.deref-3.result.now) (λ y. y ≡ array)
    (λ y given. decoded_is t packing.field packing.cube scheme.same_m scheme.same_p P (length rows) x.level (value x.bound) (map items rows) x.c0.rows x.c1.rows c.deref-3.result.now coeffs y
    c.in_ok-rows.ensures.count c.in_ok-rows.ensures.value plain (given ∙ ap (λ (k : Packing). slots k.field k.cube c.deref-3.result.now) c.deref-slots.ensures) ∙ is)
    c.decode.ensures.value
