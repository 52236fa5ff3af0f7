-- What is decoded from the rows of an opened ciphertext.
use Rattle.std.proofs.Common.{◌≡◌, ℕ, suc, ◌+◌, ◌<◌, ◌≤◌, List, length, sym, ap, ◌∙◌, subst, arith, add-one}
use Rattle.std.specs.Prelude.{ℤ, false}
use Rattle.std.proofs.lemmas.List.{length-map}
use Rattle.algebra.specs.Whole.{balanced}
use Rattle.cyclotomic.specs.Cyclotomic.{degree}
use Rattle.ext_field.specs.Element.{Extension}
use Rattle.hyper_cube.specs.Torus.{Torus}
use Rattle.slot_array.specs.Arrays.{Array}
use Rattle.slot_laws.specs.Slots.{balanced_row, slots}
use Rattle.slot_laws.specs.Checks.{IsPacking}
use Rattle.slot_laws.proofs.SlotMaps.{slots_see}
use Rattle.residue_rows.specs.Rows.{AreRows}
use Rattle.residue_rows.specs.Whole.{whole}
use Rattle.residue_rows.specs.Kept.{RingSetting, IsSetting, Residues, IsKept, AreAlike, moduli_kept}
use Rattle.scheme_laws.specs.Scheme.{SchemeSetting, IsScheme, moduli_at}
use Rattle.scheme_laws.specs.Keys.{IsSecret}
use Rattle.scheme_laws.specs.Ciphers.{Cipher, IsCipher, Stands, decrypted, limit_at}
use Rattle.scheme_laws.proofs.Decrypting.{decrypts}
use Rattle.cipher_core.specs.Masked.{opened_parts}
use Rattle.cipher_core.proofs.PlainSteps.{polynomial_long}
use Rattle.cipher_core.proofs.OpenSteps.{level_fits, level_rows, c1_rows}

module _ (t : RingSetting) (f : Extension) (cube : Torus) (same_m : cube.m ≡ t.moduli.m) (same_p : cube.p ≡ t.moduli.p) (P : IsPacking f cube) where
  abbrev setting : SchemeSetting
  setting = record { ring = t; field = f; cube = cube }

  -- the row of residues has as many coefficients as the elements of the ring
  pub plain_long : IsSetting t → (k : ℕ) → k ≤ length t.moduli.chain → (rows : List (List ℕ)) → AreRows t.moduli.m (moduli_kept t k false) rows → (plain : List ℤ) → plain ≡ balanced_row t.moduli.p (whole t.moduli.m (moduli_kept t k false) rows) → length plain ≡ degree cube.m
  plain_long S k fits rows R plain plain_is =
      let w = whole t.moduli.m (moduli_kept t k false) rows in
      ap length plain_is ∙ length-map w (balanced t.moduli.p) ∙ polynomial_long t S k fits rows R ∙ ap degree (sym same_m)

  -- its slots are what the definitions decrypt
  pub decoded_is : (k level bound : ℕ) (rows c0 c1 : List (List ℕ)) (plain coeffs : List ℤ) (x : Array) → k ≡ level + 1 → rows ≡ opened_parts t level c0 c1 coeffs
      → plain ≡ balanced_row t.moduli.p (whole t.moduli.m (moduli_kept t k false) rows) → x ≡ slots f cube plain → x ≡ decrypted setting coeffs (record { level = level; bound = bound; c0 = c0; c1 = c1 })
  decoded_is k level bound rows c0 c1 plain coeffs x count opened plain_is x_is =
      let w = whole t.moduli.m (moduli_kept t k false) rows in
      x_is ∙ ap (slots f cube) (plain_is ∙ ap (λ p. balanced_row p w) (sym (P.same_p ∙ same_p))) ∙ (slots_see f cube P).balanced w
      ∙ ap (λ k. slots f cube (whole t.moduli.m (moduli_kept t k false) rows)) (count ∙ add-one level)
      ∙ ap (λ rows. slots f cube (whole t.moduli.m (moduli_at t level) rows)) opened

  -- a ciphertext of the level, below its limit, decrypts to what it stands for
  pub decrypts_to : (level bound : ℕ) (c0 c1 : Residues) (coeffs : List ℤ) → c0.tables ≡ t → c0.chain_rows ≡ level + 1 → c0.special ≡ false → AreAlike c0 c1 → IsKept c0 → IsKept c1
      → (x : Array) → IsSecret t coeffs → let c : Cipher = record { level = level; bound = bound; c0 = c0.rows; c1 = c1.rows } in Stands setting coeffs c x → bound < limit_at setting level → decrypted setting coeffs c ≡ x
  decrypts_to level bound c0 c1 coeffs tables chain special alike K0 K1 x secret stands low =
      let c : Cipher = record { level = level; bound = bound; c0 = c0.rows; c1 = c1.rows } in
      let scheme : IsScheme setting = record { setting = subst IsSetting tables K0.setting; packing = P; same_m = same_m; same_p = same_p } in
      let is : IsCipher setting c = record {
        level_in = (let fits : level + 1 ≤ length t.moduli.chain = level_fits t level c0 K0 tables chain in omega arith);
        c0_in = level_rows t level c0 K0 tables chain special;
        c1_in = c1_rows t level c0 c1 tables chain special alike K0 K1;
      } in
      decrypts setting scheme coeffs c x secret is stands low
