-- c0 + c1*s, step by step.
use Rattle.std.proofs.Common.{◌≡◌, ℕ, suc, ◌+◌, ◌<◌, ◌≤◌, List, [], ◌++◌, length, map, take, sym, ap, ap₂, ◌∙◌, subst, arith, add-one, append-nil}
use Rattle.std.specs.Prelude.{ℤ, false}
use Rattle.std.proofs.lemmas.List.{length-map, length-take-le}
use Rattle.std.proofs.lemmas.Slice.Zip.{AllZip-long}
use Rattle.std.specs.List.{All}
use Rattle.cyclotomic.specs.Cyclotomic.{degree}
use Rattle.moduli_table.specs.declared.rows.ModRow.{ModRow}
use Rattle.residue_rows.specs.Rows.{AreRows, R_each, rows_of}
use Rattle.residue_rows.specs.Kept.{RingSetting, IsSetting, Residues, IsKept, AreAlike, moduli_kept, moduli_of, ring_of, with_rows}
use Rattle.residue_rows.proofs.RowsRing.{rows_from}
use Rattle.scheme_laws.specs.Scheme.{moduli_at, ring_at, rows_at}
use Rattle.scheme_laws.proofs.LevelRows.{keep, laws}
use Rattle.cipher_core.specs.Masked.{opened_parts}

-- the moduli of the first rows of the chain
moduli_are : (t : RingSetting) (level : ℕ) (a : Residues) → a.tables ≡ t → a.chain_rows ≡ level + 1 → a.special ≡ false → moduli_of a ≡ moduli_at t level
moduli_are t level a tables chain special = ap (λ (t : RingSetting). moduli_kept t a.chain_rows a.special) tables ∙ ap₂ (moduli_kept t) (chain ∙ add-one level) special

-- the rows of a polynomial of a level are rows of the level
pub level_rows : (t : RingSetting) (level : ℕ) (a : Residues) → IsKept a → a.tables ≡ t → a.chain_rows ≡ level + 1 → a.special ≡ false → AreRows t.moduli.m (moduli_at t level) a.rows
level_rows t level a K tables chain special =
    subst (λ qs. AreRows t.moduli.m qs a.rows) (moduli_are t level a tables chain special) (subst (λ (r : RingSetting). AreRows r.moduli.m (moduli_of a) a.rows) tables K.rows_in)

pub level_fits : (t : RingSetting) (level : ℕ) (a : Residues) → IsKept a → a.tables ≡ t → a.chain_rows ≡ level + 1 → level + 1 ≤ length t.moduli.chain
level_fits t level a K tables chain = omega (arith, K.chain_fits, ap (λ (r : RingSetting). length r.moduli.chain) tables, chain)

-- there are as many as the level says
pub rows_count : (t : RingSetting) (level : ℕ) (rows : List (List ℕ)) → level + 1 ≤ length t.moduli.chain → AreRows t.moduli.m (moduli_at t level) rows → length rows ≡ level + 1
rows_count t level rows fits R =
    let q : ModRow → ℕ = λ r. r.q in
    let chain = t.moduli.chain in
    AllZip-long (λ q row. (length row ≡ degree t.moduli.m) × All (λ c. c < q) row) (moduli_at t level) rows R
    ∙ length-map (take (suc level) chain ++ []) q ∙ ap length (append-nil (take (suc level) chain)) ∙ length-take-le (suc level) chain (omega arith) ∙ sym (add-one level)

module _ (t : RingSetting) (level : ℕ) (c0 c1 : Residues) (tables : c0.tables ≡ t) (chain : c0.chain_rows ≡ level + 1) (special : c0.special ≡ false) (alike : AreAlike c0 c1) (K0 : IsKept c0) (K1 : IsKept c1) where
  setting : IsSetting t
  setting = subst IsSetting tables K0.setting

  fits : suc level ≤ length t.moduli.chain
  fits = omega (arith, level_fits t level c0 K0 tables chain)

  -- the other part
  pub c1_rows : AreRows t.moduli.m (moduli_at t level) c1.rows
  c1_rows = level_rows t level c1 K1 (alike.tables ∙ tables) (alike.chain_rows ∙ chain) (alike.special ∙ special)

  module _ (coeffs : List ℤ) (s copied multiplied sum : Residues) (copied_is : copied ≡ c1) (multiplied_is : multiplied ≡ with_rows copied ((ring_of copied).mul copied.rows s.rows)) (sum_is : sum ≡ with_rows multiplied ((ring_of multiplied).add multiplied.rows c0.rows)) where
    whole : sum ≡ with_rows c1 ((ring_of c1).add ((ring_of c1).mul c1.rows s.rows) c0.rows)
    whole =
        let product : multiplied ≡ with_rows c1 ((ring_of c1).mul c1.rows s.rows) = multiplied_is ∙ ap (λ (a : Residues). with_rows a ((ring_of a).mul a.rows s.rows)) copied_is in
        sum_is ∙ ap (λ (a : Residues). with_rows a ((ring_of a).add a.rows c0.rows)) product

    -- the sum is a polynomial of the level
    pub sum_rows : IsKept sum → AreRows t.moduli.m (moduli_at t level) sum.rows
    sum_rows K =
        level_rows t level sum K (ap (λ (a : Residues). a.tables) whole ∙ alike.tables ∙ tables) (ap (λ (a : Residues). a.chain_rows) whole ∙ alike.chain_rows ∙ chain) (ap (λ (a : Residues). a.special) whole ∙ alike.special ∙ special)

    -- it is c0 + c1*s
    pub sum_is_opened : length coeffs ≡ degree t.moduli.m → s.rows ≡ rows_of (moduli_kept t c0.chain_rows false) coeffs → sum.rows ≡ opened_parts t level c0.rows c1.rows coeffs
    sum_is_opened long s_is =
        let o = ring_at t level in
        let L = laws t setting level fits in
        let from = rows_from t.moduli.m (moduli_at t level) in
        let value : ℕ → List ℕ → List (List ℕ) → List (List ℕ) = λ m qs s. let o = R_each m qs in o.add (o.mul c1.rows s) c0.rows in
        let ring : value c1.tables.moduli.m (moduli_of c1) s.rows ≡ value t.moduli.m (moduli_at t level) s.rows =
        ap₂ (λ m qs. value m qs s.rows) (ap (λ (r : RingSetting). r.moduli.m) (alike.tables ∙ tables)) (moduli_are t level c1 (alike.tables ∙ tables) (alike.chain_rows ∙ chain) (alike.special ∙ special)) in
        let secret : s.rows ≡ rows_at t level coeffs = s_is ∙ ap (λ k. rows_of (moduli_kept t k false) coeffs) (chain ∙ add-one level) in
        let held_secret = from (rows_at t level coeffs) ((keep t setting level fits).held coeffs long) in
        let product = L.mul_held c1.rows (rows_at t level coeffs) (from c1.rows c1_rows) held_secret in
        ap (λ (a : Residues). a.rows) whole ∙ ring ∙ ap (value t.moduli.m (moduli_at t level)) secret
        ∙ L.add_comm (o.mul c1.rows (rows_at t level coeffs)) c0.rows product (from c0.rows (level_rows t level c0 K0 tables chain special))
