-- The parts of a fresh ciphertext.
use Rattle.std.proofs.Common.{◌≡◌, ℕ, suc, List, length, refl, ap, ap₂, ◌∙◌, arith}
use Rattle.std.specs.Prelude.{ℤ, false}
use Rattle.residue_rows.specs.Rows.{R_each, rows_of}
use Rattle.residue_rows.specs.Kept.{RingSetting, IsSetting, Residues, moduli_kept, moduli_of, ring_of, with_rows}
use Rattle.scheme_laws.specs.Scheme.{top, moduli_at, ring_at, rows_at}
use Rattle.cipher_core.specs.Masked.{masked}

module _ (t : RingSetting) (S : IsSetting t) where
  top_is : (rows : ℕ) → rows ≡ length t.moduli.chain → rows ≡ suc (top t)
  top_is rows all = omega (arith, S.accepted.shaped.chain_low, all)

  -- the residues of a whole polynomial modulo all moduli of the chain
  pub whole_chain : (rows : ℕ) (a : List ℤ) → rows ≡ length t.moduli.chain → rows_of (moduli_kept t rows false) a ≡ rows_at t (top t) a
  whole_chain rows a all = ap (λ k. rows_of (moduli_kept t k false) a) (top_is rows all)

  -- c0, step by step
  pub c0_is : (rows : ℕ) (r_coeffs e plain_coeffs : List ℤ) (part r plain made sum : Residues) → rows ≡ length t.moduli.chain
      → part.tables ≡ t → part.chain_rows ≡ length t.moduli.chain → part.special ≡ false
      → r.rows ≡ rows_of (moduli_kept t rows false) r_coeffs → plain.rows ≡ rows_of (moduli_kept t rows false) plain_coeffs
      → made ≡ with_rows part (masked t part.rows r.rows e) → sum ≡ with_rows made ((ring_of made).add made.rows plain.rows)
      → sum.rows ≡ (ring_at t (top t)).add (masked t part.rows (rows_at t (top t) r_coeffs) e) (rows_at t (top t) plain_coeffs)
  c0_is rows r_coeffs e plain_coeffs part r plain made sum all tables chain special r_is plain_is made_is sum_is =
      let qs = moduli_at t (top t) in
      let whole : sum.rows ≡ (ring_of part).add (masked t part.rows r.rows e) plain.rows = ap (λ (a : Residues). a.rows) (sum_is ∙ ap (λ (a : Residues). with_rows a ((ring_of a).add a.rows plain.rows)) made_is) in
      let moduli_are : moduli_of part ≡ qs = ap (λ (t : RingSetting). moduli_kept t part.chain_rows part.special) tables ∙ ap₂ (moduli_kept t) (chain ∙ top_is (length t.moduli.chain) refl) special in
      let ring : (ring_of part).add (masked t part.rows r.rows e) plain.rows ≡ (ring_at t (top t)).add (masked t part.rows r.rows e) plain.rows =
      ap₂ (λ m qs. (R_each m qs).add (masked t part.rows r.rows e) plain.rows) (ap (λ (t : RingSetting). t.moduli.m) tables) moduli_are in
      whole ∙ ring ∙ ap₂ (λ r p. (ring_at t (top t)).add (masked t part.rows r e) p) (r_is ∙ whole_chain rows r_coeffs all) (plain_is ∙ whole_chain rows plain_coeffs all)
