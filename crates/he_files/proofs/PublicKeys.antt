-- A public key of a secret is residues modulo each modulus of the chain, so its file is read again.
use Rattle.std.proofs.Common.{◌≡◌, ℕ, suc, ◌≤◌, false, List, length, ℤ, pos, sym, ◌∙◌, ap, subst, arith}
use Rattle.std.proofs.lemmas.List.{length-map}
use Rattle.algebra.specs.Ring.{CommRing, whole_numbers}
use Rattle.cyclotomic.specs.Cyclotomic.{IsElement, multiple}
use Rattle.residue_rows.specs.Rows.{AreRows}
use Rattle.residue_rows.specs.Kept.{RingSetting, IsSetting, moduli_kept}
use Rattle.scheme_laws.specs.Scheme.{top, moduli_at, rows_at, ring_at}
use Rattle.scheme_laws.specs.Keys.{PublicKey, IsSecret, IsPublicOf}
use Rattle.scheme_laws.proofs.LevelRows.{top_fits, keep, Level, held, rows_of_held, at}
use Rattle.he_files.specs.FileLaws.{ArePublicRows, PublicKeyLaw}
use Rattle.he_files.proofs.PublicFiles.{public_law}

-- the rows of a public key
module _ (ring : RingSetting) (S : IsSetting ring) (s : List ℤ) (s_is : IsSecret ring s) (key : PublicKey) (P : IsPublicOf ring s key) where
  fits : suc (top ring) ≤ length ring.moduli.chain
  fits = top_fits ring S

  abbrev Q : CommRing
  Q = Level ring S (top ring) fits

  abbrev p : ℤ
  p = pos ring.moduli.p

  abbrev whole : (a : List ℤ) → IsElement ring.moduli.m a → Q.Carrier
  whole a e = at ring S (top ring) fits a e

  abbrev b : Q.Carrier
  b = Q.add (Q.neg (Q.mul (held ring S (top ring) fits key.a P.rows_in) (whole s s_is.len))) (whole (multiple p P.e) (length-map P.e (whole_numbers.mul p) ∙ P.error.long))

  b_is : key.b ≡ b.0
  b_is = P.equation ∙ ap ((ring_at ring (top ring)).add ((ring_at ring (top ring)).neg ((ring_at ring (top ring)).mul key.a (rows_at ring (top ring) s)))) (sym ((keep ring S (top ring) fits).multiples p P.e))

  b_in : AreRows ring.moduli.m (moduli_at ring (top ring)) key.b
  b_in = subst (AreRows ring.moduli.m (moduli_at ring (top ring))) (sym b_is) (rows_of_held ring S (top ring) fits b)

  over : (rows : List (List ℕ)) → AreRows ring.moduli.m (moduli_at ring (top ring)) rows → AreRows ring.moduli.m (moduli_kept ring (length ring.moduli.chain) false) rows
  over rows is =
      let P : ℕ → Type 0 = λ n. AreRows ring.moduli.m (moduli_kept ring n false) rows in
      let all : suc (top ring) ≡ length ring.moduli.chain = omega (arith, fits) in
      subst P all is

  are_public_rows : ArePublicRows ring key
  are_public_rows = record { b_in = over key.b b_in; a_in = over key.a P.rows_in }

pub public_key_law : PublicKeyLaw
public_key_law ring header S names s key s_is P = (public_law ring header S names).again key (are_public_rows ring S s s_is key P)
