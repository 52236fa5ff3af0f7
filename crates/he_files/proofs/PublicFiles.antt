-- The files of public keys.
use Rattle.std.proofs.Common.{◌≡◌, ℕ, ◌+◌, List, [], ◌++◌, length, false, Ok, refl, sym, subst, ◌∙◌, append_assoc, le_refl, arith}
use Rattle.std.specs.Prelude.{IsSome}
use Rattle.std.proofs.lemmas.List.{length-append}
use Rattle.line_text.specs.declared.kinds.FileKind.TheVariants as kinds
use Rattle.residue_rows.specs.Rows.{AreRows}
use Rattle.residue_rows.specs.Kept.{RingSetting, IsSetting, moduli_kept}
use Rattle.scheme_laws.specs.Keys.{PublicKey}
use Rattle.he_files.specs.declared.headers.Header.{Header}
use Rattle.he_files.specs.Form.{Form}
use Rattle.he_files.specs.Header.{kind_byte, header_bytes}
use Rattle.he_files.specs.PublicFile.{over_chain, public_bytes, public_of}
use Rattle.he_files.specs.FileLaws.{AreBytes, header_length, BeginsWith, ArePublicRows, PublicLaw}
use Rattle.he_files.proofs.Forms.{IsForm, StandsAt, step_ok, length_here, stands_first, stands_second, found_inside, found_after}
use Rattle.he_files.proofs.FileForms.{ended_at, ended_found, body_stands, body_inside, body_is}
use Rattle.he_files.proofs.PolynomialForms.{polynomial_is}

-- public keys have a byte
some_kind : IsSome (kind_byte kinds.Public)
unfolding kind_byte
some_kind = refl

module _ (t : RingSetting) (S : IsSetting t) (h : Header) where
  abbrev form : Form (List (List ℕ))
  form = over_chain t

  abbrev Fits : List (List ℕ) → Type 0
  Fits = AreRows t.moduli.m (moduli_kept t (length t.moduli.chain) false)

  chain_is : IsForm form Fits
  chain_is = polynomial_is t S (length t.moduli.chain) (le_refl (length t.moduli.chain))

  -- the header, and b and a behind it
  parts : (key : PublicKey) → public_bytes t h key ≡ header_bytes kinds.Public h ++ (form.spelled key.b ++ form.spelled key.a)
  unfolding public_bytes
  parts key = append_assoc (header_bytes kinds.Public h) (form.spelled key.b) (form.spelled key.a)

  -- a file that begins with a header and goes on so to its end
  whole : (bytes : List ℕ) (from : ℕ) (key : PublicKey) (rest : List ℕ) → BeginsWith kinds.Public bytes h from → StandsAt bytes from (form.spelled key.b ++ form.spelled key.a) rest
      → length bytes ≡ from + length (form.spelled key.b ++ form.spelled key.a) → bytes ≡ public_bytes t h key
  whole bytes from key rest begins s long = body_is kinds.Public some_kind h bytes from (form.spelled key.b ++ form.spelled key.a) rest begins s long ∙ sym (parts key)

  -- what is read where b and a stand to the end of a file
  read_again : (bytes : List ℕ) (from : ℕ) (key : PublicKey) → ArePublicRows t key → StandsAt bytes from (form.spelled key.b ++ form.spelled key.a) [] → public_of t bytes from ≡ Ok key
  unfolding public_of
  read_again bytes from key fits s =
      let b = form.spelled key.b in
      let a = form.spelled key.a in
      let first = chain_is.again bytes from key.b (a ++ []) fits.b_in (stands_first bytes from b a [] s) in
      let second = chain_is.again bytes (from + length b) key.a [] fits.a_in (stands_second bytes from b a [] s) in
      rw (first, second) (ended_at bytes key (from + length b + length a) (omega (arith, length_here bytes from (b ++ a) [] s, length-append b a)))

  public_again : (key : PublicKey) → ArePublicRows t key → public_of t (public_bytes t h key) (header_length h) ≡ Ok key
  public_again key fits =
      let body = form.spelled key.b ++ form.spelled key.a in
      subst (λ file. public_of t file (header_length h) ≡ Ok key) (sym (parts key)) (read_again (header_bytes kinds.Public h ++ body) (header_length h) key fits (body_stands kinds.Public some_kind h body))

  public_found : (bytes : List ℕ) (from : ℕ) (key : PublicKey) → AreBytes bytes → BeginsWith kinds.Public bytes h from → public_of t bytes from ≡ Ok key → ArePublicRows t key × (bytes ≡ public_bytes t h key)
  unfolding public_of
  public_found bytes from key all begins e =
      let b = step_ok (form.read bytes from) _ key e in
      let f = chain_is.found bytes from b.0 all (body_inside kinds.Public some_kind h bytes from begins) b.1 in
      let a = step_ok (form.read bytes b.0.1) _ key b.2 in
      let g = chain_is.found bytes b.0.1 a.0 all (found_inside form Fits bytes from b.0 f) a.1 in
      let made : PublicKey = record { b = b.0.0; a = a.0.0 } in
      let end = ended_found bytes made key a.0.1 a.2 in
      let text = form.spelled b.0.0 ++ form.spelled a.0.0 in
      let long : length bytes ≡ from + length text = omega (arith, end.0, f.end, g.end, length-append (form.spelled b.0.0) (form.spelled a.0.0)) in
      let stands = found_after form Fits bytes from b.0 (form.spelled a.0.0) g.rest f g.stands in
      subst (λ (k : PublicKey). ArePublicRows t k × (bytes ≡ public_bytes t h k)) end.1
      (record { b_in = f.fits; a_in = g.fits }, whole bytes from made g.rest begins stands long)

pub public_law : PublicLaw
public_law t h S names = record { again = public_again t S h; spelled = public_found t S h }
