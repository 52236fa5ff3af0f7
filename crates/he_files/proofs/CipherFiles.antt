-- The files of ciphertexts.
use Rattle.std.proofs.Common.{◌≡◌, ℕ, suc, ◌+◌, ◌^◌, ◌≤◌, leb, List, [], ◌++◌, length, false, Ok, refl, sym, subst, ◌∙◌, append_assoc, arith}
use Rattle.std.specs.Prelude.{IsSome}
use Rattle.std.proofs.lemmas.Bool.{leb-true, le-leb}
use Rattle.std.proofs.lemmas.List.{length-append}
use Rattle.line_text.specs.declared.kinds.FileKind.TheVariants as kinds
use Rattle.residue_rows.specs.Rows.{AreRows}
use Rattle.residue_rows.specs.Kept.{RingSetting, IsSetting, moduli_kept}
use Rattle.scheme_laws.specs.Scheme.{top}
use Rattle.scheme_laws.specs.Ciphers.{Cipher}
use Rattle.he_files.specs.declared.headers.Header.{Header}
use Rattle.he_files.specs.Header.{kind_byte, header_bytes}
use Rattle.he_files.specs.CipherFile.{level, bound, at_level, cipher_bytes, cipher_of_bytes}
use Rattle.he_files.specs.FileLaws.{AreBytes, header_length, BeginsWith, IsSpelledBound, CipherLaw}
use Rattle.he_files.proofs.Forms.{IsForm, StandsAt, step_ok, length_here, stands_first, stands_second, found_inside, found_after}
use Rattle.he_files.proofs.FieldForms.{IsAllowedNumber, number32_is}
use Rattle.he_files.proofs.FileForms.{ended_at, ended_found, body_stands, body_inside, body_is}
use Rattle.he_files.proofs.PolynomialForms.{polynomial_is}
use Rattle.he_files.proofs.BoundForms.{bound_is}

-- ciphertexts have a byte
some_kind : IsSome (kind_byte kinds.Cipher)
unfolding kind_byte
some_kind = refl

-- a text of five parts
five_parts : (a b c d e : List ℕ) → (((a ++ b) ++ c) ++ d) ++ e ≡ a ++ (b ++ (c ++ (d ++ e)))
five_parts a b c d e = simp append_assoc

module _ (t : RingSetting) (S : IsSetting t) (h : Header) where
  -- what can be spelled
  record IsSpelledCipher (c : Cipher) : Type 0 where
    level_in : suc c.level ≤ length t.moduli.chain
    bound_in : IsSpelledBound c.bound
    c0_in : AreRows t.moduli.m (moduli_kept t (suc c.level) false) c.c0
    c1_in : AreRows t.moduli.m (moduli_kept t (suc c.level) false) c.c1

  abbrev IsLevel : ℕ → Type 0
  IsLevel = IsAllowedNumber (2 ^ 32) (λ l. leb l (top t))

  level_is : IsForm (level t) IsLevel
  level_is = number32_is (λ l. leb l (top t))

  -- a level of the chain, as a number in a file
  level_fits : (l : ℕ) → suc l ≤ length t.moduli.chain → IsLevel l
  level_fits l few = record { below = omega (arith, S.accepted.shaped.chain_high); passes = le-leb l (top t) (omega arith) }

  level_low : (l : ℕ) → IsLevel l → suc l ≤ length t.moduli.chain
  level_low l fits = omega (arith, S.accepted.shaped.chain_low, leb-true l (top t) fits.passes)

  -- what stands behind the header
  abbrev body : Cipher → List ℕ
  body c = (level t).spelled c.level ++ (bound.spelled c.bound ++ ((at_level t c.level).spelled c.c0 ++ (at_level t c.level).spelled c.c1))

  parts : (c : Cipher) → cipher_bytes t h c ≡ header_bytes kinds.Cipher h ++ body c
  unfolding cipher_bytes
  parts c = five_parts (header_bytes kinds.Cipher h) ((level t).spelled c.level) (bound.spelled c.bound) ((at_level t c.level).spelled c.c0) ((at_level t c.level).spelled c.c1)

  -- a file that begins with a header and goes on so to its end
  whole : (bytes : List ℕ) (from : ℕ) (c : Cipher) (rest : List ℕ) → BeginsWith kinds.Cipher bytes h from → StandsAt bytes from (body c) rest → length bytes ≡ from + length (body c) → bytes ≡ cipher_bytes t h c
  whole bytes from c rest begins s long = body_is kinds.Cipher some_kind h bytes from (body c) rest begins s long ∙ sym (parts c)

  read_again : (bytes : List ℕ) (from : ℕ) (c : Cipher) → IsSpelledCipher c → StandsAt bytes from (body c) [] → cipher_of_bytes t bytes from ≡ Ok c
  unfolding cipher_of_bytes
  read_again bytes from c fits s =
      let form = at_level t c.level in
      let is = polynomial_is t S (suc c.level) fits.level_in in
      let l = (level t).spelled c.level in
      let b = bound.spelled c.bound in
      let x = form.spelled c.c0 in
      let y = form.spelled c.c1 in
      let p1 = from + length l in
      let p2 = p1 + length b in
      let p3 = p2 + length x in
      let s1 = stands_second bytes from l (b ++ (x ++ y)) [] s in
      let s2 = stands_second bytes p1 b (x ++ y) [] s1 in
      let s3 = stands_second bytes p2 x y [] s2 in
      let r0 = level_is.again bytes from c.level ((b ++ (x ++ y)) ++ []) (level_fits c.level fits.level_in) (stands_first bytes from l (b ++ (x ++ y)) [] s) in
      let r1 = bound_is.again bytes p1 c.bound ((x ++ y) ++ []) fits.bound_in (stands_first bytes p1 b (x ++ y) [] s1) in
      let r2 = is.again bytes p2 c.c0 (y ++ []) fits.c0_in (stands_first bytes p2 x y [] s2) in
      let r3 = is.again bytes p3 c.c1 [] fits.c1_in s3 in
      rw (r0, r1, r2, r3) (ended_at bytes c (p3 + length y) (omega (arith, length_here bytes p3 y [] s3)))

  cipher_again : (c : Cipher) → IsSpelledCipher c → cipher_of_bytes t (cipher_bytes t h c) (header_length h) ≡ Ok c
  cipher_again c fits =
      subst (λ file. cipher_of_bytes t file (header_length h) ≡ Ok c) (sym (parts c)) (read_again (header_bytes kinds.Cipher h ++ body c) (header_length h) c fits (body_stands kinds.Cipher some_kind h (body c)))

  cipher_found : (bytes : List ℕ) (from : ℕ) (c : Cipher) → AreBytes bytes → BeginsWith kinds.Cipher bytes h from → cipher_of_bytes t bytes from ≡ Ok c → IsSpelledCipher c × (bytes ≡ cipher_bytes t h c)
  unfolding cipher_of_bytes
  cipher_found bytes from c all begins e =
      let l = step_ok ((level t).read bytes from) _ c e in
      let f0 = level_is.found bytes from l.0 all (body_inside kinds.Cipher some_kind h bytes from begins) l.1 in
      let form = at_level t l.0.0 in
      let low = level_low l.0.0 f0.fits in
      let Fits = AreRows t.moduli.m (moduli_kept t (suc l.0.0) false) in
      let is = polynomial_is t S (suc l.0.0) low in
      let b = step_ok (bound.read bytes l.0.1) _ c l.2 in
      let f1 = bound_is.found bytes l.0.1 b.0 all (found_inside (level t) IsLevel bytes from l.0 f0) b.1 in
      let x = step_ok (form.read bytes b.0.1) _ c b.2 in
      let f2 = is.found bytes b.0.1 x.0 all (found_inside bound IsSpelledBound bytes l.0.1 b.0 f1) x.1 in
      let y = step_ok (form.read bytes x.0.1) _ c x.2 in
      let f3 = is.found bytes x.0.1 y.0 all (found_inside form Fits bytes b.0.1 x.0 f2) y.1 in
      let made : Cipher = record { level = l.0.0; bound = b.0.0; c0 = x.0.0; c1 = y.0.0 } in
      let end = ended_found bytes made c y.0.1 y.2 in
      let c1 = form.spelled y.0.0 in
      let c0 = form.spelled x.0.0 in
      let s2 = found_after form Fits bytes b.0.1 x.0 c1 f3.rest f2 f3.stands in
      let s1 = found_after bound IsSpelledBound bytes l.0.1 b.0 (c0 ++ c1) f3.rest f1 s2 in
      let s0 = found_after (level t) IsLevel bytes from l.0 (bound.spelled b.0.0 ++ (c0 ++ c1)) f3.rest f0 s1 in
      let long : length bytes ≡ from + length (body made) = omega (arith, end.0, f0.end, f1.end, f2.end, f3.end, length-append ((level t).spelled l.0.0) (bound.spelled b.0.0 ++ (c0 ++ c1)), length-append (bound.spelled b.0.0) (c0 ++ c1), length-append c0 c1) in
      subst (λ (k : Cipher). IsSpelledCipher k × (bytes ≡ cipher_bytes t h k)) end.1
      (record { level_in = low; bound_in = f1.fits; c0_in = f2.fits; c1_in = f3.fits }, whole bytes from made f3.rest begins s0 long)

pub cipher_law : CipherLaw
cipher_law t h S names = record {
  again = λ c is spelled. cipher_again t.ring S h c (record { level_in = is.level_in; bound_in = spelled; c0_in = is.c0_in; c1_in = is.c1_in });
  spelled = λ bytes from c all begins e.
      let f = cipher_found t.ring S h bytes from c all begins e in
      (record { level_in = f.0.level_in; c0_in = f.0.c0_in; c1_in = f.0.c1_in }, f.0.bound_in, f.1);
}
