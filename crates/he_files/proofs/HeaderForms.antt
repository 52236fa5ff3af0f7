-- Headers that are read were spelled so, and spelled headers are read again.
use Rattle.std.proofs.Common.{◌≡◌, ℕ, ◌+◌, ◌&&◌, List, [], ◌∷◌, ◌++◌, length, Option, Some, None, Ok, refl, sym, ap, subst, ◌∙◌, append_assoc, arith}
use Rattle.std.specs.Prelude.{IsTrue, IsSome, nat_le, codes, option_to_list}
use Rattle.std.proofs.lemmas.Bool.{and_parts}
use Rattle.std.proofs.lemmas.List.{length-append}
use Rattle.line_text.specs.declared.kinds.FileKind.{FileKind}
use Rattle.line_text.specs.Names.{is_name, IsName, name_of}
use Rattle.he_files.specs.declared.headers.Header.{Header}
use Rattle.he_files.specs.Form.{byte}
use Rattle.he_files.specs.Header.{kind_byte, mark, kind, format, name_bytes, name_at, name, header_bytes, header_of}
use Rattle.he_files.specs.FileLaws.{AreBytes, AreNames, header_length, BeginsWith, HeadersAre}
use Rattle.he_files.proofs.Forms.{IsForm, StandsAt, field_is, step_ok, ok_is, let_through, stands_first, stands_second, found_inside, found_after}
use Rattle.he_files.proofs.FieldForms.{fixed_is, byte_is}

-- ---- names

name_bytes_is : (n : ℕ) → IsForm (name_bytes n) (λ x. IsName x × (length x ≡ n))
unfolding name_of
name_bytes_is n = field_is n (λ x. x) name_of (λ x. IsName x × (length x ≡ n)) (record {
  long = λ x fits. fits.1;
  again = λ x fits. rw fits.0 refl;
  found = λ front x all long e.
      let g = let_through (is_name front) front x e in
      ((subst (λ (t : List ℕ). IsName t) g.1 g.0, subst (λ (t : List ℕ). length t ≡ n) g.1 long), sym g.1);
})

-- the length of a name is one that a file can spell
name_long : (x : List ℕ) → IsName x → IsTrue (nat_le 1 (length x) && nat_le (length x) 64)
unfolding is_name
name_long x fits = (and_parts (nat_le 1 (length x) && nat_le (length x) 64) _ fits).0

pub name_is : IsForm name IsName
unfolding name_at
name_is = record {
  again = λ bytes at x rest fits s.
      let n = length x in
      let first = (byte_is (λ n. nat_le 1 n && nat_le n 64)).again bytes at n (x ++ rest) (name_long x fits) (stands_first bytes at (n ∷ []) x rest s) in
      let second = (name_bytes_is n).again bytes (at + 1) x rest (fits, refl) (stands_second bytes at (n ∷ []) x rest s) in
      rw (first, second) (ap (λ k. Ok (x, k)) (omega arith));
  found = λ bytes at y all inside e.
      let form = byte (λ n. nat_le 1 n && nat_le n 64) in
      let a = step_ok (form.read bytes at) (λ n. (name_bytes n.0).read bytes n.1) y e in
      let first = (byte_is (λ n. nat_le 1 n && nat_le n 64)).found bytes at a.0 all inside a.1 in
      let second = (name_bytes_is a.0.0).found bytes a.0.1 y all (found_inside form _ bytes at a.0 first) a.2 in
      record {
        rest = second.rest;
        stands = rw second.fits.1 (found_after form _ bytes at a.0 y.0 second.rest first second.stands);
        end = omega (arith, first.end, second.end);
        fits = second.fits.0;
      };
}

-- ---- headers

some_length : {X : Type 0} (o : Option X) → IsSome o → length (option_to_list o) ≡ 1
some_length (Some x) s = refl
some_length None s = absurd cc

-- a text of five parts
five_parts : (a b c d e : List ℕ) → (((a ++ b) ++ c) ++ d) ++ e ≡ a ++ (b ++ (c ++ (d ++ e)))
five_parts a b c d e = simp append_assoc

-- the parts of a header
header_parts : (k : FileKind) (h : Header) → header_bytes k h ≡ mark.spelled tt ++ ((kind k).spelled tt ++ (format.spelled tt ++ (name.spelled h.table ++ name.spelled h.key)))
unfolding header_bytes
header_parts k h = five_parts (mark.spelled tt) ((kind k).spelled tt) (format.spelled tt) (name.spelled h.table) (name.spelled h.key)

-- a file that begins with the parts of a header begins with the header
begins : (k : FileKind) (bytes : List ℕ) (h : Header) (rest : List ℕ) → StandsAt bytes 0 (mark.spelled tt ++ ((kind k).spelled tt ++ (format.spelled tt ++ (name.spelled h.table ++ name.spelled h.key)))) rest → bytes ≡ header_bytes k h ++ rest
begins k bytes h rest s = s.here ∙ ap (λ (t : List ℕ). t ++ rest) (sym (header_parts k h))

pub header-long : (k : FileKind) (h : Header) → IsSome (kind_byte k) → length (header_bytes k h) ≡ header_length h
header-long k h some =
    let one = some_length (kind_byte k) some in
    let rest = name.spelled h.table ++ name.spelled h.key in
    let after = format.spelled tt ++ rest in
    ap length (header_parts k h) ∙ (omega (arith, one, length-append (option_to_list (kind_byte k)) after, length-append (name.spelled h.table) (name.spelled h.key)))

pub header_again : (k : FileKind) (bytes : List ℕ) (h : Header) (rest : List ℕ) → IsSome (kind_byte k) → AreNames h → StandsAt bytes 0 (header_bytes k h) rest → header_of k bytes ≡ Ok (h, header_length h)
unfolding header_of
header_again k bytes h rest some names s =
    let one = some_length (kind_byte k) some in
    let a = mark.spelled tt in
    let b = option_to_list (kind_byte k) in
    let c = format.spelled tt in
    let d = name.spelled h.table in
    let e = name.spelled h.key in
    let s0 : StandsAt bytes 0 (a ++ (b ++ (c ++ (d ++ e)))) rest = subst (λ t. StandsAt bytes 0 t rest) (header_parts k h) s in
    let s1 = stands_second bytes 0 a (b ++ (c ++ (d ++ e))) rest s0 in
    let s2 = stands_second bytes (0 + 4) b (c ++ (d ++ e)) rest s1 in
    let s3 = stands_second bytes (0 + 4 + length b) c (d ++ e) rest s2 in
    let s4 = stands_second bytes (0 + 4 + length b + 1) d e rest s3 in
    let r0 = (fixed_is 4 a).again bytes 0 tt ((b ++ (c ++ (d ++ e))) ++ rest) refl (stands_first bytes 0 a (b ++ (c ++ (d ++ e))) rest s0) in
    let r1 = (fixed_is 1 b).again bytes (0 + 4) tt ((c ++ (d ++ e)) ++ rest) one (stands_first bytes (0 + 4) b (c ++ (d ++ e)) rest s1) in
    let r2 = (fixed_is 1 c).again bytes (0 + 4 + length b) tt ((d ++ e) ++ rest) refl (stands_first bytes (0 + 4 + length b) c (d ++ e) rest s2) in
    let r3 = name_is.again bytes (0 + 4 + length b + 1) h.table (e ++ rest) names.table (stands_first bytes (0 + 4 + length b + 1) d e rest s3) in
    let r4 = name_is.again bytes (0 + 4 + length b + 1 + length d) h.key rest names.key s4 in
    rw (r0, r1, r2, r3, r4) (ap (λ n. Ok (h, n)) (omega (arith, one)))

pub header_found : (k : FileKind) (bytes : List ℕ) (y : Header × ℕ) → AreBytes bytes → header_of k bytes ≡ Ok y → BeginsWith k bytes y.0 y.1
unfolding header_of
header_found k bytes y all e =
    let a = step_ok (mark.read bytes 0) _ y e in
    let f0 = (fixed_is 4 (codes "HBGV")).found bytes 0 a.0 all (omega arith) a.1 in
    let b = step_ok ((kind k).read bytes a.0.1) _ y a.2 in
    let f1 = (fixed_is 1 (option_to_list (kind_byte k))).found bytes a.0.1 b.0 all (found_inside mark _ bytes 0 a.0 f0) b.1 in
    let c = step_ok (format.read bytes b.0.1) _ y b.2 in
    let f2 = (fixed_is 1 (1 ∷ [])).found bytes b.0.1 c.0 all (found_inside (kind k) _ bytes a.0.1 b.0 f1) c.1 in
    let d = step_ok (name.read bytes c.0.1) _ y c.2 in
    let f3 = name_is.found bytes c.0.1 d.0 all (found_inside format _ bytes b.0.1 c.0 f2) d.1 in
    let g = step_ok (name.read bytes d.0.1) _ y d.2 in
    let f4 = name_is.found bytes d.0.1 g.0 all (found_inside name IsName bytes c.0.1 d.0 f3) g.1 in
    let table = name.spelled d.0.0 in
    let key = name.spelled g.0.0 in
    let s3 = found_after name IsName bytes c.0.1 d.0 key f4.rest f3 f4.stands in
    let s2 = found_after format _ bytes b.0.1 c.0 (table ++ key) f4.rest f2 s3 in
    let s1 = found_after (kind k) _ bytes a.0.1 b.0 ((1 ∷ []) ++ (table ++ key)) f4.rest f1 s2 in
    let s0 = found_after mark _ bytes 0 a.0 (option_to_list (kind_byte k) ++ ((1 ∷ []) ++ (table ++ key))) f4.rest f0 s1 in
    let h : Header = record { table = d.0.0; key = g.0.0 } in
    subst (λ (z : Header × ℕ). BeginsWith k bytes z.0 z.1) (ok_is (h, g.0.1) y g.2) (record {
      names = record { table = f3.fits; key = f4.fits };
      rest = f4.rest;
      parts = begins k bytes h f4.rest s0;
      offset = omega (arith, f0.end, f1.end, f1.fits, f2.end, f3.end, f4.end);
    })

pub headers_are : (k : FileKind) → IsSome (kind_byte k) → HeadersAre k
headers_are k some = record {
  long = λ h. header-long k h some;
  again = λ h rest names. header_again k (header_bytes k h ++ rest) h rest some names (record { inside = omega arith; here = refl });
  spelled = λ bytes h from all e. header_found k bytes (h, from) all e;
}
