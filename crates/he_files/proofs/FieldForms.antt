-- Fields as forms: fixed texts, bytes, numbers of four and of eight bytes.
use Rattle.std.proofs.Common.{◌≡◌, ℕ, ◌^◌, ◌<◌, Bool, cond, List, [], ◌∷◌, length, get_or, Some, None, refl, sym, ap, subst, ◌∙◌, inl, inr, lit<, arith}
use Rattle.std.specs.Prelude.{IsTrue}
use Rattle.std.specs.Int.{Width, w32, w64, byte_len, from_le_bytes}
use Rattle.std.specs.Str.{bytes_eq}
use Rattle.std.proofs.lemmas.Bool.{cases_lt}
use Rattle.std.proofs.lemmas.List.{get_or_past}
use Rattle.std.proofs.lemmas.Slice.Eq.{bytes_eq-Decides}
use Rattle.std.proofs.lemmas.Nat.{le_bytes_4, le_bytes_8, from_le_bytes-to_le_bytes_4, from_le_bytes-to_le_bytes_8}
use Rattle.he_files.specs.Form.{only, fixed, allowed_byte, byte, number_bytes, allowed_number, number}
use Rattle.he_files.specs.FileLaws.{AreBytes}
use Rattle.he_files.proofs.Forms.{IsForm, field_is, let_through}

-- a text of the field's width
pub fixed_is : (width : ℕ) (text : List ℕ) → IsForm (fixed width text) (λ _. length text ≡ width)
unfolding only
fixed_is width text = field_is width (λ _. text) (only text) (λ _. length text ≡ width) (record {
  long = λ _ long. long;
  again = λ _ _. ap (λ b. cond b (Some tt) None) ((bytes_eq-Decides text text).1 refl);
  found = λ front _ all long e.
      let same : front ≡ text = (bytes_eq-Decides front text).0 (let_through (bytes_eq front text) tt tt e).0 in
      (subst (λ (t : List ℕ). length t ≡ width) same long, sym same);
})

-- a byte that passes a test
abbrev pub IsAllowedByte : (ℕ → Bool) → ℕ → Type 0
IsAllowedByte test n = IsTrue (test n)

one_byte : (front : List ℕ) → length front ≡ 1 → front ≡ get_or front 0 0 ∷ []
one_byte [] e = absurd (omega arith)
one_byte (b ∷ []) e = refl
one_byte (b ∷ c ∷ bs) e = absurd (omega arith)

pub byte_is : (test : ℕ → Bool) → IsForm (byte test) (IsAllowedByte test)
unfolding allowed_byte
byte_is test = field_is 1 (λ n. n ∷ []) (allowed_byte test) (IsAllowedByte test) (record {
  long = λ _ _. refl;
  again = λ n fits. ap (λ b. cond b (Some n) None) fits;
  found = λ front n all long e.
      let g = let_through (test (get_or front 0 0)) (get_or front 0 0) n e in
      (subst (λ k. IsTrue (test k)) g.1 g.0, ap (λ k. k ∷ []) (sym g.1) ∙ sym (one_byte front long));
})

-- what the bytes of a number have to be
record IsWide (w : Width) (limit : ℕ) : Type 0 where
  long : (n : ℕ) → length (number_bytes w n) ≡ byte_len w
  back : (bytes : List ℕ) → length bytes ≡ byte_len w → AreBytes bytes → number_bytes w (from_le_bytes w bytes) ≡ bytes
  again : (n : ℕ) → n < limit → from_le_bytes w (number_bytes w n) ≡ n
  below : (bytes : List ℕ) → length bytes ≡ byte_len w → AreBytes bytes → from_le_bytes w bytes < limit

-- each place, also past the end
any_place : (bytes : List ℕ) → AreBytes bytes → (i : ℕ) → get_or bytes i 0 < 256
any_place bytes all i =
    elim (cases_lt i (length bytes)) [
      | inl lt ↦ all i 0 lt
      | inr le ↦ rw (get_or_past bytes i 0 le) (lit< tt)
    ]

wide32 : IsWide w32 (2 ^ 32)
unfolding number_bytes
wide32 = record {
  long = λ n. refl;
  back = λ bytes long all. le_bytes_4 bytes _ long (any_place bytes all) refl;
  again = λ n lt. from_le_bytes-to_le_bytes_4 n lt;
  below = λ bytes long all. let fits = any_place bytes all in omega (arith, fits 0, fits 1, fits 2, fits 3);
}

wide64 : IsWide w64 (2 ^ 64)
unfolding number_bytes
wide64 = record {
  long = λ n. refl;
  back = λ bytes long all. le_bytes_8 bytes _ long (any_place bytes all) refl;
  again = λ n lt. from_le_bytes-to_le_bytes_8 n lt;
  below = λ bytes long all. let fits = any_place bytes all in omega (arith, fits 0, fits 1, fits 2, fits 3, fits 4, fits 5, fits 6, fits 7);
}

-- a number below a limit that passes a test
pub record IsAllowedNumber (limit : ℕ) (test : ℕ → Bool) (n : ℕ) : Type 0 where
  pub below : n < limit
  pub passes : IsTrue (test n)

number_is : (w : Width) (limit : ℕ) (test : ℕ → Bool) → IsWide w limit → IsForm (number w test) (IsAllowedNumber limit test)
unfolding allowed_number
number_is w limit test wide = field_is (byte_len w) (number_bytes w) (allowed_number w test) (IsAllowedNumber limit test) (record {
  long = λ n _. wide.long n;
  again = λ n fits. rw (wide.again n fits.below) (ap (λ b. cond b (Some n) None) fits.passes);
  found = λ front n all long e.
      let g = let_through (test (from_le_bytes w front)) (from_le_bytes w front) n e in (
        record { below = subst (λ k. k < limit) g.1 (wide.below front long all); passes = subst (λ k. IsTrue (test k)) g.1 g.0 },
        ap (number_bytes w) (sym g.1) ∙ wide.back front long all,
      );
})

pub number32_is : (test : ℕ → Bool) → IsForm (number w32 test) (IsAllowedNumber (2 ^ 32) test)
number32_is test = number_is w32 (2 ^ 32) test wide32

pub number64_is : (test : ℕ → Bool) → IsForm (number w64 test) (IsAllowedNumber (2 ^ 64) test)
number64_is test = number_is w64 (2 ^ 64) test wide64
