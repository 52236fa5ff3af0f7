-- Bounds that are read were spelled so, and spelled bounds are read again.
use Rattle.std.proofs.Common.{◌≡◌, ℕ, ◌+◌, ◌*◌, ◌^◌, ◌<◌, ◌≤◌, true, ltb, leb, eqb, ◌&&◌, ◌||◌, ◌++◌, length, Ok, refl, ap, subst, ◌∙◌, inl, inr, arith}
use Rattle.std.specs.Int.{w32}
use Rattle.std.proofs.lemmas.Bool.{ltb-true, lt-ltb, leb-true, le-leb, eqb-true, eq-eqb, and_parts, and_from, or_cases, or_left, or_right, cases_lt}
use Rattle.std.proofs.lemmas.List.{length-append}
use Rattle.std.proofs.lemmas.Nat.{pow_pos}
use Rattle.std.proofs.Math.Nat.{div-lt_iff_lt-mul, le-div_iff_mul-le}
use Rattle.noise_bound.specs.Rounding.{IsFloating, mantissa, exponent, down}
use Rattle.noise_bound.proofs.RoundingLaws.{exponent_is, down-floating}
use Rattle.noise_bound.proofs.Steps.{mantissa_of_form, exponent_of_form}
use Rattle.he_files.specs.Form.{number_bytes}
use Rattle.he_files.specs.CipherFile.{bound_mantissa, bound_exponent, bound_at, bound}
use Rattle.he_files.specs.FileLaws.{IsSpelledBound}
use Rattle.he_files.proofs.Forms.{IsForm, Found, step_ok, ok_is, stands_first, stands_second, found_inside, found_after}
use Rattle.he_files.proofs.FieldForms.{number32_is}

-- a mantissa has at most 32 binary digits
mantissa_below : (b : ℕ) → mantissa b < 2 ^ 32
mantissa_below b = (div-lt_iff_lt-mul (pow_pos (exponent b))).1 (exponent_is b).fits

-- it has all of them where the exponent is not 0
mantissa_full : (b : ℕ) → 0 < exponent b → 2 ^ 31 ≤ mantissa b
mantissa_full b some = (le-div_iff_mul-le (pow_pos (exponent b))).1 ((exponent_is b).full some)

-- a bound is its mantissa times the power of two
number_is : (b : ℕ) → IsFloating b → mantissa b * 2 ^ exponent b ≡ b
unfolding down
number_is b f = down-floating b f

-- an exponent that is allowed beside a mantissa
fine_exponent : (man exp : ℕ) → exp < 4096 → (0 < exp → 2 ^ 31 ≤ man) → (ltb exp 4096 && (leb (2 ^ 31) man || eqb exp 0)) ≡ true
fine_exponent man exp small normal =
    and_from (ltb exp 4096) (leb (2 ^ 31) man || eqb exp 0) (lt-ltb exp 4096 small)
    (elim (cases_lt 0 exp) [
      | inl some ↦ or_left (leb (2 ^ 31) man) (eqb exp 0) (le-leb (2 ^ 31) man (normal some))
      | inr none ↦ or_right (leb (2 ^ 31) man) (eqb exp 0) (eq-eqb exp 0 (omega arith))
    ])

exponent_small : (man exp : ℕ) → (ltb exp 4096 && (leb (2 ^ 31) man || eqb exp 0)) ≡ true → exp < 4096
exponent_small man exp e = ltb-true exp 4096 (and_parts (ltb exp 4096) (leb (2 ^ 31) man || eqb exp 0) e).0

exponent_normal : (man exp : ℕ) → (ltb exp 4096 && (leb (2 ^ 31) man || eqb exp 0)) ≡ true → 0 < exp → 2 ^ 31 ≤ man
exponent_normal man exp e some =
    elim (or_cases (leb (2 ^ 31) man) (eqb exp 0) (and_parts (ltb exp 4096) (leb (2 ^ 31) man || eqb exp 0) e).1) [
      | inl full ↦ leb-true (2 ^ 31) man full
      | inr none ↦ absurd (omega (arith, eqb-true exp 0 none))
    ]

-- the numbers of a bound in a file
pub record IsPair (man exp : ℕ) : Type 0 where
  pub man_fits : man < 2 ^ 32
  pub normal : 0 < exp → 2 ^ 31 ≤ man
  pub small : exp < 4096

pair_is_bound : (man exp : ℕ) → IsPair man exp → IsSpelledBound (man * 2 ^ exp)
pair_is_bound man exp p = record {
  floating = record { man = man; exp = exp; fits = p.man_fits; is = refl };
  small = subst (λ k. k < 4096) (exponent_of_form man exp p.man_fits p.normal) p.small;
}

pub bound_is : IsForm bound IsSpelledBound
unfolding bound_at
bound_is = record {
  again = λ bytes at b rest fits s.
      let man = mantissa b in
      let exp = exponent b in
      let first = (number32_is (λ _. true)).again bytes at man (number_bytes w32 exp ++ rest) (record { below = mantissa_below b; passes = refl }) (stands_first bytes at (number_bytes w32 man) (number_bytes w32 exp) rest s) in
      let place = at + length (number_bytes w32 man) in
      let second = (number32_is (λ exp. ltb exp 4096 && (leb (2 ^ 31) man || eqb exp 0))).again bytes place exp rest
      (record { below = let small : exp < 4096 = fits.small in omega arith; passes = fine_exponent man exp fits.small (mantissa_full b) })
      (stands_second bytes at (number_bytes w32 man) (number_bytes w32 exp) rest s) in
      rw (first, second, number_is b fits.floating) (ap (λ k. Ok (b, k)) (omega (arith, length-append (number_bytes w32 man) (number_bytes w32 exp))));
  found = λ bytes at y all inside e.
      let a = step_ok (bound_mantissa.read bytes at) _ y e in
      let f = (number32_is (λ _. true)).found bytes at a.0 all inside a.1 in
      let man = a.0.0 in
      let b = step_ok ((bound_exponent man).read bytes a.0.1) _ y a.2 in
      let g = (number32_is (λ exp. ltb exp 4096 && (leb (2 ^ 31) man || eqb exp 0))).found bytes a.0.1 b.0 all (found_inside bound_mantissa _ bytes at a.0 f) b.1 in
      let exp = b.0.0 in
      let pair : IsPair man exp = record { man_fits = f.fits.below; normal = exponent_normal man exp g.fits.passes; small = exponent_small man exp g.fits.passes } in
      let text : number_bytes w32 man ++ number_bytes w32 exp ≡ bound.spelled (man * 2 ^ exp) =
      ap (λ (x : ℕ). number_bytes w32 x ++ number_bytes w32 exp) (mantissa_of_form man exp pair.man_fits pair.normal) ∙ ap (λ (x : ℕ). number_bytes w32 (mantissa (man * 2 ^ exp)) ++ number_bytes w32 x) (exponent_of_form man exp pair.man_fits pair.normal) in
      subst (Found bound IsSpelledBound bytes at) (ok_is (man * 2 ^ exp, b.0.1) y b.2) (record {
        rest = g.rest;
        stands = rw (← text) (found_after bound_mantissa _ bytes at a.0 (number_bytes w32 exp) g.rest f g.stands);
        end = rw (← text) (omega (arith, f.end, g.end, length-append (number_bytes w32 man) (number_bytes w32 exp)));
        fits = pair_is_bound man exp pair;
      });
}
