-- Lists of values as forms.
use Rattle.std.proofs.Common.{◌≡◌, ℕ, zero, suc, ◌+◌, ◌≤◌, List, [], ◌∷◌, ◌++◌, length, drop, Ok, refl, ap, subst, arith}
use Rattle.std.specs.List.{flat_map, AllByRecursion, AllZip}
use Rattle.std.proofs.lemmas.List.{length-append}
use Rattle.he_files.specs.Form.{◌>>=◌, Form, several_at, several, each_spelled, each_at, each, written_as}
use Rattle.he_files.specs.FileLaws.{AreBytes}
use Rattle.he_files.proofs.Forms.{IsForm, Found, StandsAt, step_ok, ok_is, stands_first, stands_second, found_inside, found_after}

-- nothing stands anywhere in the file
nothing_here : (bytes : List ℕ) (at : ℕ) → at ≤ length bytes → StandsAt bytes at [] (drop at bytes)
nothing_here bytes at inside = record { inside = inside; here = refl }

-- so many values that fit
pub record AreSeveral {A : Type 0} (Fits : A → Type 0) (n : ℕ) (xs : List A) : Type 0 where
  pub long : length xs ≡ n
  pub each : AllByRecursion Fits xs

module _ {A : Type 0} (form : Form A) (Fits : A → Type 0) (is : IsForm form Fits) where
  several_again : (n : ℕ) (bytes : List ℕ) (at : ℕ) (xs : List A) (rest : List ℕ) → length xs ≡ n → AllByRecursion Fits xs → StandsAt bytes at (flat_map form.spelled xs) rest
      → several_at form n bytes at ≡ Ok (xs, at + length (flat_map form.spelled xs))
  unfolding several_at
  several_again zero bytes at [] rest long fits s = ap (λ k. Ok ([], k)) (omega arith)
  several_again zero bytes at (x ∷ xs) rest long fits s = absurd (omega arith)
  several_again (suc n) bytes at [] rest long fits s = absurd (omega arith)
  several_again (suc n) bytes at (x ∷ xs) rest long fits s =
      let text = form.spelled x in
      let more = flat_map form.spelled xs in
      let first = is.again bytes at x (more ++ rest) fits.0 (stands_first bytes at text more rest s) in
      let second = several_again n bytes (at + length text) xs rest (omega (arith, long)) fits.1 (stands_second bytes at text more rest s) in
      rw (first, second) (ap (λ k. Ok (x ∷ xs, k)) (omega (arith, length-append text more)))

  several_found : (n : ℕ) (bytes : List ℕ) (at : ℕ) (y : List A × ℕ) → AreBytes bytes → at ≤ length bytes → several_at form n bytes at ≡ Ok y
      → Found (several n form) (AreSeveral Fits n) bytes at y
  unfolding several_at
  several_found zero bytes at y all inside e =
      subst (Found (several zero form) (AreSeveral Fits zero) bytes at) (ok_is ([], at) y e)
      (record { rest = drop at bytes; stands = nothing_here bytes at inside; end = omega arith; fits = record { long = refl; each = tt } })
  several_found (suc n) bytes at y all inside e =
      let a = step_ok (form.read bytes at) (λ x. several_at form n bytes x.1 >>= λ xs. Ok (x.0 ∷ xs.0, xs.1)) y e in
      let first = is.found bytes at a.0 all inside a.1 in
      let b = step_ok (several_at form n bytes a.0.1) (λ xs. Ok (a.0.0 ∷ xs.0, xs.1)) y a.2 in
      let second = several_found n bytes a.0.1 b.0 all (found_inside form Fits bytes at a.0 first) b.1 in
      subst (Found (several (suc n) form) (AreSeveral Fits (suc n)) bytes at) (ok_is (a.0.0 ∷ b.0.0, b.0.1) y b.2) (record {
        rest = second.rest;
        stands = found_after form Fits bytes at a.0 (flat_map form.spelled b.0.0) second.rest first second.stands;
        end = omega (arith, first.end, second.end, length-append (form.spelled a.0.0) (flat_map form.spelled b.0.0));
        fits = record { long = ap suc second.fits.long; each = (first.fits, second.fits.each) };
      })

  pub several_is : (n : ℕ) → IsForm (several n form) (AreSeveral Fits n)
  several_is n = record {
    again = λ bytes at xs rest fits s. several_again n bytes at xs rest fits.long fits.each s;
    found = several_found n;
  }

module _ {S A : Type 0} (form : S → Form A) (Fits : S → A → Type 0) (is : (s : S) → IsForm (form s) (Fits s)) where
  each_again : (xs : List S) (bytes : List ℕ) (at : ℕ) (vs : List A) (rest : List ℕ) → AllZip Fits xs vs → StandsAt bytes at (each_spelled form xs vs) rest
      → each_at form xs bytes at ≡ Ok (vs, at + length (each_spelled form xs vs))
  unfolding each_at each_spelled
  each_again [] bytes at [] rest fits s = ap (λ k. Ok ([], k)) (omega arith)
  each_again [] bytes at (v ∷ vs) rest fits s = absurd fits
  each_again (x ∷ xs) bytes at [] rest fits s = absurd fits
  each_again (x ∷ xs) bytes at (v ∷ vs) rest fits s =
      let text = (form x).spelled v in
      let more = each_spelled form xs vs in
      let first = (is x).again bytes at v (more ++ rest) fits.0 (stands_first bytes at text more rest s) in
      let second = each_again xs bytes (at + length text) vs rest fits.1 (stands_second bytes at text more rest s) in
      rw (first, second) (ap (λ k. Ok (v ∷ vs, k)) (omega (arith, length-append text more)))

  each_found : (xs : List S) (bytes : List ℕ) (at : ℕ) (y : List A × ℕ) → AreBytes bytes → at ≤ length bytes → each_at form xs bytes at ≡ Ok y
      → Found (each form xs) (AllZip Fits xs) bytes at y
  unfolding each_at each_spelled
  each_found [] bytes at y all inside e =
      subst (Found (each form []) (AllZip Fits []) bytes at) (ok_is ([], at) y e)
      (record { rest = drop at bytes; stands = nothing_here bytes at inside; end = omega arith; fits = tt })
  each_found (x ∷ xs) bytes at y all inside e =
      let a = step_ok ((form x).read bytes at) (λ v. each_at form xs bytes v.1 >>= λ vs. Ok (v.0 ∷ vs.0, vs.1)) y e in
      let first = (is x).found bytes at a.0 all inside a.1 in
      let b = step_ok (each_at form xs bytes a.0.1) (λ vs. Ok (a.0.0 ∷ vs.0, vs.1)) y a.2 in
      let second = each_found xs bytes a.0.1 b.0 all (found_inside (form x) (Fits x) bytes at a.0 first) b.1 in
      subst (Found (each form (x ∷ xs)) (AllZip Fits (x ∷ xs)) bytes at) (ok_is (a.0.0 ∷ b.0.0, b.0.1) y b.2) (record {
        rest = second.rest;
        stands = found_after (form x) (Fits x) bytes at a.0 (each_spelled form xs b.0.0) second.rest first second.stands;
        end = omega (arith, first.end, second.end, length-append ((form x).spelled a.0.0) (each_spelled form xs b.0.0));
        fits = (first.fits, second.fits);
      })

  pub each_is : (xs : List S) → IsForm (each form xs) (AllZip Fits xs)
  each_is xs = record { again = each_again xs; found = each_found xs }

-- values that are written as others: each goes there and back
pub record GoesBack {A B : Type 0} (back : B → A) (forth : A → B) (Fits : A → Type 0) (Seen : B → Type 0) : Type 0 where
  pub fits : (y : B) → Seen y → Fits (back y)
  pub same : (y : B) → Seen y → forth (back y) ≡ y
  pub seen : (x : A) → Fits x → Seen (forth x)
  pub again : (x : A) → Fits x → back (forth x) ≡ x

pub written_as_is : {A B : Type 0} (back : B → A) (forth : A → B) (form : Form A) (Fits : A → Type 0) (Seen : B → Type 0) → IsForm form Fits → GoesBack back forth Fits Seen
    → IsForm (written_as back forth form) Seen
written_as_is {A} back forth form Fits Seen is goes = record {
  again = λ bytes at y rest seen s. rw (is.again bytes at (back y) rest (goes.fits y seen) s, goes.same y seen) refl;
  found = λ bytes at y all inside e.
      let a = step_ok (form.read bytes at) (λ (x : A × ℕ). Ok (forth x.0, x.1)) y e in
      let f = is.found bytes at a.0 all inside a.1 in
      subst (Found (written_as back forth form) Seen bytes at) (ok_is (forth a.0.0, a.0.1) y a.2) (record {
        rest = f.rest;
        stands = rw (goes.again a.0.0 f.fits) f.stands;
        end = rw (goes.again a.0.0 f.fits) f.end;
        fits = goes.seen a.0.0 f.fits;
      });
}
