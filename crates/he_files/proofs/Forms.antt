-- Forms that spell and read one another: what was spelled is read again, and what is read was spelled so.
use Rattle.std.proofs.Common.{◌≡◌, ℕ, ◌+◌, ◌<◌, ◌≤◌, Bool, true, false, cond, ltb, List, [], ◌++◌, length, get_or, take, drop, Option, Some, None, Result, Ok, Err, refl, sym, ap, subst, ◌∙◌, append_assoc, arith}
use Rattle.std.proofs.lemmas.Bool.{ltb-false, le-ltb}
use Rattle.std.proofs.lemmas.List.{take_at, drop_at, drop-drop, take-append-drop, length-append, length-take, length-drop, append-nil}
use Rattle.std.proofs.lemmas.List.Elements.{All-drop, All-take, All-from_get_or}
use Rattle.he_files.specs.Form.{◌>>=◌, Form, bytes_at, or_at, field_at, field}
use Rattle.he_files.specs.FileLaws.{AreBytes}

-- ---- results

-- the value of a step that did not fail
pub step_ok : {A B : Type 0} (r : Result A ℕ) (f : A → Result B ℕ) (y : B) → (r >>= f) ≡ Ok y → (x : A) × (r ≡ Ok x) × (f x ≡ Ok y)
step_ok (Ok x) f y e = (x, refl, e)
step_ok (Err place) f y e = absurd cc

-- the value that is the answer
pub ok_is : {A : Type 0} (x y : A) → ◌≡◌ {A = Result A ℕ} (Ok x) (Ok y) → x ≡ y
ok_is x y e = cc

some_is : {A : Type 0} (x y : A) → ◌≡◌ {A = Option A} (Some x) (Some y) → x ≡ y
some_is x y e = cc

-- a test that did not fail
pub passed : {A : Type 0} (b : Bool) (place : ℕ) (x y : A) → cond b (Ok x) (Err place) ≡ Ok y → (b ≡ true) × (x ≡ y)
passed true place x y e = (refl, cc)
passed false place x y e = absurd cc

not_cut : {A : Type 0} (b : Bool) (place : ℕ) (x y : A) → cond b (Err place) (Ok x) ≡ Ok y → (b ≡ false) × (x ≡ y)
not_cut true place x y e = absurd cc
not_cut false place x y e = (refl, cc)

-- what a test lets through
pub let_through : {A : Type 0} (b : Bool) (x y : A) → cond b (Some x) None ≡ Some y → (b ≡ true) × (x ≡ y)
let_through true x y e = (refl, cc)
let_through false x y e = absurd cc

-- an allowed value
allowed : {A : Type 0} (at : ℕ) (o : Option A) (x : A) → or_at at o ≡ Ok x → o ≡ Some x
allowed at (Some x) y e = ap (λ z. Some z) (ok_is x y e)
allowed at None y e = absurd cc

-- bytes, from what is known at each place
pub bytes_are : (bytes : List ℕ) → ((i : ℕ) → get_or bytes i 0 < 256) → AreBytes bytes
bytes_are bytes fits = All-from_get_or (λ b. b < 256) bytes 0 (λ i _. fits i)

-- ---- places in a file

-- at this offset of a file stands this text, and then the rest
pub record StandsAt (bytes : List ℕ) (at : ℕ) (text rest : List ℕ) : Type 0 where
  pub inside : at ≤ length bytes
  pub here : drop at bytes ≡ text ++ rest

pub length_here : (bytes : List ℕ) (at : ℕ) (text rest : List ℕ) → StandsAt bytes at text rest → at + length text + length rest ≡ length bytes
length_here bytes at text rest s = omega (arith, s.inside, length-drop at bytes, ap length s.here, length-append text rest)

pub stands_first : (bytes : List ℕ) (at : ℕ) (a b rest : List ℕ) → StandsAt bytes at (a ++ b) rest → StandsAt bytes at a (b ++ rest)
stands_first bytes at a b rest s = record { inside = s.inside; here = s.here ∙ append_assoc a b rest }

pub stands_second : (bytes : List ℕ) (at : ℕ) (a b rest : List ℕ) → StandsAt bytes at (a ++ b) rest → StandsAt bytes (at + length a) b rest
stands_second bytes at a b rest s = record {
  inside = omega (arith, length_here bytes at (a ++ b) rest s, length-append a b);
  here = sym (drop-drop (length a) at bytes) ∙ ap (drop (length a)) (s.here ∙ append_assoc a b rest) ∙ drop_at a (b ++ rest) (length a) refl;
}

pub stands_both : (bytes : List ℕ) (at : ℕ) (a b more rest : List ℕ) → StandsAt bytes at a more → StandsAt bytes (at + length a) b rest → StandsAt bytes at (a ++ b) rest
stands_both bytes at a b more rest s t =
    let after : more ≡ b ++ rest = sym (drop_at a more (length a) refl) ∙ ap (drop (length a)) (sym s.here) ∙ drop-drop (length a) at bytes ∙ t.here in
    record { inside = s.inside; here = s.here ∙ ap (λ (x : List ℕ). a ++ x) after ∙ sym (append_assoc a b rest) }

-- what stands at an offset from which a text begins, and nothing before
pub stands_from : (before text rest : List ℕ) (at : ℕ) → length before ≡ at → StandsAt (before ++ (text ++ rest)) at text rest
stands_from before text rest at long = record { inside = omega (arith, long, length-append before (text ++ rest)); here = drop_at before (text ++ rest) at long }

-- a whole file, from what stands at its begin
pub stands_whole : (bytes text : List ℕ) → StandsAt bytes 0 text [] → bytes ≡ text
stands_whole bytes text s = s.here ∙ append-nil text

-- ---- forms

module _ {A : Type 0} (form : Form A) (Fits : A → Type 0) where
  -- what was read at an offset stands there, spelled
  pub record Found (bytes : List ℕ) (at : ℕ) (y : A × ℕ) : Type 0 where
    pub rest : List ℕ
    pub stands : StandsAt bytes at (form.spelled y.0) rest
    pub end : y.1 ≡ at + length (form.spelled y.0)
    pub fits : Fits y.0

  pub record IsForm : Type 0 where
    pub again : (bytes : List ℕ) (at : ℕ) (x : A) (rest : List ℕ) → Fits x → StandsAt bytes at (form.spelled x) rest → form.read bytes at ≡ Ok (x, at + length (form.spelled x))
    pub found : (bytes : List ℕ) (at : ℕ) (y : A × ℕ) → AreBytes bytes → at ≤ length bytes → form.read bytes at ≡ Ok y → Found bytes at y

  -- where the reading goes on
  pub found_inside : (bytes : List ℕ) (at : ℕ) (y : A × ℕ) → Found bytes at y → y.1 ≤ length bytes
  found_inside bytes at y f = omega (arith, f.end, length_here bytes at (form.spelled y.0) f.rest f.stands)

  -- what a value stands for that is behind it
  pub found_after : (bytes : List ℕ) (at : ℕ) (y : A × ℕ) (text rest : List ℕ) → Found bytes at y → StandsAt bytes y.1 text rest → StandsAt bytes at (form.spelled y.0 ++ text) rest
  found_after bytes at y text rest f s = stands_both bytes at (form.spelled y.0) text f.rest rest f.stands (subst (λ k. StandsAt bytes k text rest) f.end s)

-- ---- fields

-- what makes a field a form
pub record IsField {A : Type 0} (width : ℕ) (spelled : A → List ℕ) (value : List ℕ → Option A) (Fits : A → Type 0) : Type 0 where
  pub long : (x : A) → Fits x → length (spelled x) ≡ width
  pub again : (x : A) → Fits x → value (spelled x) ≡ Some x
  pub found : (front : List ℕ) (x : A) → AreBytes front → length front ≡ width → value front ≡ Some x → Fits x × (spelled x ≡ front)

bytes_again : (width : ℕ) (bytes : List ℕ) (at : ℕ) (text rest : List ℕ) → length text ≡ width → StandsAt bytes at text rest → bytes_at width bytes at ≡ Ok text
unfolding bytes_at
bytes_again width bytes at text rest long s =
    let inside : ltb (length bytes) (at + width) ≡ false = le-ltb _ _ (omega (arith, length_here bytes at text rest s, long)) in
    rw (inside, s.here, take_at text rest width long) refl

bytes_found : (width : ℕ) (bytes : List ℕ) (at : ℕ) (text : List ℕ) → at ≤ length bytes → bytes_at width bytes at ≡ Ok text → (length text ≡ width) × (text ≡ take width (drop at bytes)) × StandsAt bytes at text (drop width (drop at bytes))
unfolding bytes_at
bytes_found width bytes at text inside e =
    let g = not_cut (ltb (length bytes) (at + width)) at (take width (drop at bytes)) text e in
    let long : at + width ≤ length bytes = ltb-false _ _ g.0 in (
      rw (← g.1) (omega (arith, length-take width (drop at bytes), length-drop at bytes)),
      sym g.1,
      record { inside = inside; here = rw (← g.1) (sym (take-append-drop width (drop at bytes))) },
    )

pub field_is : {A : Type 0} (width : ℕ) (spelled : A → List ℕ) (value : List ℕ → Option A) (Fits : A → Type 0) → IsField width spelled value Fits → IsForm (field width spelled value) Fits
unfolding field_at
field_is width spelled value Fits f = record {
  again = λ bytes at x rest fits s.
      let long = f.long x fits in
      rw (bytes_again width bytes at (spelled x) rest long s, f.again x fits, long) refl;
  found = λ bytes at y all inside e.
      let a = step_ok (bytes_at width bytes at) (λ front. or_at at (value front) >>= λ x. Ok (x, at + width)) y e in
      let b = step_ok (or_at at (value a.0)) (λ x. Ok (x, at + width)) y a.2 in
      let is = ok_is (b.0, at + width) y b.2 in
      let t = bytes_found width bytes at a.0 inside a.1 in
      let fine : AreBytes a.0 = subst AreBytes (sym t.1) (All-take (λ b. b < 256) width (drop at bytes) (All-drop (λ b. b < 256) at bytes all)) in
      let found = f.found a.0 b.0 fine t.0 (allowed at (value a.0) b.0 b.1) in
      subst (Found (field width spelled value) Fits bytes at) is (record {
        rest = drop width (drop at bytes);
        stands = rw found.1 t.2;
        end = rw (found.1, t.0) refl;
        fits = found.0;
      });
}
