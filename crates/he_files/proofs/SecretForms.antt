-- Secrets that are read were spelled so, and spelled secrets are read again.
use Rattle.std.proofs.Common.{◌≡◌, ℕ, zero, suc, ◌+◌, ◌-◌, ◌≤◌, Bool, true, false, not, cond, eqb, leb, ◌&&◌, List, [], ◌∷◌, ◌++◌, ◌⊎◌, length, get_or, map, drop, Option, Some, None, Ok, ℤ, pos, negsuc, refl, sym, ap, subst, ◌∙◌, inl, inr, arith}
use Rattle.std.specs.Prelude.{option_and_then, unsigned_abs, count_by}
use Rattle.std.specs.List.{AllByRecursion}
use Rattle.std.proofs.lemmas.Bool.{cond_both, and_parts, and_from, leb-true, le-leb, eqb-true}
use Rattle.std.proofs.lemmas.List.Recursion.{is_count_by}
use Rattle.std.proofs.lemmas.List.Elements.{All-from_recursion, recursion_from_All}
use Rattle.draw_stream.specs.Sparse.{IsSparse}
use Rattle.he_files.specs.Form.{◌>>=◌}
use Rattle.he_files.specs.Secret.{entry_byte, entry_of, taken, allowed_entry, entry, entries_at, entries}
use Rattle.he_files.specs.FileLaws.{AreBytes}
use Rattle.he_files.proofs.Forms.{IsForm, Found, StandsAt, field_is, step_ok, ok_is, let_through, stands_first, stands_second, found_inside, found_after}

-- an entry that leaves so much of the weight to so many entries
pub record IsEntry (weight left : ℕ) (x : ℤ) : Type 0 where
  pub small : unsigned_abs x ≤ 1
  pub light : taken x ≤ weight
  pub enough : weight - taken x ≤ left

-- the entry of its own byte
entry_again : (x : ℤ) → unsigned_abs x ≤ 1 → entry_of (entry_byte x) ≡ Some x
entry_again (pos zero) small = refl
entry_again (pos (suc zero)) small = refl
entry_again (pos (suc (suc n))) small = absurd (omega arith)
entry_again (negsuc zero) small = refl
entry_again (negsuc (suc n)) small = absurd (omega arith)

either : {A : Type 0} (b : Bool) (x y z : A) → cond b x y ≡ z → ((b ≡ true) × (x ≡ z)) ⊎ ((b ≡ false) × (y ≡ z))
either true x y z e = inl (refl, e)
either false x y z e = inr (refl, e)

some_is : {A : Type 0} (x y : A) → ◌≡◌ {A = Option A} (Some x) (Some y) → x ≡ y
some_is x y e = cc

-- the byte of an entry
entry_found : (b : ℕ) (x : ℤ) → entry_of b ≡ Some x → (unsigned_abs x ≤ 1) × (entry_byte x ≡ b)
entry_found b x e =
    let P : ℤ → Type 0 = λ z. (unsigned_abs z ≤ 1) × (entry_byte z ≡ b) in
    elim (either (eqb b 0) (Some (pos 0)) _ (Some x) e) [
      | inl none ↦ subst P (some_is (pos 0) x none.1) (omega arith, sym (eqb-true b 0 none.0))
      | inr more ↦ elim (either (eqb b 1) (Some (pos 1)) _ (Some x) more.1) [
        | inl one ↦ subst P (some_is (pos 1) x one.1) (omega arith, sym (eqb-true b 1 one.0))
        | inr last ↦
            let g = let_through (eqb b 255) (negsuc 0) x last.1 in
            subst P g.1 (omega arith, sym (eqb-true b 255 g.0))
      ]
    ]

one_byte : (front : List ℕ) → length front ≡ 1 → front ≡ get_or front 0 0 ∷ []
one_byte [] e = absurd (omega arith)
one_byte (b ∷ []) e = refl
one_byte (b ∷ c ∷ bs) e = absurd (omega arith)

then_found : {A B : Type 0} (f : A → Option B) (o : Option A) (y : B) → option_and_then f o ≡ Some y → (x : A) × (o ≡ Some x) × (f x ≡ Some y)
then_found f (Some x) y e = (x, refl, e)
then_found f None y e = absurd cc

pub entry_is : (weight left : ℕ) → IsForm (entry weight left) (IsEntry weight left)
unfolding allowed_entry
entry_is weight left =
    let fine : ℤ → Bool = λ x. leb (taken x) weight && leb (weight - taken x) left in
    field_is 1 (λ x. entry_byte x ∷ []) (allowed_entry weight left) (IsEntry weight left) (record {
      long = λ _ _. refl;
      again = λ x fits. rw (entry_again x fits.small) (ap (λ b. cond b (Some x) None) (and_from (leb (taken x) weight) (leb (weight - taken x) left) (le-leb _ _ fits.light) (le-leb _ _ fits.enough)));
      found = λ front x all long e.
          let t = then_found (λ x. cond (fine x) (Some x) None) (entry_of (get_or front 0 0)) x e in
          let g = let_through (fine t.0) t.0 x t.2 in
          let own = entry_found (get_or front 0 0) t.0 t.1 in
          let parts = and_parts (leb (taken t.0) weight) (leb (weight - taken t.0) left) g.0 in
          let fits : IsEntry weight left t.0 = record { small = own.0; light = leb-true _ _ parts.0; enough = leb-true _ _ parts.1 } in
          (subst (IsEntry weight left) g.1 fits, ap (λ z. entry_byte z ∷ []) (sym g.1) ∙ ap (λ b. b ∷ []) own.1 ∙ sym (one_byte front long));
    })

-- ---- lists of entries

-- what entries take of the weight together
abbrev total : List ℤ → ℕ
total [] = 0
total (x ∷ xs) = taken x + total xs

one_more : (b : Bool) (n : ℕ) → cond b 0 1 + n ≡ cond (not b) (1 + n) n
one_more true n = omega arith
one_more false n = refl

total_is : (xs : List ℤ) → total xs ≡ count_by (λ x. not (eqb (unsigned_abs x) 0)) xs
total_is xs = is_count_by total (λ x. not (eqb (unsigned_abs x) 0)) refl (λ x xs. one_more (eqb (unsigned_abs x) 0) (total xs)) xs

-- so many entries, which take this weight
pub record AreEntries (n weight : ℕ) (xs : List ℤ) : Type 0 where
  pub long : length xs ≡ n
  pub takes : total xs ≡ weight
  pub small : AllByRecursion (λ x. unsigned_abs x ≤ 1) xs

total_le : (xs : List ℤ) → total xs ≤ length xs
total_le [] = omega arith
total_le (x ∷ xs) = cond_both (eqb (unsigned_abs x) 0) 0 1 (λ k. k + total xs ≤ suc (length xs)) (λ _. omega (arith, total_le xs)) (λ _. omega (arith, total_le xs))

entries_again : (n weight : ℕ) (bytes : List ℕ) (at : ℕ) (xs : List ℤ) (rest : List ℕ) → length xs ≡ n → total xs ≡ weight → AllByRecursion (λ x. unsigned_abs x ≤ 1) xs
    → StandsAt bytes at (map entry_byte xs) rest → entries_at n weight bytes at ≡ Ok (xs, at + length (map entry_byte xs))
unfolding entries_at
entries_again zero weight bytes at [] rest long takes small s = ap (λ k. Ok ([], k)) (omega arith)
entries_again zero weight bytes at (x ∷ xs) rest long takes small s = absurd (omega arith)
entries_again (suc n) weight bytes at [] rest long takes small s = absurd (omega arith)
entries_again (suc n) weight bytes at (x ∷ xs) rest long takes small s =
    let more = map entry_byte xs in
    let text = entry_byte x ∷ [] in
    let left : weight - taken x ≡ total xs = omega (arith, takes) in
    let fits : IsEntry weight n x = record { small = small.0; light = omega (arith, takes); enough = omega (arith, takes, long, total_le xs) } in
    let first = (entry_is weight n).again bytes at x (more ++ rest) fits (stands_first bytes at text more rest s) in
    let second = entries_again n (weight - taken x) bytes (at + 1) xs rest (omega (arith, long)) (sym left) small.1 (stands_second bytes at text more rest s) in
    rw (first, second) (ap (λ k. Ok (x ∷ xs, k)) (omega arith))

entries_found : (n weight : ℕ) (bytes : List ℕ) (at : ℕ) (y : List ℤ × ℕ) → weight ≤ n → AreBytes bytes → at ≤ length bytes → entries_at n weight bytes at ≡ Ok y
    → Found (entries n weight) (AreEntries n weight) bytes at y
unfolding entries_at
entries_found zero weight bytes at y le all inside e =
    subst (Found (entries zero weight) (AreEntries zero weight) bytes at) (ok_is ([], at) y e)
    (record { rest = drop at bytes; stands = record { inside = inside; here = refl }; end = omega arith; fits = record { long = refl; takes = omega arith; small = tt } })
entries_found (suc n) weight bytes at y le all inside e =
    let form = entry weight n in
    let a = step_ok (form.read bytes at) (λ x. entries_at n (weight - taken x.0) bytes x.1 >>= λ xs. Ok (x.0 ∷ xs.0, xs.1)) y e in
    let first = (entry_is weight n).found bytes at a.0 all inside a.1 in
    let x = a.0.0 in
    let b = step_ok (entries_at n (weight - taken x) bytes a.0.1) (λ xs. Ok (x ∷ xs.0, xs.1)) y a.2 in
    let second = entries_found n (weight - taken x) bytes a.0.1 b.0 first.fits.enough all (found_inside form (IsEntry weight n) bytes at a.0 first) b.1 in
    subst (Found (entries (suc n) weight) (AreEntries (suc n) weight) bytes at) (ok_is (x ∷ b.0.0, b.0.1) y b.2) (record {
      rest = second.rest;
      stands = found_after form (IsEntry weight n) bytes at a.0 (map entry_byte b.0.0) second.rest first second.stands;
      end = omega (arith, first.end, second.end);
      fits = record {
        long = ap suc second.fits.long;
        takes = omega (arith, first.fits.light, second.fits.takes);
        small = (first.fits.small, second.fits.small);
      };
    })

pub entries_is : (n weight : ℕ) → weight ≤ n → IsForm (entries n weight) (AreEntries n weight)
entries_is n weight le = record {
  again = λ bytes at xs rest fits s. entries_again n weight bytes at xs rest fits.long fits.takes fits.small s;
  found = λ bytes at y. entries_found n weight bytes at y le;
}

-- entries and secrets
pub entries_of_sparse : (n weight : ℕ) (xs : List ℤ) → IsSparse n weight xs → AreEntries n weight xs
entries_of_sparse n weight xs s = record { long = s.len; takes = total_is xs ∙ s.chosen; small = recursion_from_All (λ x. unsigned_abs x ≤ 1) xs s.small }

pub sparse_of_entries : (n weight : ℕ) (xs : List ℤ) → AreEntries n weight xs → IsSparse n weight xs
sparse_of_entries n weight xs s = record { len = s.long; chosen = sym (total_is xs) ∙ s.takes; small = All-from_recursion (λ x. unsigned_abs x ≤ 1) xs s.small }
