-- What stands behind an `Ok` of a chain of readings.
use Rattle.std.proofs.Common.{◌≡◌, zero, suc, Bool, true, false, List, [], ◌∷◌, length, get_or, Option, Some, None, Result, Ok, Err, option_map, option_and_then, refl, sym, ap, ◌∙◌, arith}
use Rattle.std.specs.List.{All, list_all}
use Rattle.std.proofs.lemmas.List.Sums.{AllPass-from_list_all}
use Rattle.line_text.specs.declared.kinds.TableKey.{TableKey}
use Rattle.table_keys.specs.declared.faults.DocumentFault.{DocumentFault}
use Rattle.table_keys.specs.Values.{◌>>=◌, shaped, passed, each_of}

pub bind_ok : {A B : Type 0} (r : Result A DocumentFault) (f : A → Result B DocumentFault) (y : B) → (r >>= f) ≡ Ok y
    → (x : A) × (r ≡ Ok x) × (f x ≡ Ok y)
bind_ok (Ok x) f y is = (x, refl, is)
bind_ok (Err fault) f y is = absurd (cc)

passed_by : {A : Type 0} (key : TableKey) (b : Bool) (x y : A) → passed key b x ≡ Ok y → (b ≡ true) × (x ≡ y)
passed_by key true x y is = (refl, cc)
passed_by key false x y is = absurd (cc)

pub passed_ok : {A : Type 0} (key : TableKey) (test : A → Bool) (x y : A) → passed key (test x) x ≡ Ok y → (test y ≡ true) × (x ≡ y)
passed_ok key test x y is =
    let by = passed_by key (test x) x y is in
    (ap test (sym by.1) ∙ by.0, by.1)

-- what is read and then tested
pub kept_ok : {A : Type 0} (r : Result A DocumentFault) (key : TableKey) (test : A → Bool) (y : A) → (r >>= λ x. passed key (test x) x) ≡ Ok y
    → (r ≡ Ok y) × (test y ≡ true)
kept_ok (Ok x) key test y is =
    let by = passed_ok key test x y is in
    (ap Ok by.1, by.0)
kept_ok (Err fault) key test y is = absurd (cc)

pub shaped_ok : {A : Type 0} (key : TableKey) (o : Option A) (x : A) → shaped key o ≡ Ok x → o ≡ Some x
shaped_ok key None x is = absurd (cc)
shaped_ok key (Some y) x is = cc

pub map_some : {A B : Type 0} (f : A → B) (o : Option A) (y : B) → option_map f o ≡ Some y → (x : A) × (o ≡ Some x) × (f x ≡ y)
map_some f None y is = absurd (cc)
map_some f (Some x) y is = (x, refl, cc)

pub and_then_some : {A B : Type 0} (f : A → Option B) (o : Option A) (y : B) → option_and_then f o ≡ Some y → (x : A) × (o ≡ Some x) × (f x ≡ Some y)
and_then_some f None y is = absurd (cc)
and_then_some f (Some x) y is = (x, refl, is)

-- as many are read as there are
pub length-each_of : {A B : Type 0} (form : A → Option B) (xs : List A) (ys : List B) → each_of form xs ≡ Some ys → length ys ≡ length xs
length-each_of form [] ys is = let e : ys ≡ [] = cc in rw e refl
length-each_of form (x ∷ xs) ys is =
    let first = and_then_some _ (form x) ys is in
    let rest = map_some _ (each_of form xs) ys first.2 in
    rw (← rest.2) (ap (λ n. suc n) (length-each_of form xs rest.0 rest.1))

abbrev at_cons : {B : Type 0} (P : B → Type 0) (y : B) (ys : List B) → P y → All P ys → All P (y ∷ ys)
at_cons P y ys here more zero d within = here
at_cons P y ys here more (suc k) d within = more k d (omega arith)

-- what is read, formed element by element and then tested
pub formed_ok : {A B : Type 0} (r : Result (List A) DocumentFault) (key : TableKey) (form : A → Option B) (test : List B → Bool) (ys : List B)
    → (r >>= λ xs. shaped key (each_of form xs) >>= λ zs. passed key (test zs) zs) ≡ Ok ys
    → (xs : List A) × (r ≡ Ok xs) × (each_of form xs ≡ Some ys) × (test ys ≡ true)
formed_ok (Ok xs) key form test ys is =
    let kept = kept_ok (shaped key (each_of form xs)) key test ys is in
    (xs, refl, shaped_ok key (each_of form xs) ys kept.0, kept.1)
formed_ok (Err fault) key form test ys is = absurd (cc)

-- what holds of each that is read
pub All-each_of : {A B : Type 0} (P : B → Type 0) (form : A → Option B) → ((x : A) (y : B) → form x ≡ Some y → P y)
    → (xs : List A) (ys : List B) → each_of form xs ≡ Some ys → All P ys
All-each_of P form each [] ys is = let e : ys ≡ [] = cc in rw e (λ k d within. absurd (omega arith))
All-each_of P form each (x ∷ xs) ys is =
    let first = and_then_some _ (form x) ys is in
    let rest = map_some _ (each_of form xs) ys first.2 in
    rw (← rest.2) (at_cons P first.0 rest.0 (each x first.0 first.1) (All-each_of P form each xs rest.0 rest.1))

-- the same, from what holds of each before
pub All-each_of_from : {A B : Type 0} (Q : A → Type 0) (P : B → Type 0) (form : A → Option B) → ((x : A) (y : B) → Q x → form x ≡ Some y → P y)
    → (xs : List A) (ys : List B) → All Q xs → each_of form xs ≡ Some ys → All P ys
All-each_of_from Q P form each [] ys all is = let e : ys ≡ [] = cc in rw e (λ k d within. absurd (omega arith))
All-each_of_from Q P form each (x ∷ xs) ys all is =
    let first = and_then_some _ (form x) ys is in
    let rest = map_some _ (each_of form xs) ys first.2 in
    rw (← rest.2) (at_cons P first.0 rest.0 (each x first.0 (all 0 x (omega arith)) first.1)
    (All-each_of_from Q P form each xs rest.0 (λ k d within. all (suc k) d (omega arith)) rest.1))

-- what a test says of each
pub All-tested : {A : Type 0} (P : A → Type 0) (test : A → Bool) → ((x : A) → test x ≡ true → P x) → (xs : List A) → list_all test xs ≡ true → All P xs
All-tested P test each xs all k d within = each (get_or xs k d) (AllPass-from_list_all test xs all k d within)
