-- Lemmas on the test of two names, and on the bytes held under a name.
use Rattle.std.proofs.Common.{◌≡◌, ◌≢◌, ◌↔◌, ◌⊎◌, inl, inr, ℕ, zero, suc, ◌+◌, ◌<◌, ◌==◌, Bool, true, false, if◌then◌else◌, List, [], ◌∷◌, ◌++◌, length, get_or, drop, Contains, Decides, Option, Some, None, is_some, option_map, refl, sym, ap, ◌∙◌, arith, add-one, drop-cons}
use Rattle.std.specs.declared.vec.Vec.{Vec}
use Rattle.std.specs.declared.alloc.Global.{Global}
use Rattle.std.proofs.lemmas.Slice.Eq.{bytes_eq-Decides}
use Rattle.std.proofs.lemmas.Bool.Decides.{Decides-and, Decides-eqb}
use Rattle.std.proofs.lemmas.List.Quantifiers.{all_pairs_push}
use Rattle.std.proofs.lemmas.List.Kept.{AllPairs-cons}
use Rattle.std.proofs.lemmas.List.{map-append}
use Rattle.line_text.specs.declared.kinds.FileKind.{FileKind}
use Rattle.line_text.specs.declared.kinds.FileKind.TheVariants.{Table, Template, Secret, Public, Eval, Cipher, Slots, Prog, Seed, Script}
use Rattle.line_text.specs.declared.kinds.FileName.{FileName}
use Rattle.shelf_core.specs.Files.{File, kind_number, same_file, bytes_of, AreDistinct, file_of, files_of}

-- the kind at a place
abbrev kind_at : ℕ → FileKind
kind_at n =
    if n == 0 then Table
    else (if n == 1 then Template
    else (if n == 2 then Secret
    else (if n == 3 then Public
    else (if n == 4 then Eval
    else (if n == 5 then Cipher
    else (if n == 6 then Slots
    else (if n == 7 then Prog
    else (if n == 8 then Seed else Script))))))))

kind_at-number : (kind : FileKind) → kind_at (kind_number kind) ≡ kind
kind_at-number Table = refl
kind_at-number Template = refl
kind_at-number Secret = refl
kind_at-number Public = refl
kind_at-number Eval = refl
kind_at-number Cipher = refl
kind_at-number Slots = refl
kind_at-number Prog = refl
kind_at-number Seed = refl
kind_at-number Script = refl

from_parts : (a b : FileName) → a.name ≡ b.name → a.kind ≡ b.kind → a ≡ b
from_parts a b n k = λ i. record { name = n i; kind = k i }

is_false : (b : Bool) → (b ≢ true) → b ≡ false
is_false true f = absurd (f refl)
is_false false f = refl

-- the test says whether two names are equal
pub same_file-Decides : (a b : FileName) → Decides (same_file a b) (a ≡ b)
same_file-Decides a b =
    let parts = Decides-and _ _ (Decides-eqb (kind_number a.kind) (kind_number b.kind)) (bytes_eq-Decides a.name b.name) in (
      λ e. let p = parts.0 e in from_parts a b p.1 (sym (kind_at-number a.kind) ∙ ap kind_at p.0 ∙ kind_at-number b.kind),
      λ e. parts.1 (ap (λ (f : FileName). kind_number f.kind) e, ap (λ (f : FileName). f.name) e),
    )

abbrev Pair : Type 0
Pair = FileName × Vec ℕ Global

drop-at : (pairs : List Pair) (i : ℕ) (pair : Pair) → i < length pairs → pair ≡ get_or pairs i pair → drop i pairs ≡ pair ∷ drop (i + 1) pairs
drop-at pairs i pair h is =
    rw add-one (drop-cons pairs i pair h ∙ ap (λ (p : Pair). p ∷ drop (suc i) pairs) (sym is))

-- where the name stands at a place, its bytes are held from there on
pub bytes_of-here : (name : FileName) (pairs : List Pair) (i : ℕ) (pair : Pair) → i < length pairs → pair ≡ get_or pairs i pair → pair.0 ≡ name → bytes_of name (files_of (drop i pairs)) ≡ Some pair.1.items
bytes_of-here name pairs i pair h is same =
    let at = drop-at pairs i pair h is in
    let yes = (same_file-Decides pair.0 name).1 same in
    rw (at, yes)

-- where another name stands at a place, the same is held from the next place on
pub bytes_of-later : (name : FileName) (pairs : List Pair) (i : ℕ) (pair : Pair) → i < length pairs → pair ≡ get_or pairs i pair → pair.0 ≢ name → bytes_of name (files_of (drop i pairs)) ≡ bytes_of name (files_of (drop (i + 1) pairs))
bytes_of-later name pairs i pair h is other =
    let at = drop-at pairs i pair h is in
    let no = is_false (same_file pair.0 name) (λ e. other ((same_file-Decides pair.0 name).0 e)) in
    rw (at, no)

none_parts : (b : Bool) (bytes : List ℕ) (rest : Option (List ℕ)) → (if b then Some bytes else rest) ≡ None → (b ≡ false) × (rest ≡ None)
none_parts true bytes rest e = let no : ⊥ = cc in absurd no
none_parts false bytes rest e = (refl, e)

-- a name under which nothing is held is the name of no file
pub bytes_of-none : (name : FileName) (files : List File) → bytes_of name files ≡ None → (k : ℕ) (d : File) → k < length files → (get_or files k d).name ≢ name
bytes_of-none name [] e k d h = absurd (omega arith)
bytes_of-none name (file ∷ files) e zero d h =
    λ same.
    let no = (none_parts (same_file file.name name) file.bytes (bytes_of name files) e).0 in
    let yes = (same_file-Decides file.name name).1 same in
    cc
bytes_of-none name (file ∷ files) e (suc k) d h =
    bytes_of-none name files (none_parts (same_file file.name name) file.bytes (bytes_of name files) e).1 k d (omega arith)

-- files of distinct names stay so where one of a new name comes to their end
pub AreDistinct-push : (pairs : List Pair) (pair : Pair) (name : FileName) (files : List File) → files_of pairs ≡ files → pair.0 ≡ name → bytes_of name files ≡ None → AreDistinct (files_of pairs) → AreDistinct (files_of (pairs ++ pair ∷ []))
AreDistinct-push pairs pair name files held same e distinct =
    let none : bytes_of pair.0 (files_of pairs) ≡ None = rw (held, same) e in
    rw map-append
    (all_pairs_push (λ (a b : File). a.name ≢ b.name) (files_of pairs) (file_of pair) distinct (bytes_of-none pair.0 (files_of pairs) none))

chosen : (b c : Bool) (x y s r : Option (List ℕ)) → (b ≡ true → c ≡ false) → r ≡ (if c then y else s) → (if b then x else r) ≡ (if c then y else (if b then x else s))
chosen true c x y s r other e = rw (other refl)
chosen false c x y s r other e = e

-- a file of a new name at the end is held under its name, and all else is held as before
pub bytes_of-push : (files : List File) (file : File) → bytes_of file.name files ≡ None → (name : FileName) → bytes_of name (files ++ file ∷ []) ≡ (if same_file file.name name then Some file.bytes else bytes_of name files)
bytes_of-push [] file e name = refl
bytes_of-push (first ∷ files) file e name =
    let parts = none_parts (same_file first.name file.name) first.bytes (bytes_of file.name files) e in
    chosen (same_file first.name name) (same_file file.name name) (Some first.bytes) (Some file.bytes) (bytes_of name files) (bytes_of name (files ++ file ∷ []))
    (λ yes. is_false (same_file file.name name) (λ too.
    let same = (same_file-Decides first.name name).0 yes in
    let again = (same_file-Decides file.name name).0 too in
    let no = parts.0 in
    let here = (same_file-Decides first.name file.name).1 (same ∙ sym again) in
    cc))
    (bytes_of-push files file parts.1 name)

AreDistinct-tail : (file : File) (files : List File) → AreDistinct (file ∷ files) → AreDistinct files
AreDistinct-tail file files distinct = λ i j d h k. distinct (suc i) (suc j) d (omega arith) (omega arith)

found_parts : (b : Bool) (x bytes : List ℕ) (rest : Option (List ℕ)) → (if b then Some x else rest) ≡ Some bytes → ((b ≡ true) × (x ≡ bytes)) ⊎ (rest ≡ Some bytes)
found_parts true x bytes rest e = inl (refl, cc)
found_parts false x bytes rest e = inr e

-- what is held is in the list
pub Contains-found : (name : FileName) (bytes : List ℕ) (files : List File) → bytes_of name files ≡ Some bytes → Contains files (record { name = name; bytes = bytes })
Contains-found name bytes [] e = let no : ⊥ = cc in absurd no
Contains-found name bytes (file ∷ files) e =
    elim (found_parts (same_file file.name name) file.bytes bytes (bytes_of name files) e) [
      | inl h ↦ (0, omega arith, λ i. record { name = (same_file-Decides file.name name).0 h.0 i; bytes = h.1 i })
      | inr h ↦ let later = Contains-found name bytes files h in (suc later.0, omega arith, later.2)
    ]

-- what is in a list of files of distinct names is held
pub found-Contains : (name : FileName) (bytes : List ℕ) (files : List File) → AreDistinct files → (k : ℕ) → k < length files → get_or files k (record { name = name; bytes = bytes }) ≡ record { name = name; bytes = bytes } → bytes_of name files ≡ Some bytes
found-Contains name bytes [] distinct k h e = absurd (omega arith)
found-Contains name bytes (file ∷ files) distinct zero h e =
    let yes = (same_file-Decides file.name name).1 (ap (λ (f : File). f.name) e) in
    rw yes (ap (λ (f : File). Some f.bytes) e)
found-Contains name bytes (file ∷ files) distinct (suc k) h e =
    let apart = distinct 0 (suc k) (record { name = name; bytes = bytes }) (omega arith) h in
    let no = is_false (same_file file.name name) (λ yes. apart ((same_file-Decides file.name name).0 yes ∙ sym (ap (λ (f : File). f.name) e))) in
    rw no (found-Contains name bytes files (AreDistinct-tail file files distinct) k (omega arith) e)

is_none : (o : Option (List ℕ)) → ((bytes : List ℕ) → o ≡ Some bytes → ⊥) → o ≡ None
is_none None h = refl
is_none (Some bytes) h = absurd (h bytes refl)

-- a file and the files after it are distinct exactly where those are, and hold nothing under its name
AreDistinct-cons : (file : File) (files : List File) → AreDistinct (file ∷ files) ↔ ((bytes_of file.name files ≡ None) × AreDistinct files)
AreDistinct-cons file files = (
  λ distinct. (
    is_none (bytes_of file.name files) (λ bytes e.
        let found = Contains-found file.name bytes files e in
        distinct 0 (suc found.0) (record { name = file.name; bytes = bytes }) (omega arith) (omega arith) (sym (ap (λ (f : File). f.name) found.2))),
    AreDistinct-tail file files distinct,
  ),
  λ h. AllPairs-cons (λ (a b : File). a.name ≢ b.name) file files (λ k d m same. bytes_of-none file.name files h.0 k d m (sym same)) h.1,
)

-- the same at a place of a list in memory
pub AreDistinct-at : (pairs : List Pair) (i : ℕ) (pair : Pair) → i < length pairs → pair ≡ get_or pairs i pair → AreDistinct (files_of (drop i pairs)) ↔ ((bytes_of pair.0 (files_of (drop (i + 1) pairs)) ≡ None) × AreDistinct (files_of (drop (i + 1) pairs)))
AreDistinct-at pairs i pair h is =
    let at = drop-at pairs i pair h is in
    rw at (AreDistinct-cons (file_of pair) (files_of (drop (i + 1) pairs)))

-- a look-up found nothing exactly where there is nothing to be seen
pub none_found : {X : Type 0} (view : X → List ℕ) (found : Option X) → is_some found ≡ false → option_map view found ≡ None
none_found view None e = refl
none_found view (Some x) e = let no : ⊥ = cc in absurd no

pub some_found : {X : Type 0} (view : X → List ℕ) (found : Option X) → option_map view found ≡ None → is_some found ≡ false
some_found view None e = refl
some_found view (Some x) e = let no : ⊥ = cc in absurd no
