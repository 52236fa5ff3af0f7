-- What a shelf holds after a file of a new name was added.
use Rattle.std.proofs.Common.{◌≡◌, ◌≢◌, ℕ, Bool, true, false, cond, List, [], ◌∷◌, ◌++◌, Option, Some, None, MatchOption, refl, ◌∙◌, ap, subst}
use Rattle.std.specs.Prelude.{bytes_eq}
use Rattle.std.proofs.lemmas.Slice.Eq.{bytes_eq-Decides}
use Rattle.line_text.specs.declared.kinds.FileKind.{FileKind}
use Rattle.line_text.specs.declared.kinds.FileName.{FileName}
use Rattle.shelf_core.specs.Files.{File, bytes_of, same_file}
use Rattle.cli_machine.specs.Machine.{file_of}
use Rattle.plain_machine.specs.Lower.{LowerLaws}
use Rattle.plain_machine.specs.PlainState.{with_name}

-- what is held goes on being held
pub held_grows : (name : FileName) (files more : List File) (bytes : List ℕ) → bytes_of name files ≡ Some bytes → bytes_of name (files ++ more) ≡ Some bytes
held_grows name [] more bytes is = absurd (cc)
held_grows name (file ∷ files) more bytes is = go (same_file file.name name) (held_grows name files more bytes) is
  where
    go : (b : Bool) → (bytes_of name files ≡ Some bytes → bytes_of name (files ++ more) ≡ Some bytes) → cond b (Some file.bytes) (bytes_of name files) ≡ Some bytes → cond b (Some file.bytes) (bytes_of name (files ++ more)) ≡ Some bytes
    go true rest is = is
    go false rest is = rest is

-- the added file is held
pub new_held : LowerLaws → (file : File) (files : List File) → bytes_of file.name files ≡ None → bytes_of file.name (files ++ file ∷ []) ≡ Some file.bytes
new_held laws file files free =
    laws.adds_file files file free file.name ∙ ap (λ b. cond b (Some file.bytes) (bytes_of file.name files)) ((laws.same_file file.name file.name).1 refl)

-- under another name nothing new is held
pub absent_grows : LowerLaws → (file : File) (name : FileName) (files : List File) → bytes_of file.name files ≡ None → file.name ≢ name → bytes_of name files ≡ None → bytes_of name (files ++ file ∷ []) ≡ None
absent_grows laws file name files free other absent = laws.adds_file files file free name ∙ go (same_file file.name name) (laws.same_file file.name name).0
  where
    go : (b : Bool) → (b ≡ true → file.name ≡ name) → cond b (Some file.bytes) (bytes_of name files) ≡ None
    go true same = absurd (other (same refl))
    go false same = absent

-- what is held under the names of one kind
abbrev pub At : {A : Type 0} → FileKind → (List ℕ → A → List File → Type 0) → List ℕ → List File → Option A → Type 0
At kind P name files value = MatchOption value (bytes_of (file_of kind name) files ≡ None) (λ x. P name x files)

abbrev pub Names : {A : Type 0} → FileKind → (List ℕ → A → List File → Type 0) → (List ℕ → Option A) → List File → Type 0
Names kind P held files = (name : List ℕ) → At kind P name files (held name)

-- where what is held lasts when files are added
module _ (laws : LowerLaws) {A : Type 0} (kind : FileKind) (P : List ℕ → A → List File → Type 0) (grows : (name : List ℕ) (x : A) (files more : List File) → P name x files → P name x (files ++ more)) where
  at_grows : (file : File) (files : List File) (name : List ℕ) (value : Option A) → bytes_of file.name files ≡ None → file.name ≢ file_of kind name → At kind P name files value → At kind P name (files ++ file ∷ []) value
  at_grows file files name None free other absent = absent_grows laws file (file_of kind name) files free other absent
  at_grows file files name (Some x) free other is = grows name x files (file ∷ []) is

  -- a file of another kind
  pub other_kind : (held : List ℕ → Option A) (file : File) (files : List File) → bytes_of file.name files ≡ None → file.name.kind ≢ kind → Names kind P held files → Names kind P held (files ++ file ∷ [])
  other_kind held file files free other is name = at_grows file files name (held name) free (λ same. other (ap (λ (f : FileName). f.kind) same)) (is name)

  -- a file of this kind
  pub new_name : (held : List ℕ → Option A) (key bytes : List ℕ) (value : Option A) (x : A) (files : List File) → value ≡ Some x → bytes_of (file_of kind key) files ≡ None
      → P key x (files ++ record { name = file_of kind key; bytes = bytes } ∷ []) → Names kind P held files → Names kind P (with_name key value held) (files ++ record { name = file_of kind key; bytes = bytes } ∷ [])
  new_name held key bytes value x files is_x free new is name = go (bytes_eq key name) (bytes_eq-Decides key name).0 (bytes_eq-Decides key name).1
    where
      go : (b : Bool) → (b ≡ true → key ≡ name) → (key ≡ name → b ≡ true) → At kind P name (files ++ record { name = file_of kind key; bytes = bytes } ∷ []) (cond b value (held name))
      go true same test =
          let Q : List ℕ → Type 0 = λ other. At kind P other (files ++ record { name = file_of kind key; bytes = bytes } ∷ []) value in
          subst Q (same refl) (rw is_x new)
      go false same test =
          let other : file_of kind key ≢ file_of kind name = λ e. absurd (let t = test (ap (λ (f : FileName). f.name) e) in cc) in
          at_grows (record { name = file_of kind key; bytes = bytes }) files name (held name) free other (is name)
