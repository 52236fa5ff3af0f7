use Rattle.std.proofs.Common.{◌≡◌, ℕ, Bool, true, false, ◌&&◌, not, ◌==◌, List, [], ◌∷◌, ◌++◌, drop, refl, sym, ap, ◌∙◌}
use Rattle.std.specs.Prelude.{codes, if◌then◌else◌}
use Rattle.std.specs.List.{list_all}
use Rattle.std.specs.Str.{bytes_eq}
use Rattle.line_text.specs.Kinds.{extension_of, file_text, FileTextIsInjective}
use Rattle.line_text.specs.declared.kinds.FileKind.{FileKind}
use Rattle.line_text.specs.declared.kinds.FileKind.TheVariants.{Table, Template, Secret, Public, Eval, Cipher, Slots, Prog, Seed, Script}
use Rattle.line_text.specs.declared.kinds.FileName.{FileName}

abbrev is_no_dot : ℕ → Bool
is_no_dot byte = not (byte == 46)

has_dot : (front back : List ℕ) → list_all is_no_dot (front ++ 46 ∷ back) ≡ false
has_dot [] back = refl
has_dot (byte ∷ front) back = rw (has_dot front back) (never (is_no_dot byte))
  where
    never : (b : Bool) → (b && false) ≡ false
    never true = refl
    never false = refl

-- the last dot cuts a list in one way
cut_at_last_dot : (front other back rest : List ℕ) → list_all is_no_dot back ≡ true → list_all is_no_dot rest ≡ true
    → front ++ 46 ∷ back ≡ other ++ 46 ∷ rest → (front ≡ other) × (back ≡ rest)
cut_at_last_dot [] [] back rest none_back none_rest same = (refl, ap (drop 1) same)
cut_at_last_dot [] (byte ∷ other) back rest none_back none_rest same =
    let tails = ap (drop 1) same in
    let dotted = has_dot other rest in
    absurd (cc)
cut_at_last_dot (byte ∷ front) [] back rest none_back none_rest same =
    let tails = ap (drop 1) same in
    let dotted = has_dot front back in
    absurd (cc)
cut_at_last_dot (byte ∷ front) (head ∷ other) back rest none_back none_rest same =
    let tails : front ++ 46 ∷ back ≡ other ++ 46 ∷ rest = cc in
    let heads : byte ≡ head = cc in
    let cut = cut_at_last_dot front other back rest none_back none_rest tails in
    (rw (heads, cut.0) refl, cut.1)

-- the kind whose extension is given
kind_with : List ℕ → FileKind
kind_with extension =
    if bytes_eq extension (codes ".table") then Table
    else (if bytes_eq extension (codes ".tmpl") then Template
    else (if bytes_eq extension (codes ".sk") then Secret
    else (if bytes_eq extension (codes ".pk") then Public
    else (if bytes_eq extension (codes ".ek") then Eval
    else (if bytes_eq extension (codes ".ct") then Cipher
    else (if bytes_eq extension (codes ".slots") then Slots
    else (if bytes_eq extension (codes ".prog") then Prog
    else (if bytes_eq extension (codes ".seed") then Seed
    else Script))))))))

kind_with-extension_of : (kind : FileKind) → kind_with (extension_of kind) ≡ kind
unfolding kind_with extension_of
kind_with-extension_of Table = refl
kind_with-extension_of Template = refl
kind_with-extension_of Secret = refl
kind_with-extension_of Public = refl
kind_with-extension_of Eval = refl
kind_with-extension_of Cipher = refl
kind_with-extension_of Slots = refl
kind_with-extension_of Prog = refl
kind_with-extension_of Seed = refl
kind_with-extension_of Script = refl

-- an extension is a dot and bytes that are none
extension_after_dot : (kind : FileKind) → extension_of kind ≡ 46 ∷ drop 1 (extension_of kind)
unfolding extension_of
extension_after_dot Table = refl
extension_after_dot Template = refl
extension_after_dot Secret = refl
extension_after_dot Public = refl
extension_after_dot Eval = refl
extension_after_dot Cipher = refl
extension_after_dot Slots = refl
extension_after_dot Prog = refl
extension_after_dot Seed = refl
extension_after_dot Script = refl

no_dot_after : (kind : FileKind) → list_all is_no_dot (drop 1 (extension_of kind)) ≡ true
unfolding extension_of
no_dot_after Table = refl
no_dot_after Template = refl
no_dot_after Secret = refl
no_dot_after Public = refl
no_dot_after Eval = refl
no_dot_after Cipher = refl
no_dot_after Slots = refl
no_dot_after Prog = refl
no_dot_after Seed = refl
no_dot_after Script = refl

abbrev named : List ℕ → FileKind → FileName
named name kind = record { name = name; kind = kind }

same_parts : (name other : List ℕ) (kind rest : FileKind) → name ≡ other → kind ≡ rest
    → named name kind ≡ named other rest
same_parts name other kind rest names kinds = rw (names, kinds) refl

pub file_text_is_injective : FileTextIsInjective
unfolding file_text
file_text_is_injective file other same =
    let here = extension_after_dot file.kind in
    let there = extension_after_dot other.kind in
    let dotted : file.name ++ 46 ∷ drop 1 (extension_of file.kind) ≡ other.name ++ 46 ∷ drop 1 (extension_of other.kind) =
    rw (← here, ← there) same in
    let cut = cut_at_last_dot file.name other.name _ _ (no_dot_after file.kind) (no_dot_after other.kind) dotted in
    let names : file.name ≡ other.name = cut.0 in
    let extensions : extension_of file.kind ≡ extension_of other.kind = cc in
    let kinds : file.kind ≡ other.kind =
    sym (kind_with-extension_of file.kind) ∙ ap kind_with extensions ∙ kind_with-extension_of other.kind in
    same_parts file.name other.name file.kind other.kind names kinds
