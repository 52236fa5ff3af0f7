use Rattle.std.proofs.Common.{◌≡◌, ◌<◌, ◌≤◌, ℕ, Bool, true, false, ◌||◌, ◌==◌, eqb, List, [], ◌∷◌, ◌++◌, length, refl, sym, ap, ◌∙◌, arith}
use Rattle.std.specs.List.{list_any, slice_split, onto_first, join_with_byte, position_or_len, before_first, after_first}
use Rattle.std.proofs.lemmas.List.{take_all, drop_all}
use Rattle.std.proofs.lemmas.List.Splits.{length-slice_split, join_with_byte-slice_split, slice_split_first, slice_split_none, slice_split-cons_yes, slice_split-cons_no}
use Rattle.std.proofs.lemmas.List.Sums.{fails_before_first}
use Rattle.std.proofs.lemmas.Grind.{common_steps}
use Rattle.line_text.specs.Pieces.{pieces, holds_byte, ArePiecesAlone}

-- a byte equals itself
same_byte : (byte : ℕ) → eqb byte byte ≡ true
same_byte byte = grind (arith, common_steps)

-- no part of a split holds an element that passes
apart-onto_first : (c x : ℕ) (parts : List (List ℕ)) → eqb x c ≡ false → list_any (holds_byte c) parts ≡ false → list_any (holds_byte c) (onto_first x parts) ≡ false
apart-onto_first c x [] other apart = rw other refl
apart-onto_first c x (part ∷ parts) other apart = rw other apart

apart_more : (c x : ℕ) (text : List ℕ) (test : Bool) → eqb x c ≡ test
    → list_any (holds_byte c) (slice_split (λ byte. byte == c) text) ≡ false
    → list_any (holds_byte c) (slice_split (λ byte. byte == c) (x ∷ text)) ≡ false
apart_more c x text true is apart = rw (slice_split-cons_yes (λ byte. byte == c) x text is) apart
apart_more c x text false is apart =
    rw (slice_split-cons_no (λ byte. byte == c) x text is) (apart-onto_first c x _ is apart)

apart-slice_split : (c : ℕ) (text : List ℕ) → list_any (holds_byte c) (slice_split (λ byte. byte == c) text) ≡ false
apart-slice_split c [] = refl
apart-slice_split c (x ∷ text) = apart_more c x text (eqb x c) refl (apart-slice_split c text)

or_false : (a b : Bool) → (a || b) ≡ false → (a ≡ false) × (b ≡ false)
or_false true b is = absurd (cc)
or_false false b is = (refl, is)

-- a piece with no separator, before one, is the first piece
slice_split-piece : (c : ℕ) (piece text : List ℕ) → holds_byte c piece ≡ false
    → slice_split (λ byte. byte == c) (piece ++ c ∷ text) ≡ piece ∷ slice_split (λ byte. byte == c) text
slice_split-piece c [] text apart = slice_split-cons_yes (λ byte. byte == c) c text (same_byte c)
slice_split-piece c (x ∷ piece) text apart =
    let parts = or_false (eqb x c) (holds_byte c piece) apart in
    slice_split-cons_no (λ byte. byte == c) x (piece ++ c ∷ text) parts.0
    ∙ ap (onto_first x) (slice_split-piece c piece text parts.1)

-- and alone it is the only one
slice_split-last : (c : ℕ) (piece : List ℕ) → holds_byte c piece ≡ false → slice_split (λ byte. byte == c) piece ≡ piece ∷ []
slice_split-last c [] apart = refl
slice_split-last c (x ∷ piece) apart =
    let parts = or_false (eqb x c) (holds_byte c piece) apart in
    slice_split-cons_no (λ byte. byte == c) x piece parts.0 ∙ ap (onto_first x) (slice_split-last c piece parts.1)

-- pieces apart, joined, are split into themselves
slice_split-join : (c : ℕ) (list : List (List ℕ)) → 0 < length list → list_any (holds_byte c) list ≡ false → slice_split (λ byte. byte == c) (join_with_byte c list) ≡ list
slice_split-join c [] some apart = absurd (omega arith)
slice_split-join c (piece ∷ []) some apart = slice_split-last c piece (or_false _ _ apart).0
slice_split-join c (piece ∷ next ∷ more) some apart =
    let parts = or_false (holds_byte c piece) _ apart in
    slice_split-piece c piece (join_with_byte c (next ∷ more)) parts.0 ∙ ap (λ rest. piece ∷ rest) (slice_split-join c (next ∷ more) (omega arith) parts.1)

pub are_pieces_alone : ArePiecesAlone
unfolding pieces
are_pieces_alone separator text = (
  record {
    some_piece = omega (arith, length-slice_split (λ byte. byte == separator) text);
    apart = apart-slice_split separator text;
    joined = join_with_byte-slice_split separator text;
  },
  λ list they. sym (slice_split-join separator list they.some_piece they.apart) ∙ ap (slice_split (λ byte. byte == separator)) they.joined,
)

-- where a separator stands, the first piece ends there; else the text is the one piece
pub pieces_cut : (separator : ℕ) (text : List ℕ) → position_or_len (λ byte. byte == separator) text < length text → pieces separator text ≡ before_first (λ byte. byte == separator) text ∷ pieces separator (after_first (λ byte. byte == separator) text)
unfolding pieces
pieces_cut separator text found = slice_split_first (λ byte. byte == separator) text 0 found

pub pieces_uncut : (separator : ℕ) (text : List ℕ) → length text ≤ position_or_len (λ byte. byte == separator) text → (pieces separator text ≡ text ∷ []) × (before_first (λ byte. byte == separator) text ≡ text) × (after_first (λ byte. byte == separator) text ≡ [])
unfolding pieces
pieces_uncut separator text none = (
  slice_split_none (λ byte. byte == separator) text (λ k d below. fails_before_first (λ byte. byte == separator) text k d (omega arith)),
  take_all _ text none,
  drop_all _ text (omega arith),
)

-- a piece with no separator, before one, is the first piece; alone it is the only one
pub pieces-piece : (separator : ℕ) (piece text : List ℕ) → holds_byte separator piece ≡ false → pieces separator (piece ++ separator ∷ text) ≡ piece ∷ pieces separator text
unfolding pieces
pieces-piece separator piece text apart = slice_split-piece separator piece text apart

pub pieces-last : (separator : ℕ) (piece : List ℕ) → holds_byte separator piece ≡ false → pieces separator piece ≡ piece ∷ []
unfolding pieces
pieces-last separator piece apart = slice_split-last separator piece apart

pub pieces-join : (separator : ℕ) (list : List (List ℕ)) → 0 < length list → list_any (holds_byte separator) list ≡ false → pieces separator (join_with_byte separator list) ≡ list
unfolding pieces
pieces-join separator list some apart = slice_split-join separator list some apart
