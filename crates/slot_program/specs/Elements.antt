-- Elements and lists of elements in the text of a program.
use Rattle.std.specs.Prelude.{ℕ, ◌==◌, ◌&&◌, ◌^◌, List, [], ◌∷◌, ◌++◌, length, replicate, nat_lt, Option, Some, None, if◌then◌else◌}
use Rattle.line_text.specs.Numbers.{number_of}
use Rattle.line_text.specs.Pieces.{pieces}
use Rattle.ext_field.specs.Element.{Extension, is_element}

infixl 10 ◌>>=◌
abbrev pub ◌>>=◌ : {A B : Type 0} → Option A → (A → Option B) → Option B
None >>= f = None
(Some x) >>= f = f x

-- the numbers that words write, if each writes one
abbrev pub numbers_of : List (List ℕ) → Option (List ℕ)
numbers_of [] = Some []
numbers_of (word ∷ words) = do
  number ← number_of word
  numbers ← numbers_of words
  Some (number ∷ numbers)

-- a number from 1 to 2^32 - 1
unfoldable pub repeats_of : List ℕ → Option ℕ
repeats_of word = do
  n ← number_of word
  if nat_lt 0 n && nat_lt n (2 ^ 32) then Some n else None

module _ (f : Extension) where
  -- an element: its d numbers below p, a comma between
  unfoldable pub element_of : List ℕ → Option (List ℕ)
  element_of word = do
    numbers ← numbers_of (pieces 44 word)
    if is_element f numbers then Some numbers else None

  -- an item, an element or `N*ELEMENT`: how often, and which element
  abbrev pub item_in : List (List ℕ) → Option (ℕ × List ℕ)
  item_in (spelled ∷ []) = do
    element ← element_of spelled
    Some (1, element)
  item_in (count ∷ spelled ∷ []) = do
    n ← repeats_of count
    element ← element_of spelled
    Some (n, element)
  item_in _ = None

  unfoldable pub item_of : List ℕ → Option (ℕ × List ℕ)
  item_of word = item_in (pieces 42 word)

  -- the elements that items stand for
  abbrev pub elements_of : List (List ℕ) → Option (List (List ℕ))
  elements_of [] = Some []
  elements_of (word ∷ words) = do
    item ← item_of word
    elements ← elements_of words
    Some (replicate item.0 item.1 ++ elements)

  -- just this many elements
  unfoldable pub list_of : ℕ → List (List ℕ) → Option (List (List ℕ))
  list_of count words = do
    elements ← elements_of words
    if length elements == count then Some elements else None
