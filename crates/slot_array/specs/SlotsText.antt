-- The text of an array: a line for each slot, with the coefficients of its element, a space between.
use Rattle.std.specs.Prelude.{◌≡◌, ℕ, zero, suc, ◌<◌, ◌≤◌, ◌⊎◌, List, [], ◌∷◌, ◌++◌, length, map, take, get_or, Option, Some, None, option_map, option_and_then, Result, Ok, Err, decimal, if◌then◌else◌}
use Rattle.std.specs.Option.{option_map_or}
use Rattle.std.specs.List.{AllZip, flat_map, join_with_byte}
use Rattle.line_text.specs.Lines.{lines_of}
use Rattle.line_text.specs.Words.{words_of}
use Rattle.line_text.specs.Numbers.{number_of}
use Rattle.hyper_cube.specs.Torus.{Torus, slot_count}
use Rattle.ext_field.specs.Element.{Extension, IsElement, is_element}
use Rattle.slot_array.specs.Arrays.{Array}

-- the numbers that the words write, if each writes one
abbrev pub numbers_of : List (List ℕ) → Option (List ℕ)
numbers_of [] = Some []
numbers_of (word ∷ words) = option_and_then (λ number. option_map (λ numbers. number ∷ numbers) (numbers_of words)) (number_of word)

-- one element before those that are found
abbrev pub with_first : List ℕ → Result Array ℕ → Result Array ℕ
with_first element (Ok elements) = Ok (element ∷ elements)
with_first element (Err i) = Err i

module _ (f : Extension) where
  -- the element that a line writes: as many numbers as the degree, each below p
  unfoldable pub element_of : List ℕ → Option (List ℕ)
  element_of line = option_and_then (λ numbers. if is_element f numbers then Some numbers else None) (numbers_of (words_of line))

  -- the elements that the lines from number i on write, where n slots are left; or the number of the first line that
  -- writes none, is one too many, or is missing
  abbrev pub elements_from : ℕ → ℕ → List (List ℕ) → Result Array ℕ
  elements_from i zero [] = Ok []
  elements_from i (suc n) [] = Err i
  elements_from i zero (line ∷ lines) = Err i
  elements_from i (suc n) (line ∷ lines) = option_map_or (λ element. with_first element (elements_from (suc i) n lines)) (element_of line) (Err i)

  -- the array that a text writes, or the number of the first line at fault, from 1
  unfoldable pub slots_of : Torus → List ℕ → Result Array ℕ
  slots_of c text = elements_from 1 (slot_count c) (lines_of text)

  -- a line writes an element: its words write the numbers of the element
  pub record WritesElement (line x : List ℕ) : Type 0 where
    pub element : IsElement f x
    pub words : AllZip (λ word number. number_of word ≡ Some number) (words_of line) x

  -- a text writes an array: it has a line for each slot, in order
  pub record WritesArray (c : Torus) (text : List ℕ) (a : Array) : Type 0 where
    pub long : length a ≡ slot_count c
    pub lines : AllZip WritesElement (lines_of text) a

  -- the line after k lines is missing, one too many, or writes no element
  abbrev pub IsWrong : ℕ → List (List ℕ) → ℕ → Type 0
  IsWrong n lines k =
      (k < n) × (k ≡ length lines)
      ⊎ (k ≡ n) × (k < length lines)
      ⊎ (k < n) × (k < length lines) × ((x : List ℕ) → WritesElement (get_or lines k []) x → ⊥)

  -- it is the first such line: each one before is there, is wanted, and writes an element
  pub record IsFault (n : ℕ) (lines : List (List ℕ)) (k : ℕ) : Type 0 where
    pub wrong : IsWrong n lines k
    pub before : (j : ℕ) → j < k → (j < n) × (j < length lines) × ((x : List ℕ) × WritesElement (get_or lines j []) x)

  -- a is what the first lines write, up to a line that writes no element, and no more than n
  pub record AreFirst (n : ℕ) (lines : List (List ℕ)) (a : Array) : Type 0 where
    pub few : length a ≤ n
    pub fit : length a ≤ length lines
    pub written : AllZip (λ line x. element_of line ≡ Some x) (take (length a) lines) a
    pub stops : length a < n → length a < length lines → element_of (get_or lines (length a) []) ≡ None

-- the printed line of an element, without its newline
abbrev pub element_text : List ℕ → List ℕ
element_text element = join_with_byte 32 (map decimal element)

-- the printed text of an array
unfoldable pub slots_text : Array → List ℕ
slots_text a = flat_map (λ element. element_text element ++ 10 ∷ []) a
