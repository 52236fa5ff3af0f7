-- The elements that are read are elements.
use Rattle.std.proofs.Common.{ℕ, ◌==◌, List, [], ◌∷◌, ◌++◌, length, replicate, Some, None}
use Rattle.std.specs.List.{All}
use Rattle.std.proofs.lemmas.List.Elements.{All-append, All-replicate, All-nil}
use Rattle.std.proofs.lemmas.Bool.{eqb-true}
use Rattle.line_text.specs.Pieces.{pieces}
use Rattle.hyper_cube.specs.Torus.{Torus, slot_count}
use Rattle.ext_field.specs.Element.{Extension, IsElement, is_element}
use Rattle.slot_array.specs.Arrays.{IsArray}
use Rattle.slot_program.specs.Elements.{numbers_of, repeats_of, element_of, item_in, item_of, elements_of, list_of}
use Rattle.slot_program.proofs.Makes.{Makes, makes_none, makes_some, makes_if, makes_bind}

module _ (f : Extension) where
  element_is : (word : List ℕ) → Makes (IsElement f) (element_of f word)
  unfolding element_of
  element_is word =
      makes_bind (IsElement f) (numbers_of (pieces 44 word)) _ (λ numbers read.
      makes_if (IsElement f) (is_element f numbers) (Some numbers) None
      (λ yes. makes_some (IsElement f) numbers yes)
      (λ no. makes_none (IsElement f)))

  abbrev IsItem : ℕ × List ℕ → Type 0
  IsItem item = IsElement f item.1

  item_in_is : (words : List (List ℕ)) → Makes IsItem (item_in f words)
  item_in_is [] = makes_none IsItem
  item_in_is (spelled ∷ []) =
      makes_bind IsItem (element_of f spelled) _ (λ element read. makes_some IsItem (1, element) (element_is spelled element read))
  item_in_is (count ∷ spelled ∷ []) =
      makes_bind IsItem (repeats_of count) _ (λ n is.
      makes_bind IsItem (element_of f spelled) _ (λ element read. makes_some IsItem (n, element) (element_is spelled element read)))
  item_in_is (count ∷ spelled ∷ more ∷ words) = makes_none IsItem

  item_is : (word : List ℕ) → Makes IsItem (item_of f word)
  unfolding item_of
  item_is word = item_in_is (pieces 42 word)

  elements_are : (words : List (List ℕ)) → Makes (All (IsElement f)) (elements_of f words)
  elements_are [] = makes_some (All (IsElement f)) [] (All-nil (IsElement f))
  elements_are (word ∷ words) =
      let rest = elements_are words in
      makes_bind (All (IsElement f)) (item_of f word) _ (λ item is.
      makes_bind (All (IsElement f)) (elements_of f words) _ (λ elements read.
      makes_some (All (IsElement f)) (replicate item.0 item.1 ++ elements)
      (All-append (IsElement f) _ _ (All-replicate (IsElement f) item.0 item.1 (item_is word item is)) (rest elements read))))

  -- the elements that items stand for are an array
  pub list_is : (cube : Torus) (words : List (List ℕ)) → Makes (IsArray f cube) (list_of f (slot_count cube) words)
  unfolding list_of
  list_is cube words =
      makes_bind (IsArray f cube) (elements_of f words) _ (λ elements read.
      makes_if (IsArray f cube) (length elements == slot_count cube) (Some elements) None
      (λ yes. makes_some (IsArray f cube) elements (record { long = eqb-true _ _ yes; elements = elements_are words elements read }))
      (λ no. makes_none (IsArray f cube)))
