-- The printed text of a program.
use Rattle.std.specs.Prelude.{◌≡◌, ◌≢◌, ℕ, suc, ◌+◌, ◌<◌, All, replicate, List, [], ◌∷◌, ◌++◌, map, nat_lt, bytes_eq, codes, decimal, Ok, if◌then◌else◌}
use Rattle.std.specs.List.{join_with_byte, flat_map}
use Rattle.line_text.specs.Lines.{text_of_lines}
use Rattle.hyper_cube.specs.Torus.{Torus}
use Rattle.hyper_cube.specs.Checks.{IsCube}
use Rattle.ext_field.specs.Element.{Extension, IsExtension}
use Rattle.slot_program.specs.Text.{program_of}
use Rattle.slot_program.specs.WellFormed.{IsProgram}
use Rattle.slot_program.specs.declared.kinds.Kind.{Kind}
use Rattle.slot_program.specs.declared.kinds.Kind.TheVariants.{Input, Const, Add, Sub, Mul, Neg, AddC, MulC, Auto, Rotate, Output}
use Rattle.slot_program.specs.declared.kinds.Step.{Step}

-- `v` and the number
abbrev pub value_name : ℕ → List ℕ
value_name i = 118 ∷ decimal i

-- the numbers of an element, a comma between
abbrev pub element_text : List ℕ → List ℕ
element_text element = join_with_byte 44 (map decimal element)

-- an element and how often it comes
abbrev pub item_text : ℕ × List ℕ → List ℕ
item_text (n, element) = if nat_lt 1 n then decimal n ++ 42 ∷ element_text element else element_text element

-- n equal elements in front of runs
abbrev pub onto_run : ℕ → List ℕ → List (ℕ × List ℕ) → List (ℕ × List ℕ)
onto_run n element [] = (n, element) ∷ []
onto_run n element (run ∷ runs) = if bytes_eq element run.1 then (n + run.0, element) ∷ runs else (n, element) ∷ run ∷ runs

-- the longest runs of equal elements
unfoldable pub runs_of : List (List ℕ) → List (ℕ × List ℕ)
runs_of [] = []
runs_of (element ∷ elements) = onto_run 1 element (runs_of elements)

-- no two neighbours are of one element
abbrev pub AreApart : List (ℕ × List ℕ) → Type 0
AreApart [] = Unit {0}
AreApart (run ∷ []) = Unit {0}
AreApart (run ∷ next ∷ runs) = (run.1 ≢ next.1) × AreApart (next ∷ runs)

-- runs are the longest of some elements
pub record AreLongestRuns (elements : List (List ℕ)) (runs : List (ℕ × List ℕ)) : Type 0 where
  pub spelled : flat_map (λ run. replicate run.0 run.1) runs ≡ elements
  pub some_element : All (λ run. 0 < run.0) runs
  pub apart : AreApart runs

abbrev pub RunsAreLongest : Type 0
RunsAreLongest = (elements : List (List ℕ)) → AreLongestRuns elements (runs_of elements)

-- the words of an instruction that gives value i
abbrev pub words_for : ℕ → Kind → List (List ℕ)
words_for i Input = codes "input" ∷ value_name i ∷ []
words_for i (Const elems) = codes "const" ∷ value_name i ∷ map item_text (runs_of elems)
words_for i (Add a b) = value_name i ∷ codes "=" ∷ codes "add" ∷ value_name a ∷ value_name b ∷ []
words_for i (Sub a b) = value_name i ∷ codes "=" ∷ codes "sub" ∷ value_name a ∷ value_name b ∷ []
words_for i (Mul a b) = value_name i ∷ codes "=" ∷ codes "mul" ∷ value_name a ∷ value_name b ∷ []
words_for i (Neg a) = value_name i ∷ codes "=" ∷ codes "neg" ∷ value_name a ∷ []
words_for i (AddC a c) = value_name i ∷ codes "=" ∷ codes "addc" ∷ value_name a ∷ value_name c ∷ []
words_for i (MulC a c) = value_name i ∷ codes "=" ∷ codes "mulc" ∷ value_name a ∷ value_name c ∷ []
words_for i (Auto k a) = value_name i ∷ codes "=" ∷ codes "auto" ∷ decimal k ∷ value_name a ∷ []
words_for i (Rotate dim amount a) = value_name i ∷ codes "=" ∷ codes "rotate" ∷ decimal dim ∷ decimal amount ∷ value_name a ∷ []
words_for i (Output a) = codes "output" ∷ value_name a ∷ []

-- one space between words
unfoldable pub line_for : ℕ → Kind → List ℕ
line_for i kind = join_with_byte 32 (words_for i kind)

-- the lines of steps from number i on
abbrev pub lines_from : ℕ → List Step → List (List ℕ)
lines_from i [] = []
lines_from i (step ∷ steps) = line_for i step.kind ∷ lines_from (suc i) steps

unfoldable pub printed : List Step → List ℕ
printed steps = text_of_lines (lines_from 0 steps)

-- the same instructions, one a line from line n on
abbrev pub renumbered : ℕ → List Step → List Step
renumbered n [] = []
renumbered n (step ∷ steps) = record { line = n; kind = step.kind } ∷ renumbered (suc n) steps

-- a printed program is read again
abbrev pub ReadsPrintedPrograms : Type 0
ReadsPrintedPrograms = (f : Extension) (cube : Torus) (steps : List Step) → IsExtension f → IsCube cube → IsProgram f cube steps
    → program_of f cube (printed steps) ≡ Ok (renumbered 1 steps)
