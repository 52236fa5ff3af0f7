-- The text of a program: an instruction a line, each value under a name.
use Rattle.std.specs.Prelude.{ℕ, ◌+◌, ◌-◌, ◌^◌, ◌==◌, ◌&&◌, not, Bool, true, false, List, [], ◌∷◌, ◌++◌, length, get_or, nat_lt, bytes_eq, codes, is_some, slice_get, option_map, Option, Some, None, Result, Ok, Err, if◌then◌else◌}
use Rattle.std.specs.Option.{option_map_or}
use Rattle.line_text.specs.Lines.{lines_of}
use Rattle.line_text.specs.Words.{words_of}
use Rattle.line_text.specs.Names.{is_name}
use Rattle.line_text.specs.Numbers.{number_of}
use Rattle.algebra.specs.Divisor.{is_unit}
use Rattle.hyper_cube.specs.Torus.{Torus, slot_count}
use Rattle.ext_field.specs.Element.{Extension}
use Rattle.slot_program.specs.Kinds.{is_output, is_constant}
use Rattle.slot_program.specs.Names.{Naming, no_names, named}
use Rattle.slot_program.specs.Elements.{◌>>=◌, list_of}
use Rattle.slot_program.specs.declared.kinds.Kind.{Kind}
use Rattle.slot_program.specs.declared.kinds.Kind.TheVariants.{Input, Const, Add, Sub, Mul, Neg, AddC, MulC, Auto, Rotate, Output}
use Rattle.slot_program.specs.declared.kinds.Step.{Step}
use Rattle.slot_program.specs.declared.instructions.Made.{Made}

-- a line without words is skipped, and one whose first word begins with `#`
abbrev pub is_skipped : List (List ℕ) → Bool
is_skipped [] = true
is_skipped (word ∷ words) = get_or word 0 0 == 35

-- a number below 2^32
unfoldable pub small_number_of : List ℕ → Option ℕ
small_number_of word = do
  n ← number_of word
  if nat_lt n (2 ^ 32) then Some n else None

-- whether the last step is the output
unfoldable pub has_output : List Step → Bool
has_output steps = option_map_or (λ step. is_output step.kind) (slice_get steps (length steps - 1)) false

module _ (names : Naming) (steps : List Step) where
  -- the number of a value that is no constant
  unfoldable pub value_at : List ℕ → Option ℕ
  value_at word = do
    n ← names word
    if is_constant steps n then None else Some n

  -- the number of a constant
  unfoldable pub constant_at : List ℕ → Option ℕ
  constant_at word = do
    n ← names word
    if is_constant steps n then Some n else None

  -- one value
  unfoldable pub value_in : List (List ℕ) → Option ℕ
  value_in (a ∷ []) = value_at a
  value_in _ = None

  -- two values
  unfoldable pub values_in : List (List ℕ) → Option (ℕ × ℕ)
  values_in (a ∷ b ∷ []) = do
    first ← value_at a
    second ← value_at b
    Some (first, second)
  values_in _ = None

  -- a value and a constant
  unfoldable pub value_and_constant_in : List (List ℕ) → Option (ℕ × ℕ)
  value_and_constant_in (a ∷ c ∷ []) = do
    first ← value_at a
    second ← constant_at c
    Some (first, second)
  value_and_constant_in _ = None

  module _ (cube : Torus) where
    -- `K a`, K a unit
    unfoldable pub auto_in : List (List ℕ) → Option Kind
    auto_in (k ∷ a ∷ []) = do
      unit ← number_of k
      value ← value_at a
      if nat_lt 0 unit && nat_lt unit cube.m && is_unit cube.m unit then Some (Auto unit value) else None
    auto_in _ = None

    -- `I V a`, I a dimension
    unfoldable pub rotate_in : List (List ℕ) → Option Kind
    rotate_in (i ∷ v ∷ a ∷ []) = do
      dim ← number_of i
      amount ← small_number_of v
      value ← value_at a
      if nat_lt dim (length cube.dimensions) then Some (Rotate dim amount value) else None
    rotate_in _ = None

    -- the words behind `=`
    unfoldable pub operation_in : List (List ℕ) → Option Kind
    operation_in [] = None
    operation_in (word ∷ words) =
        if bytes_eq word (codes "add") then option_map (λ v. Add v.0 v.1) (values_in words)
        else (if bytes_eq word (codes "sub") then option_map (λ v. Sub v.0 v.1) (values_in words)
        else (if bytes_eq word (codes "mul") then option_map (λ v. Mul v.0 v.1) (values_in words)
        else (if bytes_eq word (codes "neg") then option_map (λ a. Neg a) (value_in words)
        else (if bytes_eq word (codes "addc") then option_map (λ v. AddC v.0 v.1) (value_and_constant_in words)
        else (if bytes_eq word (codes "mulc") then option_map (λ v. MulC v.0 v.1) (value_and_constant_in words)
        else (if bytes_eq word (codes "auto") then auto_in words
        else (if bytes_eq word (codes "rotate") then rotate_in words
        else None)))))))

  -- a word that is a name and names nothing yet
  unfoldable pub new_name : List ℕ → Option (List ℕ)
  new_name word = if is_name word && not (is_some (names word)) then Some word else None

  module _ (cube : Torus) where
    -- a line whose second word is `=`: the name that it defines, and what it does
    unfoldable pub assignment_in : List ℕ → List (List ℕ) → Option Made
    assignment_in y words = do
      name ← new_name y
      kind ← operation_in cube words
      Some (record { name = Some name; kind = kind })

  unfoldable pub input_in : List (List ℕ) → Option Made
  input_in (x ∷ []) = do
    name ← new_name x
    Some (record { name = Some name; kind = Input })
  input_in _ = None

  unfoldable pub output_in : List (List ℕ) → Option Made
  output_in words = do
    value ← value_in words
    Some (record { name = None; kind = Output value })

  module _ (f : Extension) (cube : Torus) where
    unfoldable pub const_in : List (List ℕ) → Option Made
    const_in (c ∷ items) = do
      name ← new_name c
      elements ← list_of f (slot_count cube) items
      Some (record { name = Some name; kind = Const elements })
    const_in [] = None

    -- any other line: the name that it defines, if any, and what it does
    unfoldable pub declaration_in : List ℕ → List (List ℕ) → Option Made
    declaration_in word words =
        if bytes_eq word (codes "input") then input_in words
        else (if bytes_eq word (codes "const") then const_in words
        else (if bytes_eq word (codes "output") then output_in words
        else None))

    -- an instruction; none stands behind an output
    unfoldable pub instruction_in : List (List ℕ) → Option Made
    instruction_in [] = None
    instruction_in (word ∷ []) = None
    instruction_in (word ∷ sign ∷ words) =
        if has_output steps then None
        else (if bytes_eq sign (codes "=") then assignment_in cube word words else declaration_in word (sign ∷ words))

-- the names behind an instruction
abbrev pub named_by : Naming → Option (List ℕ) → ℕ → Naming
named_by names None n = names
named_by names (Some name) n = named names name n

module _ (f : Extension) (cube : Torus) where
  -- the steps of the lines from number n on, behind some steps, or the number of the line that breaks a rule
  abbrev pub steps_from : Naming → List Step → ℕ → List (List ℕ) → Result (List Step) ℕ
  steps_from names steps n [] = if has_output steps then Ok steps else Err n
  steps_from names steps n (line ∷ lines) =
      if nat_lt 100000 n then Err n
      else (if is_skipped (words_of line) then steps_from names steps (n + 1) lines
      else (elim (instruction_in names steps f cube (words_of line)) [
        | None ↦ Err n
        | Some made ↦ steps_from (named_by names made.name (length steps)) (steps ++ record { line = n; kind = made.kind } ∷ []) (n + 1) lines
      ]))

  -- the steps of a program's text, or the number of the line that breaks a rule
  unfoldable pub program_of : List ℕ → Result (List Step) ℕ
  program_of text = steps_from no_names [] 1 (lines_of text)
