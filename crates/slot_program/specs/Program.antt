-- The meaning of a program: the array of the output line, of arrays for the inputs.
use Rattle.std.specs.Prelude.{ℕ, ◌-◌, ◌≤◌, All, List, [], ◌∷◌, ◌++◌, length, drop, get_or, count_by}
use Rattle.hyper_cube.specs.Torus.{Torus}
use Rattle.hyper_cube.specs.Checks.{IsCube}
use Rattle.ext_field.specs.Element.{Extension, IsExtension}
use Rattle.slot_array.specs.Arrays.{Array, IsArray}
use Rattle.slot_array.specs.Instructions.{add, sub, neg, mul, auto, rotate}
use Rattle.slot_program.specs.Kinds.{is_input}
use Rattle.slot_program.specs.WellFormed.{IsProgram}
use Rattle.slot_program.specs.declared.kinds.Kind.{Kind}
use Rattle.slot_program.specs.declared.kinds.Kind.TheVariants.{Input, Const, Add, Sub, Mul, Neg, AddC, MulC, Auto, Rotate, Output}
use Rattle.slot_program.specs.declared.kinds.Step.{Step}

-- how many inputs the steps take
abbrev pub input_count : List Step → ℕ
input_count steps = count_by (λ step. is_input step.kind) steps

-- the inputs that are left after an instruction
abbrev pub left_after : Kind → List Array → List Array
left_after Input inputs = drop 1 inputs
left_after _ inputs = inputs

module _ (f : Extension) (cube : Torus) where
  -- the value of an instruction, of the values so far and the inputs that are left
  abbrev pub value_of : List Array → List Array → Kind → Array
  value_of values inputs Input = get_or inputs 0 []
  value_of values inputs (Const elems) = elems
  value_of values inputs (Add a b) = add f cube (get_or values a []) (get_or values b [])
  value_of values inputs (Sub a b) = sub f cube (get_or values a []) (get_or values b [])
  value_of values inputs (Mul a b) = mul f cube (get_or values a []) (get_or values b [])
  value_of values inputs (Neg a) = neg f cube (get_or values a [])
  value_of values inputs (AddC a c) = add f cube (get_or values a []) (get_or values c [])
  value_of values inputs (MulC a c) = mul f cube (get_or values a []) (get_or values c [])
  value_of values inputs (Auto k a) = auto f cube k (get_or values a [])
  value_of values inputs (Rotate dim amount a) = rotate f cube dim amount (get_or values a [])
  value_of values inputs (Output a) = get_or values a []

  -- the values so far, and then those of the steps
  abbrev pub values_of : List Array → List Array → List Step → List Array
  values_of values inputs [] = values
  values_of values inputs (step ∷ steps) =
      values_of (values ++ value_of values inputs step.kind ∷ []) (left_after step.kind inputs) steps

  -- the array of the output line, which is the last step
  unfoldable pub meaning : List Step → List Array → Array
  meaning steps inputs = let values = values_of [] inputs steps in get_or values (length values - 1) []

-- the values of a program over arrays are arrays
abbrev pub ValuesAreArrays : Type 0
ValuesAreArrays = (f : Extension) (cube : Torus) (steps : List Step) (inputs : List Array) → IsExtension f → IsCube cube → IsProgram f cube steps
    → All (IsArray f cube) inputs → input_count steps ≤ length inputs → All (IsArray f cube) (values_of f cube [] inputs steps)
