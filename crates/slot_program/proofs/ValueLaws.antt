-- The values of a well-formed program over arrays are arrays.
use Rattle.std.proofs.Common.{◌≡◌, ℕ, suc, ◌+◌, ◌<◌, ◌≤◌, true, false, cond, List, [], ◌∷◌, ◌++◌, length, drop, get_or, append_assoc, refl, sym, ap, ◌∙◌, subst, arith}
use Rattle.std.specs.List.{All}
use Rattle.std.proofs.lemmas.List.{length_push, length-drop}
use Rattle.std.proofs.lemmas.List.Sums.{sum_by-cons}
use Rattle.std.proofs.lemmas.List.Elements.{All-append, All-cons, All-nil}
use Rattle.hyper_cube.specs.Torus.{Torus}
use Rattle.hyper_cube.specs.Checks.{IsCube}
use Rattle.ext_field.specs.Element.{Extension, IsExtension}
use Rattle.slot_array.specs.Arrays.{Array, IsArray}
use Rattle.slot_program.specs.Kinds.{is_input}
use Rattle.slot_program.specs.WellFormed.{IsInstruction, IsProgram}
use Rattle.slot_program.specs.Program.{input_count, left_after, value_of, values_of, ValuesAreArrays}
use Rattle.slot_program.specs.declared.kinds.Kind.{Kind}
use Rattle.slot_program.specs.declared.kinds.Kind.TheVariants.{Input, Const, Add, Sub, Mul, Neg, AddC, MulC, Auto, Rotate, Output}
use Rattle.slot_program.specs.declared.kinds.Step.{Step}
use Rattle.slot_program.proofs.ArrayLaws.{add_is, sub_is, neg_is, mul_is, auto_is, rotate_is}
use Rattle.slot_program.proofs.PrintedPrograms.{get_middle, take_middle}

module _ (f : Extension) (cube : Torus) (ext : IsExtension f) (is : IsCube cube) where
  module _ (done : List Step) (values inputs : List Array) (long : length values ≡ length done) (arrays : All (IsArray f cube) values) (given : All (IsArray f cube) inputs) where
    at : (a : ℕ) → a < length done → IsArray f cube (get_or values a [])
    at a below = arrays a [] (rw long below)

    value_is : (kind : Kind) → IsInstruction f cube done kind → (is_input kind ≡ true → 0 < length inputs) → IsArray f cube (value_of f cube values inputs kind)
    value_is Input obeys some = given 0 [] (some refl)
    value_is (Const elems) obeys some = obeys
    value_is (Add a b) obeys some = add_is f cube ext is _ _ (at a obeys.0.earlier) (at b obeys.1.earlier)
    value_is (Sub a b) obeys some = sub_is f cube ext is _ _ (at a obeys.0.earlier) (at b obeys.1.earlier)
    value_is (Mul a b) obeys some = mul_is f cube ext is _ _ (at a obeys.0.earlier) (at b obeys.1.earlier)
    value_is (Neg a) obeys some = neg_is f cube ext is _ (at a obeys.earlier)
    value_is (AddC a c) obeys some = add_is f cube ext is _ _ (at a obeys.0.earlier) (at c obeys.1.earlier)
    value_is (MulC a c) obeys some = mul_is f cube ext is _ _ (at a obeys.0.earlier) (at c obeys.1.earlier)
    value_is (Auto k a) obeys some = auto_is f cube ext is k _ (omega (arith, obeys.0.low)) obeys.0.unit (at a obeys.1.earlier)
    value_is (Rotate dim amount a) obeys some = rotate_is f cube ext is dim amount _ obeys.0.in_cube (at a obeys.1.earlier)
    value_is (Output a) obeys some = at a obeys.earlier

  all_drop : (inputs : List Array) → All (IsArray f cube) inputs → All (IsArray f cube) (drop 1 inputs)
  all_drop [] given = given
  all_drop (x ∷ inputs) given = λ k d l. given (suc k) d (omega (arith, l))

  left_is : (kind : Kind) (inputs : List Array) → All (IsArray f cube) inputs → All (IsArray f cube) (left_after kind inputs)
  left_is Input inputs given = all_drop inputs given
  left_is (Const elems) inputs given = given
  left_is (Add a b) inputs given = given
  left_is (Sub a b) inputs given = given
  left_is (Mul a b) inputs given = given
  left_is (Neg a) inputs given = given
  left_is (AddC a c) inputs given = given
  left_is (MulC a c) inputs given = given
  left_is (Auto k a) inputs given = given
  left_is (Rotate dim amount a) inputs given = given
  left_is (Output a) inputs given = given

  counted : (line : ℕ) (kind : Kind) (steps : List Step) → input_count (record { line = line; kind = kind } ∷ steps) ≡ cond (is_input kind) 1 0 + input_count steps
  counted line kind steps = sum_by-cons (λ (step : Step). cond (is_input step.kind) 1 0) (record { line = line; kind = kind }) steps

  fewer : (line : ℕ) (steps : List Step) (inputs : List Array) (kind : Kind) → is_input kind ≡ false → input_count (record { line = line; kind = kind } ∷ steps) ≤ length inputs → input_count steps ≤ length inputs
  fewer line steps inputs kind other le =
      let none : input_count (record { line = line; kind = kind } ∷ steps) ≡ 0 + input_count steps = counted line kind steps ∙ ap (λ b. cond b 1 0 + input_count steps) other in
      omega arith

  -- an input takes one of the inputs that are left
  enough : (kind : Kind) (line : ℕ) (steps : List Step) (inputs : List Array) → input_count (record { line = line; kind = kind } ∷ steps) ≤ length inputs
      → (is_input kind ≡ true → 0 < length inputs) × (input_count steps ≤ length (left_after kind inputs))
  enough Input line steps inputs le =
      let one : input_count (record { line = line; kind = Input } ∷ steps) ≡ 1 + input_count steps = counted line Input steps in
      let some : 0 < length inputs = omega arith in
      let left : input_count steps ≤ length (drop 1 inputs) = omega (arith, length-drop 1 inputs) in
      (λ is_one. some, left)
  enough (Const elems) line steps inputs le = (λ is_one. absurd (cc), fewer line steps inputs (Const elems) refl le)
  enough (Add a b) line steps inputs le = (λ is_one. absurd (cc), fewer line steps inputs (Add a b) refl le)
  enough (Sub a b) line steps inputs le = (λ is_one. absurd (cc), fewer line steps inputs (Sub a b) refl le)
  enough (Mul a b) line steps inputs le = (λ is_one. absurd (cc), fewer line steps inputs (Mul a b) refl le)
  enough (Neg a) line steps inputs le = (λ is_one. absurd (cc), fewer line steps inputs (Neg a) refl le)
  enough (AddC a c) line steps inputs le = (λ is_one. absurd (cc), fewer line steps inputs (AddC a c) refl le)
  enough (MulC a c) line steps inputs le = (λ is_one. absurd (cc), fewer line steps inputs (MulC a c) refl le)
  enough (Auto k a) line steps inputs le = (λ is_one. absurd (cc), fewer line steps inputs (Auto k a) refl le)
  enough (Rotate dim amount a) line steps inputs le = (λ is_one. absurd (cc), fewer line steps inputs (Rotate dim amount a) refl le)
  enough (Output a) line steps inputs le = (λ is_one. absurd (cc), fewer line steps inputs (Output a) refl le)

  values_are : (done rest : List Step) (values inputs : List Array) → IsProgram f cube (done ++ rest) → length values ≡ length done
      → All (IsArray f cube) values → All (IsArray f cube) inputs → input_count rest ≤ length inputs → All (IsArray f cube) (values_of f cube values inputs rest)
  values_are done [] values inputs well long arrays given le = arrays
  values_are done (step ∷ rest) values inputs well long arrays given le =
      let P : List Step → Type 0 = λ front. IsInstruction f cube front step.kind in
      let Q : List Step → Type 0 = λ steps. IsProgram f cube steps in
      let obeys = subst P (take_middle done (step ∷ rest)) (well.instructions (length done) step (get_middle done rest step)) in
      let left = enough step.kind step.line rest inputs le in
      let value = value_of f cube values inputs step.kind in
      let is_array = value_is done values inputs long arrays given step.kind obeys left.0 in
      values_are (done ++ step ∷ []) rest (values ++ value ∷ []) (left_after step.kind inputs)
      (subst Q (sym (append_assoc done (step ∷ []) rest)) well)
      (length_push values value ∙ ap (λ n. n + 1) long ∙ sym (length_push done step))
      (All-append (IsArray f cube) values (value ∷ []) arrays (All-cons (IsArray f cube) value [] is_array (All-nil (IsArray f cube))))
      (left_is step.kind inputs given) left.1

pub values_are_arrays : ValuesAreArrays
values_are_arrays f cube steps inputs ext is well given le =
    values_are f cube ext is [] steps [] inputs well refl (All-nil (IsArray f cube)) given le
