-- A printed instruction is read again.
use Rattle.std.proofs.Common.{◌≡◌, ℕ, suc, ◌<◌, ◌≤◌, ◌^◌, true, false, List, [], ◌∷◌, length, Some, None, option_map, codes, refl, ap, arith}
use Rattle.std.specs.Prelude.{decimal}
use Rattle.std.specs.List.{list_all, All}
use Rattle.std.proofs.lemmas.Bool.{and_from, lt-ltb}
use Rattle.line_text.proofs.NumberLemmas.{number_is_read}
use Rattle.hyper_cube.specs.Torus.{Torus, slot_count}
use Rattle.ext_field.specs.Element.{Extension, IsElement}
use Rattle.slot_array.specs.Arrays.{IsArray}
use Rattle.slot_program.specs.Names.{Naming}
use Rattle.slot_program.specs.Text.{small_number_of, has_output, value_at, constant_at, value_in, values_in, value_and_constant_in, auto_in, rotate_in, operation_in, new_name, assignment_in, input_in, output_in, const_in, declaration_in, instruction_in}
use Rattle.slot_program.specs.WellFormed.{IsValue, IsConstant, IsAuto, IsRotation, IsInstruction}
use Rattle.slot_program.specs.Printed.{value_name, words_for}
use Rattle.slot_program.specs.declared.kinds.Kind.{Kind}
use Rattle.slot_program.specs.declared.kinds.Kind.TheVariants.{Input, Const, Add, Sub, Mul, Neg, AddC, MulC, Auto, Rotate, Output}
use Rattle.slot_program.specs.declared.kinds.Step.{Step}
use Rattle.slot_program.specs.declared.instructions.Made.{Made}
use Rattle.slot_program.proofs.Printable.{is_clean, clean_decimal}
use Rattle.slot_program.proofs.PrintedElements.{IsPrintable, ArePrintable, list_read, clean_list}
use Rattle.slot_program.proofs.PrintedNames.{clean_name}

-- the ranges of what is printed
pub record AreInRange (f : Extension) (cube : Torus) : Type 0 where
  pub m_high : cube.m ≤ 2 ^ 32
  pub few_dimensions : length cube.dimensions ≤ 2 ^ 32
  pub few_slots : slot_count cube < 2 ^ 32
  pub printable : (element : List ℕ) → IsElement f element → IsPrintable f element

-- the name that an instruction defines, and the instruction
abbrev pub made_for : ℕ → Kind → Made
made_for i (Output a) = record { name = None; kind = Output a }
made_for i kind = record { name = Some (value_name i); kind = kind }

module _ (f : Extension) (cube : Torus) (names : Naming) (steps : List Step) (i : ℕ) where
  pub record IsReady : Type 0 where
    pub free : has_output steps ≡ false
    pub fresh : new_name names steps (value_name i) ≡ Some (value_name i)
    pub known : (a : ℕ) → a < length steps → names (value_name a) ≡ Some a
    pub few : length steps ≤ 100000
    pub in_range : AreInRange f cube

  module _ (ready : IsReady) where
    value_read : (a : ℕ) → IsValue steps a → value_at names steps (value_name a) ≡ Some a
    unfolding value_at
    value_read a is = rw (ready.known a is.earlier, is.no_constant) refl

    constant_read : (c : ℕ) → IsConstant steps c → constant_at names steps (value_name c) ≡ Some c
    unfolding constant_at
    constant_read c is = rw (ready.known c is.earlier, is.constant) refl

    one_read : (a : ℕ) → IsValue steps a → value_in names steps (value_name a ∷ []) ≡ Some a
    unfolding value_in
    one_read a is = value_read a is

    two_read : (a b : ℕ) → IsValue steps a → IsValue steps b → values_in names steps (value_name a ∷ value_name b ∷ []) ≡ Some (a, b)
    unfolding values_in
    two_read a b is_a is_b = rw (value_read a is_a, value_read b is_b) refl

    mixed_read : (a c : ℕ) → IsValue steps a → IsConstant steps c → value_and_constant_in names steps (value_name a ∷ value_name c ∷ []) ≡ Some (a, c)
    unfolding value_and_constant_in
    mixed_read a c is_a is_c = rw (value_read a is_a, constant_read c is_c) refl

    auto_read : (k a : ℕ) → IsAuto cube k → IsValue steps a → auto_in names steps cube (decimal k ∷ value_name a ∷ []) ≡ Some (Auto k a)
    unfolding auto_in
    auto_read k a is is_a =
        rw (number_is_read k (omega (arith, is.high, ready.in_range.m_high)), value_read a is_a, lt-ltb 0 k (omega (arith, is.low)), lt-ltb k cube.m is.high, is.unit) refl

    small_read : (n : ℕ) → n < 2 ^ 32 → small_number_of (decimal n) ≡ Some n
    unfolding small_number_of
    small_read n small = rw (number_is_read n (omega arith), lt-ltb n (2 ^ 32) small) refl

    rotate_read : (dim amount a : ℕ) → IsRotation cube dim amount → IsValue steps a → rotate_in names steps cube (decimal dim ∷ decimal amount ∷ value_name a ∷ []) ≡ Some (Rotate dim amount a)
    unfolding rotate_in
    rotate_read dim amount a is is_a =
        rw (number_is_read dim (omega (arith, is.in_cube, ready.in_range.few_dimensions)), small_read amount is.small, value_read a is_a, lt-ltb dim (length cube.dimensions) is.in_cube) refl

    assigned : (words : List (List ℕ)) (kind : Kind) → operation_in names steps cube words ≡ Some kind
        → instruction_in names steps f cube (value_name i ∷ codes "=" ∷ words) ≡ Some (record { name = Some (value_name i); kind = kind })
    unfolding instruction_in assignment_in
    assigned words kind is = rw (ready.free, ready.fresh, is) refl

    printable_list : (elements : List (List ℕ)) → All (IsElement f) elements → ArePrintable f elements
    printable_list [] all = tt
    printable_list (element ∷ elements) all = (ready.in_range.printable element (all 0 element (omega arith)), printable_list elements (λ k d l. all (suc k) d (omega arith)))

    const_read : (elements : List (List ℕ)) → IsArray f cube elements → instruction_in names steps f cube (words_for i (Const elements)) ≡ Some (made_for i (Const elements))
    unfolding instruction_in declaration_in const_in
    const_read elements is =
        rw (ready.free, ready.fresh, list_read f elements (slot_count cube) is.long ready.in_range.few_slots (printable_list elements is.elements)) refl

    input_read : instruction_in names steps f cube (words_for i Input) ≡ Some (made_for i Input)
    unfolding instruction_in declaration_in input_in
    input_read = rw (ready.free, ready.fresh) refl

    output_read : (a : ℕ) → IsValue steps a → instruction_in names steps f cube (words_for i (Output a)) ≡ Some (made_for i (Output a))
    unfolding instruction_in declaration_in output_in
    output_read a is = rw (ready.free, one_read a is) refl

    pub instruction_read : (kind : Kind) → IsInstruction f cube steps kind → instruction_in names steps f cube (words_for i kind) ≡ Some (made_for i kind)
    unfolding operation_in
    instruction_read Input is = input_read
    instruction_read (Const elements) is = const_read elements is
    instruction_read (Add a b) is = assigned _ (Add a b) (ap (option_map (λ v. Add v.0 v.1)) (two_read a b is.0 is.1))
    instruction_read (Sub a b) is = assigned _ (Sub a b) (ap (option_map (λ v. Sub v.0 v.1)) (two_read a b is.0 is.1))
    instruction_read (Mul a b) is = assigned _ (Mul a b) (ap (option_map (λ v. Mul v.0 v.1)) (two_read a b is.0 is.1))
    instruction_read (Neg a) is = assigned _ (Neg a) (ap (option_map (λ a. Neg a)) (one_read a is))
    instruction_read (AddC a c) is = assigned _ (AddC a c) (ap (option_map (λ v. AddC v.0 v.1)) (mixed_read a c is.0 is.1))
    instruction_read (MulC a c) is = assigned _ (MulC a c) (ap (option_map (λ v. MulC v.0 v.1)) (mixed_read a c is.0 is.1))
    instruction_read (Auto k a) is = assigned _ (Auto k a) (auto_read k a is.0 is.1)
    instruction_read (Rotate dim amount a) is = assigned _ (Rotate dim amount a) (rotate_read dim amount a is.0 is.1)
    instruction_read (Output a) is = output_read a is

    name_clean : (a : ℕ) → IsValue steps a → is_clean (value_name a) ≡ true
    name_clean a is = clean_name a (omega (arith, is.earlier, ready.few))

    two_clean : (a b : ℕ) → is_clean (value_name a) ≡ true → is_clean (value_name b) ≡ true → list_all is_clean (value_name a ∷ value_name b ∷ []) ≡ true
    two_clean a b one two = and_from _ _ one (and_from _ true two refl)

    one_clean : (a : ℕ) → IsValue steps a → list_all is_clean (value_name a ∷ []) ≡ true
    one_clean a is = and_from _ true (name_clean a is) refl

    -- the words of an instruction are words
    pub words_clean : (kind : Kind) → i < 2 ^ 64 → IsInstruction f cube steps kind → list_all is_clean (words_for i kind) ≡ true
    words_clean Input small is = and_from _ true (clean_name i small) refl
    words_clean (Const elements) small is =
        and_from _ _ (clean_name i small) (clean_list f elements (omega (arith, is.long, ready.in_range.few_slots)) (printable_list elements is.elements))
    words_clean (Add a b) small is = and_from _ _ (clean_name i small) (two_clean a b (name_clean a is.0) (name_clean b is.1))
    words_clean (Sub a b) small is = and_from _ _ (clean_name i small) (two_clean a b (name_clean a is.0) (name_clean b is.1))
    words_clean (Mul a b) small is = and_from _ _ (clean_name i small) (two_clean a b (name_clean a is.0) (name_clean b is.1))
    words_clean (Neg a) small is = and_from _ _ (clean_name i small) (one_clean a is)
    words_clean (AddC a c) small is = and_from _ _ (clean_name i small) (two_clean a c (name_clean a is.0) (clean_name c (omega (arith, is.1.earlier, ready.few))))
    words_clean (MulC a c) small is = and_from _ _ (clean_name i small) (two_clean a c (name_clean a is.0) (clean_name c (omega (arith, is.1.earlier, ready.few))))
    words_clean (Auto k a) small is =
        and_from _ _ (clean_name i small) (and_from _ _ (clean_decimal k (omega (arith, is.0.high, ready.in_range.m_high))) (one_clean a is.1))
    words_clean (Rotate dim amount a) small is =
        and_from _ _ (clean_name i small) (and_from _ _ (clean_decimal dim (omega (arith, is.0.in_cube, ready.in_range.few_dimensions))) (and_from _ _ (clean_decimal amount (omega (arith, is.0.small))) (one_clean a is.1)))
    words_clean (Output a) small is = one_clean a is
