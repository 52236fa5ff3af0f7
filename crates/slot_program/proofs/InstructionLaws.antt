-- The instructions that are read obey the rules.
use Rattle.std.proofs.Common.{◌≡◌, ℕ, ◌<◌, ◌^◌, nat_lt, ◌&&◌, Bool, false, cond, List, [], ◌∷◌, length, Option, Some, None, bytes_eq, codes}
use Rattle.std.proofs.lemmas.Bool.{ltb-true, and_parts}
use Rattle.line_text.specs.Numbers.{number_of}
use Rattle.algebra.specs.Divisor.{is_unit}
use Rattle.hyper_cube.specs.Torus.{Torus, slot_count}
use Rattle.ext_field.specs.Element.{Extension}
use Rattle.slot_program.specs.Kinds.{is_constant}
use Rattle.slot_program.specs.Names.{Naming}
use Rattle.slot_program.specs.Elements.{list_of}
use Rattle.slot_program.specs.Text.{small_number_of, has_output, value_at, constant_at, value_in, values_in, value_and_constant_in, auto_in, rotate_in, operation_in, new_name, assignment_in, input_in, output_in, const_in, declaration_in, instruction_in}
use Rattle.slot_program.specs.WellFormed.{IsValue, IsConstant, IsInstruction}
use Rattle.slot_program.specs.declared.kinds.Kind.{Kind}
use Rattle.slot_program.specs.declared.kinds.Kind.TheVariants.{Input, Const, Add, Sub, Mul, Neg, AddC, MulC, Auto, Rotate, Output}
use Rattle.slot_program.specs.declared.kinds.Step.{Step}
use Rattle.slot_program.specs.declared.instructions.Made.{Made}
use Rattle.slot_program.proofs.Makes.{Makes, makes_none, makes_some, makes_if, makes_map, makes_bind}
use Rattle.slot_program.proofs.ElementLaws.{list_is}

-- names go with steps that are there
abbrev pub NamesSteps : Naming → List Step → Type 0
NamesSteps names steps = (word : List ℕ) (n : ℕ) → names word ≡ Some n → n < length steps

-- an instruction that obeys the rules, and stands behind no output
abbrev pub IsNext : Extension → Torus → List Step → Made → Type 0
IsNext f cube steps made = IsInstruction f cube steps made.kind × (has_output steps ≡ false)

module _ (names : Naming) (steps : List Step) (known : NamesSteps names steps) where
  value_is : (word : List ℕ) → Makes (IsValue steps) (value_at names steps word)
  unfolding value_at
  value_is word =
      makes_bind (IsValue steps) (names word) _ (λ n is.
      makes_if (IsValue steps) (is_constant steps n) None (Some n)
      (λ yes. makes_none (IsValue steps))
      (λ no. makes_some (IsValue steps) n (record { earlier = known word n is; no_constant = no })))

  constant_is : (word : List ℕ) → Makes (IsConstant steps) (constant_at names steps word)
  unfolding constant_at
  constant_is word =
      makes_bind (IsConstant steps) (names word) _ (λ n is.
      makes_if (IsConstant steps) (is_constant steps n) (Some n) None
      (λ yes. makes_some (IsConstant steps) n (record { earlier = known word n is; constant = yes }))
      (λ no. makes_none (IsConstant steps)))

  one_is : (words : List (List ℕ)) → Makes (IsValue steps) (value_in names steps words)
  unfolding value_in
  one_is [] = makes_none (IsValue steps)
  one_is (a ∷ []) = value_is a
  one_is (a ∷ b ∷ words) = makes_none (IsValue steps)

  abbrev Two : ℕ × ℕ → Type 0
  Two v = IsValue steps v.0 × IsValue steps v.1

  two_are : (words : List (List ℕ)) → Makes Two (values_in names steps words)
  unfolding values_in
  two_are [] = makes_none Two
  two_are (a ∷ []) = makes_none Two
  two_are (a ∷ b ∷ []) =
      makes_bind Two (value_at names steps a) _ (λ i is.
      makes_bind Two (value_at names steps b) _ (λ j js. makes_some Two (i, j) (value_is a i is, value_is b j js)))
  two_are (a ∷ b ∷ c ∷ words) = makes_none Two

  abbrev Mixed : ℕ × ℕ → Type 0
  Mixed v = IsValue steps v.0 × IsConstant steps v.1

  mixed_are : (words : List (List ℕ)) → Makes Mixed (value_and_constant_in names steps words)
  unfolding value_and_constant_in
  mixed_are [] = makes_none Mixed
  mixed_are (a ∷ []) = makes_none Mixed
  mixed_are (a ∷ b ∷ []) =
      makes_bind Mixed (value_at names steps a) _ (λ i is.
      makes_bind Mixed (constant_at names steps b) _ (λ j js. makes_some Mixed (i, j) (value_is a i is, constant_is b j js)))
  mixed_are (a ∷ b ∷ c ∷ words) = makes_none Mixed

  module _ (f : Extension) (cube : Torus) where
    abbrev Good : Kind → Type 0
    Good kind = IsInstruction f cube steps kind

    auto_is : (words : List (List ℕ)) → Makes Good (auto_in names steps cube words)
    unfolding auto_in
    auto_is [] = makes_none Good
    auto_is (k ∷ []) = makes_none Good
    auto_is (k ∷ a ∷ []) =
        makes_bind Good (number_of k) _ (λ unit read.
        makes_bind Good (value_at names steps a) _ (λ value is.
        makes_if Good (nat_lt 0 unit && nat_lt unit cube.m && is_unit cube.m unit) (Some (Auto unit value)) None
        (λ yes.
        let tests = and_parts _ _ yes in
        let range = and_parts _ _ tests.0 in
        makes_some Good (Auto unit value) (record { low = ltb-true _ _ range.0; high = ltb-true _ _ range.1; unit = tests.1 }, value_is a value is))
        (λ no. makes_none Good)))
    auto_is (k ∷ a ∷ b ∷ words) = makes_none Good

    small_is : (word : List ℕ) → Makes (λ n. n < 2 ^ 32) (small_number_of word)
    unfolding small_number_of
    small_is word =
        makes_bind (λ n. n < 2 ^ 32) (number_of word) _ (λ n read.
        makes_if (λ n. n < 2 ^ 32) (nat_lt n (2 ^ 32)) (Some n) None (λ yes. makes_some (λ n. n < 2 ^ 32) n (ltb-true _ _ yes)) (λ no. makes_none (λ n. n < 2 ^ 32)))

    rotate_is : (words : List (List ℕ)) → Makes Good (rotate_in names steps cube words)
    unfolding rotate_in
    rotate_is [] = makes_none Good
    rotate_is (i ∷ []) = makes_none Good
    rotate_is (i ∷ v ∷ []) = makes_none Good
    rotate_is (i ∷ v ∷ a ∷ []) =
        makes_bind Good (number_of i) _ (λ dim read.
        makes_bind Good (small_number_of v) _ (λ amount small.
        makes_bind Good (value_at names steps a) _ (λ value is.
        makes_if Good (nat_lt dim (length cube.dimensions)) (Some (Rotate dim amount value)) None
        (λ yes. makes_some Good (Rotate dim amount value) (record { in_cube = ltb-true _ _ yes; small = small_is v amount small }, value_is a value is))
        (λ no. makes_none Good))))
    rotate_is (i ∷ v ∷ a ∷ b ∷ words) = makes_none Good

    when : (b : Bool) (o p : Option Kind) → Makes Good o → Makes Good p → Makes Good (cond b o p)
    when b o p first second = makes_if Good b o p (λ yes. first) (λ no. second)

    operation_is : (words : List (List ℕ)) → Makes Good (operation_in names steps cube words)
    unfolding operation_in
    operation_is [] = makes_none Good
    operation_is (word ∷ words) =
        when (bytes_eq word (codes "add")) _ _ (makes_map Good (λ v. Add v.0 v.1) (values_in names steps words) (two_are words))
        (when (bytes_eq word (codes "sub")) _ _ (makes_map Good (λ v. Sub v.0 v.1) (values_in names steps words) (two_are words))
        (when (bytes_eq word (codes "mul")) _ _ (makes_map Good (λ v. Mul v.0 v.1) (values_in names steps words) (two_are words))
        (when (bytes_eq word (codes "neg")) _ _ (makes_map Good (λ a. Neg a) (value_in names steps words) (one_is words))
        (when (bytes_eq word (codes "addc")) _ _ (makes_map Good (λ v. AddC v.0 v.1) (value_and_constant_in names steps words) (mixed_are words))
        (when (bytes_eq word (codes "mulc")) _ _ (makes_map Good (λ v. MulC v.0 v.1) (value_and_constant_in names steps words) (mixed_are words))
        (when (bytes_eq word (codes "auto")) _ _ (auto_is words)
        (when (bytes_eq word (codes "rotate")) _ _ (rotate_is words) (makes_none Good))))))))

    abbrev GoodMade : Made → Type 0
    GoodMade made = Good made.kind

    assignment_is : (y : List ℕ) (words : List (List ℕ)) → Makes GoodMade (assignment_in names steps cube y words)
    unfolding assignment_in
    assignment_is y words =
        makes_bind GoodMade (new_name names steps y) _ (λ name is.
        makes_bind GoodMade (operation_in names steps cube words) _ (λ kind read. makes_some GoodMade (record { name = Some name; kind = kind }) (operation_is words kind read)))

    input_is : (words : List (List ℕ)) → Makes GoodMade (input_in names steps words)
    unfolding input_in
    input_is [] = makes_none GoodMade
    input_is (x ∷ []) = makes_bind GoodMade (new_name names steps x) _ (λ name is. makes_some GoodMade (record { name = Some name; kind = Input }) tt)
    input_is (x ∷ y ∷ words) = makes_none GoodMade

    output_is : (words : List (List ℕ)) → Makes GoodMade (output_in names steps words)
    unfolding output_in
    output_is words = makes_bind GoodMade (value_in names steps words) _ (λ a read. makes_some GoodMade (record { name = None; kind = Output a }) (one_is words a read))

    const_is : (words : List (List ℕ)) → Makes GoodMade (const_in names steps f cube words)
    unfolding const_in
    const_is [] = makes_none GoodMade
    const_is (x ∷ items) =
        makes_bind GoodMade (new_name names steps x) _ (λ name is.
        makes_bind GoodMade (list_of f (slot_count cube) items) _ (λ elements read. makes_some GoodMade (record { name = Some name; kind = Const elements }) (list_is f cube items elements read)))

    declaration_is : (word : List ℕ) (words : List (List ℕ)) → Makes GoodMade (declaration_in names steps f cube word words)
    unfolding declaration_in
    declaration_is word words =
        makes_if GoodMade (bytes_eq word (codes "input")) _ _ (λ yes. input_is words)
        (λ no. makes_if GoodMade (bytes_eq word (codes "const")) _ _ (λ yes. const_is words)
        (λ no. makes_if GoodMade (bytes_eq word (codes "output")) _ _ (λ yes. output_is words) (λ no. makes_none GoodMade)))

    -- what is read is such an instruction
    pub instruction_is : (words : List (List ℕ)) → Makes (IsNext f cube steps) (instruction_in names steps f cube words)
    unfolding instruction_in
    instruction_is [] = makes_none (IsNext f cube steps)
    instruction_is (word ∷ []) = makes_none (IsNext f cube steps)
    instruction_is (word ∷ sign ∷ words) =
        makes_if (IsNext f cube steps) (has_output steps) _ _ (λ yes. makes_none (IsNext f cube steps))
        (λ free. makes_if (IsNext f cube steps) (bytes_eq sign (codes "=")) _ _
        (λ yes made is. (assignment_is word words made is, free))
        (λ no made is. (declaration_is word (sign ∷ words) made is, free)))
