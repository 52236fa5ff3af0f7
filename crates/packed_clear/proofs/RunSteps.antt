-- A run that has done a number of steps.
use Rattle.std.proofs.Common.{◌≡◌, ℕ, suc, ◌+◌, ◌-◌, ◌<◌, ◌≤◌, true, cond, List, [], ◌∷◌, ◌++◌, length, take, drop, get_or, sym, ap, ap₂, ◌∙◌, subst, refl, arith}
use Rattle.std.specs.Prelude.{ℤ, Vec, Some, Result, IfOk}
use Rattle.std.specs.List.{All}
use Rattle.std.specs.declared.alloc.AllocError.{AllocError}
use Rattle.std.specs.declared.alloc.Global.{Global}
use Rattle.std.proofs.lemmas.List.{length-map, length_push, length-drop, length-take, map_push, drop_more, drop_all, get_or-map}
use Rattle.std.proofs.lemmas.List.Sums.{sum_by-drop_more}
use Rattle.std.proofs.lemmas.List.Elements.{All-push}
use Rattle.std.proofs.lemmas.Option.{slice_get-get_or}
use Rattle.std.proofs.lemmas.Result.{IfOk-weaker}
use Rattle.hyper_cube.specs.Torus.{Torus}
use Rattle.ext_field.specs.Element.{Extension}
use Rattle.slot_array.specs.Arrays.{Array, IsArray}
use Rattle.slot_laws.specs.Slots.{slots}
use Rattle.slot_program.specs.Kinds.{is_input}
use Rattle.slot_program.specs.Program.{input_count, left_after, value_of, values_of, meaning}
use Rattle.slot_program.specs.WellFormed.{IsInstruction, IsProgram}
use Rattle.slot_program.specs.declared.kinds.Kind.{Kind}
use Rattle.slot_program.specs.declared.kinds.Kind.TheVariants.{Input, Const, Add, Sub, Mul, Neg, AddC, MulC, Auto, Rotate, Output}
use Rattle.slot_program.specs.declared.kinds.Step.{Step}
use Rattle.packed_clear.specs.Packed.{IsPacked, Packs, IsOver, arrays_in}

-- its packed values and the inputs that are left go on to the values of the whole run
pub record IsUnderWay (f : Extension) (c : Torus) (steps : List Step) (inputs : List Array) (done : ℕ) (values : List (Vec ℤ Global)) (left : List Array) : Type 0 where
  pub count : length values ≡ done
  pub packed : All (λ (a : Vec ℤ Global). IsPacked f c a.items) values
  pub arrays : All (λ x. IsArray f c x) left
  pub enough : input_count (drop done steps) ≡ length left
  pub same : values_of f c (arrays_in f c values) left (drop done steps) ≡ values_of f c [] inputs steps

abbrev one_if_input : Step → ℕ
one_if_input step = cond (is_input step.kind) 1 0

module _ (f : Extension) (c : Torus) where
  over : (front : List Step) (n : ℕ) → length front ≡ n → (kind : Kind) → IsInstruction f c front kind → IsOver f c n kind
  over front n same Input obeys = tt
  over front n same (Const elems) obeys = obeys
  over front n same (Add a b) obeys = (omega (arith, same, obeys.0.earlier), omega (arith, same, obeys.1.earlier))
  over front n same (Sub a b) obeys = (omega (arith, same, obeys.0.earlier), omega (arith, same, obeys.1.earlier))
  over front n same (Mul a b) obeys = (omega (arith, same, obeys.0.earlier), omega (arith, same, obeys.1.earlier))
  over front n same (Neg a) obeys = omega (arith, same, obeys.earlier)
  over front n same (AddC a k) obeys = (omega (arith, same, obeys.0.earlier), omega (arith, same, obeys.1.earlier))
  over front n same (MulC a k) obeys = (omega (arith, same, obeys.0.earlier), omega (arith, same, obeys.1.earlier))
  over front n same (Auto k a) obeys = (obeys.0, omega (arith, same, obeys.1.earlier))
  over front n same (Rotate dim amount a) obeys = (obeys.0, omega (arith, same, obeys.1.earlier))
  over front n same (Output a) obeys = omega (arith, same, obeys.earlier)

  all_drop : (left : List Array) → All (λ x. IsArray f c x) left → All (λ x. IsArray f c x) (drop 1 left)
  all_drop [] given = given
  all_drop (x ∷ left) given = λ k d l. given (suc k) d (omega (arith, l))

  left_arrays : (kind : Kind) (left : List Array) → All (λ x. IsArray f c x) left → All (λ x. IsArray f c x) (left_after kind left)
  left_arrays Input left given = all_drop left given
  left_arrays (Const elems) left given = given
  left_arrays (Add a b) left given = given
  left_arrays (Sub a b) left given = given
  left_arrays (Mul a b) left given = given
  left_arrays (Neg a) left given = given
  left_arrays (AddC a k) left given = given
  left_arrays (MulC a k) left given = given
  left_arrays (Auto k a) left given = given
  left_arrays (Rotate dim amount a) left given = given
  left_arrays (Output a) left given = given

  -- an input takes one of the inputs that are left
  left_count : (kind : Kind) (n : ℕ) (left : List Array) → cond (is_input kind) 1 0 + n ≡ length left → n ≡ length (left_after kind left)
  left_count Input n left is = omega (arith, is, length-drop 1 left)
  left_count (Const elems) n left is = omega (arith, is)
  left_count (Add a b) n left is = omega (arith, is)
  left_count (Sub a b) n left is = omega (arith, is)
  left_count (Mul a b) n left is = omega (arith, is)
  left_count (Neg a) n left is = omega (arith, is)
  left_count (AddC a k) n left is = omega (arith, is)
  left_count (MulC a k) n left is = omega (arith, is)
  left_count (Auto k a) n left is = omega (arith, is)
  left_count (Rotate dim amount a) n left is = omega (arith, is)
  left_count (Output a) n left is = omega (arith, is)

  module _ (steps : List Step) (inputs : List Array) (well : IsProgram f c steps) where
    pub begins : length inputs ≡ input_count steps → All (λ x. IsArray f c x) inputs → IsUnderWay f c steps inputs 0 [] inputs
    begins enough arrays = record { count = refl; packed = λ k d l. absurd (omega (arith, l)); arrays = arrays; enough = sym enough; same = refl }

    module _ (done : ℕ) (values : List (Vec ℤ Global)) (left : List Array) (step : Step) (under : IsUnderWay f c steps inputs done values left) (inside : done < length steps) (is : step ≡ get_or steps done step) where
      rest_is : drop done steps ≡ step ∷ drop (done + 1) steps
      rest_is = drop_more steps done step inside ∙ ap (λ s. s ∷ drop (done + 1) steps) (sym is)

      counted : cond (is_input step.kind) 1 0 + input_count (drop (done + 1) steps) ≡ length left
      counted = ap (λ s. one_if_input s + input_count (drop (done + 1) steps)) is ∙ sym (sum_by-drop_more one_if_input steps done step inside) ∙ under.enough

      pub step_over : IsOver f c (length values) step.kind
      step_over =
          over (take done steps) (length values) (length-take done steps ∙ omega (arith, inside, under.count)) step.kind
          (well.instructions done step (slice_get-get_or steps done step inside ∙ ap Some (sym is)))

      pub some_left : is_input step.kind ≡ true → 0 < length left
      some_left one_is =
          let one : 1 + input_count (drop (done + 1) steps) ≡ length left = ap (λ b. cond b 1 0 + input_count (drop (done + 1) steps)) (sym one_is) ∙ counted in
          omega (arith, one)

      pub goes_on : (v : Vec ℤ Global) (after : List Array) → Packs f c (value_of f c (arrays_in f c values) left step.kind) v.items → after ≡ left_after step.kind left
          → IsUnderWay f c steps inputs (done + 1) (values ++ v ∷ []) after
      goes_on v after packs is_left =
          let Q : List Array → Type 0 = λ after. IsUnderWay f c steps inputs (done + 1) (values ++ v ∷ []) after in
          let view : Vec ℤ Global → Array = λ a. slots f c a.items in
          let rest = drop (done + 1) steps in
          let more : arrays_in f c (values ++ v ∷ []) ≡ arrays_in f c values ++ value_of f c (arrays_in f c values) left step.kind ∷ [] =
          map_push view values v ∙ ap (λ x. arrays_in f c values ++ x ∷ []) packs.value in
          subst Q (sym is_left) (record {
            count = length_push values v ∙ ap (λ n. n + 1) under.count;
            packed = All-push (λ (a : Vec ℤ Global). IsPacked f c a.items) values v under.packed packs.packed;
            arrays = left_arrays step.kind left under.arrays;
            enough = left_count step.kind (input_count rest) left counted;
            same = ap (λ xs. values_of f c xs (left_after step.kind left) rest) more
                ∙ sym (ap (values_of f c (arrays_in f c values) left) rest_is) ∙ under.same;
          })

    -- the last value packs the array of the output
    pub ends : (values : List (Vec ℤ Global)) (left : List Array) (last : ℕ) (a : Vec ℤ Global) → IsUnderWay f c steps inputs (length steps) values left → last ≡ length values - 1
        → a ≡ get_or values last a → slots f c a.items ≡ meaning f c steps inputs
    unfolding meaning
    ends values left last a under is_last is =
        let view : Vec ℤ Global → Array = λ a. slots f c a.items in
        let whole : arrays_in f c values ≡ values_of f c [] inputs steps = sym (ap (values_of f c (arrays_in f c values) left) (drop_all (length steps) steps (omega arith))) ∙ under.same in
        let long : length (values_of f c [] inputs steps) ≡ length values = sym (ap length whole) ∙ length-map values view in
        let inside : last < length values = omega (arith, is_last, under.count, well.some_step) in
        ap view is ∙ sym (get_or-map view values last a [] inside) ∙ ap₂ (λ xs i. get_or xs i []) whole (is_last ∙ ap (λ n. n - 1) (sym long))

    -- the same, over what the loop reads
    pub stepped : (done : ℕ) (values : List (Vec ℤ Global)) (left : List Array) (step : Step) (items : List Step) (seen pushed : List (Vec ℤ Global)) (v : Vec ℤ Global) (after : List Array)
        → IsUnderWay f c steps inputs done values left → items ≡ steps → seen ≡ values → done < length items → step ≡ get_or items done step
        → Packs f c (value_of f c (arrays_in f c seen) left step.kind) v.items → pushed ≡ values ++ v ∷ [] → after ≡ left_after step.kind left → IsUnderWay f c steps inputs (done + 1) pushed after
    stepped done values left step items seen pushed v after under all same inside is packs grown is_left =
        let Q : List (Vec ℤ Global) → Type 0 = λ values. IsUnderWay f c steps inputs (done + 1) values after in
        let here : step ≡ get_or steps done step = is ∙ ap (λ xs. get_or xs done step) all in
        let packs_here : Packs f c (value_of f c (arrays_in f c values) left step.kind) v.items = subst (λ vs. Packs f c (value_of f c (arrays_in f c vs) left step.kind) v.items) same packs in
        subst Q (sym grown) (goes_on done values left step under (omega (arith, inside, ap length all)) here v after packs_here is_left)

    pub output : (done : ℕ) (values : List (Vec ℤ Global)) (left : List Array) (items : List Step) (count : ℕ) (a : Vec ℤ Global) (xs : List ℤ) (r : Result Array AllocError)
        → IsUnderWay f c steps inputs done values left → items ≡ steps → length items ≤ done → done ≤ length items → count ≡ length values → a ≡ get_or values (count - 1) a → xs ≡ a.items
        → IfOk r (λ y. y ≡ slots f c xs) → IfOk r (λ y. y ≡ meaning f c steps inputs)
    output done values left items count a xs r under all low high long is same given =
        let Q : ℕ → Type 0 = λ done. IsUnderWay f c steps inputs done values left in
        let all_done : done ≡ length steps = omega (arith, low, high, ap length all) in
        let last : slots f c a.items ≡ meaning f c steps inputs = ends values left (count - 1) a (subst Q all_done under) (ap (λ n. n - 1) long) is in
        IfOk-weaker r (λ y. y ≡ slots f c xs) (λ y. y ≡ meaning f c steps inputs) (λ y is. is ∙ ap (slots f c) same ∙ last) given
