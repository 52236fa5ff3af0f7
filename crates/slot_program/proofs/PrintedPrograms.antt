-- A printed program is read again.
use Rattle.std.proofs.Common.{◌≡◌, ℕ, zero, suc, ◌+◌, ◌-◌, ◌<◌, ◌^◌, eqb, nat_lt, Bool, true, false, List, [], ◌∷◌, ◌++◌, length, take, slice_get, Option, Some, None, Result, Ok, append_assoc, refl, sym, ap, ◌∙◌, subst, arith}
use Rattle.std.specs.List.{list_all}
use Rattle.std.specs.Option.{option_map_or}
use Rattle.std.proofs.lemmas.Bool.{and_from, and_parts, lt-ltb, ltb-true, eqb-true}
use Rattle.std.proofs.lemmas.Bool.Decides.{nat_tests}
use Rattle.std.proofs.lemmas.List.{length_push, append-nil}
use Rattle.algebra.specs.Poly.{all_held}
use Rattle.line_text.specs.Lines.{is_plain_line}
use Rattle.line_text.specs.Words.{words_of}
use Rattle.line_text.proofs.RoundTrips.{printed_lines_are_read, printed_words_are_read}
use Rattle.hyper_cube.specs.Torus.{Torus, slot_count}
use Rattle.hyper_cube.specs.Checks.{IsCube}
use Rattle.hyper_cube.proofs.Axed.{few_slots}
use Rattle.ext_field.specs.Element.{Extension, IsExtension, degree}
use Rattle.slot_program.specs.Kinds.{is_const, is_constant, is_output}
use Rattle.slot_program.specs.Names.{Naming, no_names}
use Rattle.slot_program.specs.Text.{is_skipped, has_output, instruction_in, named_by, steps_from, program_of}
use Rattle.slot_program.specs.WellFormed.{IsValue, IsConstant, IsInstruction, IsProgram}
use Rattle.slot_program.specs.Printed.{words_for, line_for, lines_from, printed, renumbered, ReadsPrintedPrograms}
use Rattle.slot_program.specs.declared.kinds.Kind.{Kind}
use Rattle.slot_program.specs.declared.kinds.Kind.TheVariants.{Input, Const, Add, Sub, Mul, Neg, AddC, MulC, Auto, Rotate, Output}
use Rattle.slot_program.specs.declared.kinds.Step.{Step}
use Rattle.slot_program.specs.declared.instructions.Made.{Made}
use Rattle.slot_program.proofs.Printable.{is_clean, clean_words, clean_line}
use Rattle.slot_program.proofs.PrintedNames.{numbered, numbered_at, new_read}
use Rattle.slot_program.proofs.PrintedInstructions.{AreInRange, IsReady, made_for, instruction_read, words_clean}

-- new numbers of lines change neither the length nor what is a constant or an output
renumbered_length : (n : ℕ) (steps : List Step) → length (renumbered n steps) ≡ length steps
renumbered_length n [] = refl
renumbered_length n (step ∷ steps) = ap suc (renumbered_length (suc n) steps)

renumbered_at : (test : Kind → Bool) (n : ℕ) (steps : List Step) (i : ℕ)
    → option_map_or (λ (step : Step). test step.kind) (slice_get (renumbered n steps) i) false ≡ option_map_or (λ (step : Step). test step.kind) (slice_get steps i) false
renumbered_at test n [] i = refl
renumbered_at test n (step ∷ steps) zero = refl
renumbered_at test n (step ∷ steps) (suc i) = renumbered_at test (suc n) steps i

renumbered_constant : (n : ℕ) (steps : List Step) (a : ℕ) → is_constant (renumbered n steps) a ≡ is_constant steps a
unfolding is_constant
renumbered_constant n steps a = renumbered_at is_const n steps a

renumbered_output : (n : ℕ) (steps : List Step) → has_output (renumbered n steps) ≡ has_output steps
unfolding has_output
renumbered_output n steps = rw (renumbered_length n steps) (renumbered_at is_output n steps (length steps - 1))

renumbered_push : (n : ℕ) (steps : List Step) (step : Step) → renumbered n (steps ++ step ∷ []) ≡ renumbered n steps ++ record { line = n + length steps; kind = step.kind } ∷ []
renumbered_push n [] step = ap (λ l. record { line = l; kind = step.kind } ∷ []) (omega arith)
renumbered_push n (first ∷ steps) step =
    ap (λ rest. record { line = n; kind = first.kind } ∷ rest) (renumbered_push (suc n) steps step
    ∙ ap (λ l. renumbered (suc n) steps ++ record { line = l; kind = step.kind } ∷ []) (omega arith))

module _ (n : ℕ) (steps : List Step) where
  value_stays : (a : ℕ) → IsValue steps a → IsValue (renumbered n steps) a
  value_stays a is = record { earlier = rw (renumbered_length n steps) is.earlier; no_constant = renumbered_constant n steps a ∙ is.no_constant }

  constant_stays : (c : ℕ) → IsConstant steps c → IsConstant (renumbered n steps) c
  constant_stays c is = record { earlier = rw (renumbered_length n steps) is.earlier; constant = renumbered_constant n steps c ∙ is.constant }

  instruction_stays : (f : Extension) (cube : Torus) (kind : Kind) → IsInstruction f cube steps kind → IsInstruction f cube (renumbered n steps) kind
  instruction_stays f cube Input is = tt
  instruction_stays f cube (Const elements) is = is
  instruction_stays f cube (Add a b) is = (value_stays a is.0, value_stays b is.1)
  instruction_stays f cube (Sub a b) is = (value_stays a is.0, value_stays b is.1)
  instruction_stays f cube (Mul a b) is = (value_stays a is.0, value_stays b is.1)
  instruction_stays f cube (Neg a) is = value_stays a is
  instruction_stays f cube (AddC a c) is = (value_stays a is.0, constant_stays c is.1)
  instruction_stays f cube (MulC a c) is = (value_stays a is.0, constant_stays c is.1)
  instruction_stays f cube (Auto k a) is = (is.0, value_stays a is.1)
  instruction_stays f cube (Rotate dim amount a) is = (is.0, value_stays a is.1)
  instruction_stays f cube (Output a) is = value_stays a is

-- no printed line is skipped
not_skipped : (i : ℕ) (kind : Kind) → is_skipped (words_for i kind) ≡ false
not_skipped i Input = refl
not_skipped i (Const elements) = refl
not_skipped i (Add a b) = refl
not_skipped i (Sub a b) = refl
not_skipped i (Mul a b) = refl
not_skipped i (Neg a) = refl
not_skipped i (AddC a c) = refl
not_skipped i (MulC a c) = refl
not_skipped i (Auto k a) = refl
not_skipped i (Rotate dim amount a) = refl
not_skipped i (Output a) = refl

-- an instruction that is no output defines the next name
names_on : (i : ℕ) (kind : Kind) → is_output kind ≡ false → named_by (numbered i) (made_for i kind).name i ≡ numbered (suc i)
names_on i Input fails = refl
names_on i (Const elements) fails = refl
names_on i (Add a b) fails = refl
names_on i (Sub a b) fails = refl
names_on i (Mul a b) fails = refl
names_on i (Neg a) fails = refl
names_on i (AddC a c) fails = refl
names_on i (MulC a c) fails = refl
names_on i (Auto k a) fails = refl
names_on i (Rotate dim amount a) fails = refl
names_on i (Output a) fails = absurd (cc)

made_kind : (i : ℕ) (kind : Kind) → (made_for i kind).kind ≡ kind
made_kind i Input = refl
made_kind i (Const elements) = refl
made_kind i (Add a b) = refl
made_kind i (Sub a b) = refl
made_kind i (Mul a b) = refl
made_kind i (Neg a) = refl
made_kind i (AddC a c) = refl
made_kind i (MulC a c) = refl
made_kind i (Auto k a) = refl
made_kind i (Rotate dim amount a) = refl
made_kind i (Output a) = refl

-- the element behind some others
pub get_middle : {X : Type 0} (xs ys : List X) (x : X) → slice_get (xs ++ x ∷ ys) (length xs) ≡ Some x
get_middle [] ys x = refl
get_middle (z ∷ xs) ys x = get_middle xs ys x

pub take_middle : {X : Type 0} (xs ys : List X) → take (length xs) (xs ++ ys) ≡ xs
take_middle [] ys = refl
take_middle (x ∷ xs) ys = ap (λ rest. x ∷ rest) (take_middle xs ys)

get_front : {X : Type 0} (xs ys : List X) (i : ℕ) (x : X) → slice_get xs i ≡ Some x → slice_get (xs ++ ys) i ≡ Some x
get_front [] ys i x is = absurd (cc)
get_front (z ∷ xs) ys zero x is = is
get_front (z ∷ xs) ys (suc i) x is = get_front xs ys i x is

length_more : {X : Type 0} (xs ys : List X) (x : X) → length (xs ++ x ∷ ys) ≡ suc (length xs + length ys)
length_more [] ys x = omega arith
length_more (z ∷ xs) ys x = ap suc (length_more xs ys x) ∙ omega arith

suc_is : (n : ℕ) → suc n ≡ 1 + n
suc_is n = omega arith

one_more : (n : ℕ) → n + 1 ≡ suc n
one_more n = omega arith

step_goes : (f : Extension) (cube : Torus) (names : Naming) (steps : List Step) (n : ℕ) (line : List ℕ) (lines : List (List ℕ)) (made : Made)
    → nat_lt 100000 n ≡ false → is_skipped (words_of line) ≡ false → instruction_in names steps f cube (words_of line) ≡ Some made
    → steps_from f cube names steps n (line ∷ lines) ≡ steps_from f cube (named_by names made.name (length steps)) (steps ++ record { line = n; kind = made.kind } ∷ []) (n + 1) lines
step_goes f cube names steps n line lines made in_time seen read = rw (in_time, seen, read) refl

not_late : (n : ℕ) → n < 100000 → nat_lt 100000 (suc n) ≡ false
not_late n few = grind (arith, nat_tests)

get_last : {X : Type 0} (x : X) (xs : List X) → (y : X) × (slice_get (x ∷ xs) (length xs) ≡ Some y)
get_last x [] = (x, refl)
get_last x (z ∷ xs) = get_last z xs

module _ (f : Extension) (cube : Torus) (in_range : AreInRange f cube) where
  -- the steps that are done, followed by those that are left, are a program
  module _ (done rest : List Step) (step : Step) (is : IsProgram f cube (done ++ step ∷ rest)) where
    obeys : IsInstruction f cube done step.kind
    obeys =
        let P : List Step → Type 0 = λ front. IsInstruction f cube front step.kind in
        subst P (take_middle done (step ∷ rest)) (is.instructions (length done) step (get_middle done rest step))

    few_done : length done < 100000
    few_done = omega (arith, is.few, length_more done rest step)

    not_last : (done : List Step) (all : ℕ) (last : Step) → all ≡ suc (length done + length rest) → length done - 1 ≡ all - 1 → slice_get done (length done - 1) ≡ Some last → ⊥
    not_last [] all last long there at = cc
    not_last (x ∷ done) all last long there at = omega arith

    not_output : (last : Step) → slice_get done (length done - 1) ≡ Some last → is_output last.kind ≡ false
    not_output last at = test (is_output last.kind) refl
      where
        test : (b : Bool) → is_output last.kind ≡ b → b ≡ false
        test false fails = refl
        test true passes =
            let there = (is.last (length done - 1) last (get_front done (step ∷ rest) (length done - 1) last at)).0 passes in
            absurd (not_last done (length (done ++ step ∷ rest)) last (length_more done rest step) there at)

    still_free : has_output done ≡ false
    unfolding has_output
    still_free = by (slice_get done (length done - 1)) refl
      where
        by : (o : Option Step) → slice_get done (length done - 1) ≡ o → option_map_or (λ (step : Step). is_output step.kind) o false ≡ false
        by None at = refl
        by (Some last) at = not_output last at

    pub inner_step : 0 < length rest → is_output step.kind ≡ false
    inner_step some = test (is_output step.kind) refl
      where
        test : (b : Bool) → is_output step.kind ≡ b → b ≡ false
        test false fails = refl
        test true passes = absurd (omega (arith, (is.last (length done) step (get_middle done rest step)).0 passes, length_more done rest step))

    ready : IsReady f cube (numbered (length done)) (renumbered 1 done) (length done)
    ready = record {
      free = renumbered_output 1 done ∙ still_free;
      fresh = new_read (length done) (renumbered 1 done) (omega (arith, few_done));
      known = λ a below. numbered_at (length done) a (rw (renumbered_length 1 done) at below) (omega (arith, few_done));
      few = rw (renumbered_length 1 done) (omega (arith, few_done));
      in_range = in_range;
    }

    instruction : IsInstruction f cube (renumbered 1 done) step.kind
    instruction = instruction_stays 1 done f cube step.kind obeys

    clean : list_all is_clean (words_for (length done) step.kind) ≡ true
    clean = words_clean f cube (numbered (length done)) (renumbered 1 done) (length done) ready step.kind (omega (arith, few_done)) instruction

    words : words_of (line_for (length done) step.kind) ≡ words_for (length done) step.kind
    unfolding line_for
    words = printed_words_are_read (words_for (length done) step.kind) (clean_words (words_for (length done) step.kind) clean)

    pub plain : is_plain_line (line_for (length done) step.kind) ≡ true
    unfolding line_for
    plain = clean_line (words_for (length done) step.kind) clean

    pub one_step : (lines : List (List ℕ))
        → steps_from f cube (numbered (length done)) (renumbered 1 done) (suc (length done)) (line_for (length done) step.kind ∷ lines)
        ≡ steps_from f cube (named_by (numbered (length done)) (made_for (length done) step.kind).name (length done)) (renumbered 1 (done ++ step ∷ [])) (suc (suc (length done))) lines
    one_step lines =
        let i = length done in
        let made : Made = made_for (length done) step.kind in
        let in_time : nat_lt 100000 (suc (length done)) ≡ false = not_late (length done) few_done in
        let seen : is_skipped (words_of (line_for (length done) step.kind)) ≡ false = ap is_skipped words ∙ not_skipped (length done) step.kind in
        let read : instruction_in (numbered (length done)) (renumbered 1 done) f cube (words_of (line_for (length done) step.kind)) ≡ Some made =
        ap (instruction_in (numbered (length done)) (renumbered 1 done) f cube) words
        ∙ instruction_read f cube (numbered (length done)) (renumbered 1 done) (length done) ready step.kind instruction in
        let go : Naming → List Step → ℕ → Result (List Step) ℕ = λ names steps n. steps_from f cube names steps n lines in
        let pushed : renumbered 1 done ++ record { line = suc (length done); kind = made.kind } ∷ [] ≡ renumbered 1 (done ++ step ∷ []) =
        ap (λ k. renumbered 1 done ++ record { line = suc (length done); kind = k } ∷ []) (made_kind (length done) step.kind)
        ∙ ap (λ l. renumbered 1 done ++ record { line = l; kind = step.kind } ∷ []) (suc_is (length done))
        ∙ sym (renumbered_push 1 done step) in
        step_goes f cube (numbered (length done)) (renumbered 1 done) (suc (length done)) (line_for (length done) step.kind) lines made in_time seen read
        ∙ ap (λ k. go (named_by (numbered (length done)) made.name k) (renumbered 1 done ++ record { line = suc (length done); kind = made.kind } ∷ []) (suc (length done) + 1)) (renumbered_length 1 done)
        ∙ ap (λ steps. go (named_by (numbered (length done)) made.name (length done)) steps (suc (length done) + 1)) pushed
        ∙ ap (λ n. go (named_by (numbered (length done)) made.name (length done)) (renumbered 1 (done ++ step ∷ [])) n) (one_more (suc (length done)))

  ended : (steps : List Step) → IsProgram f cube steps → has_output steps ≡ true
  unfolding has_output
  ended [] is = absurd (omega (arith, is.some_step))
  ended (first ∷ steps) is =
      let place : length (first ∷ steps) - 1 ≡ length steps = omega arith in
      let last = get_last first steps in
      let out : is_output last.0.kind ≡ true = (is.last (length (first ∷ steps) - 1) last.0 (rw place last.1)).1 refl in
      rw (place, last.1) out

  -- the lines of the steps that are left are read as these steps
  reads_on : (done rest : List Step) (names : Naming) → IsProgram f cube (done ++ rest) → (0 < length rest → names ≡ numbered (length done))
      → steps_from f cube names (renumbered 1 done) (suc (length done)) (lines_from (length done) rest) ≡ Ok (renumbered 1 (done ++ rest))
  reads_on done [] names is known =
      let whole : done ++ [] ≡ done = append-nil done in
      let P : List Step → Type 0 = λ steps. IsProgram f cube steps in
      rw (renumbered_output 1 done, ended done (subst P whole is), whole) refl
  reads_on done (step ∷ rest) names is known =
      let i = length done in
      let longer : length (done ++ step ∷ []) ≡ suc (length done) = length_push done step ∙ omega arith in
      let joined : (done ++ step ∷ []) ++ rest ≡ done ++ step ∷ rest = append_assoc done (step ∷ []) rest in
      let P : List Step → Type 0 = λ steps. IsProgram f cube steps in
      let next : Naming = named_by (numbered (length done)) (made_for (length done) step.kind).name (length done) in
      let known_next : 0 < length rest → next ≡ numbered (length (done ++ step ∷ [])) =
      λ some. names_on (length done) step.kind (inner_step done rest step is some) ∙ ap numbered (sym longer) in
      let onward = reads_on (done ++ step ∷ []) rest next (subst P (sym joined) is) known_next in
      let first : names ≡ numbered (length done) = known (omega arith) in
      let all : List Step = done ++ step ∷ rest in
      let At : ℕ → Type 0 = λ k. steps_from f cube next (renumbered 1 (done ++ step ∷ [])) (suc k) (lines_from k rest) ≡ Ok (renumbered 1 ((done ++ step ∷ []) ++ rest)) in
      let Of : List Step → Type 0 = λ steps. steps_from f cube next (renumbered 1 (done ++ step ∷ [])) (suc (suc (length done))) (lines_from (suc (length done)) rest) ≡ Ok (renumbered 1 steps) in
      let After : Naming → Type 0 = λ known. steps_from f cube known (renumbered 1 done) (suc (length done)) (line_for (length done) step.kind ∷ lines_from (suc (length done)) rest) ≡ Ok (renumbered 1 all) in
      subst After (sym first) (one_step done rest step is (lines_from (suc (length done)) rest) ∙ subst Of joined (subst At longer onward))

  lines_plain : (done rest : List Step) → IsProgram f cube (done ++ rest) → list_all is_plain_line (lines_from (length done) rest) ≡ true
  lines_plain done [] is = refl
  lines_plain done (step ∷ rest) is =
      let longer : length (done ++ step ∷ []) ≡ suc (length done) = length_push done step ∙ omega arith in
      let joined : (done ++ step ∷ []) ++ rest ≡ done ++ step ∷ rest = append_assoc done (step ∷ []) rest in
      let P : List Step → Type 0 = λ steps. IsProgram f cube steps in
      let onward = lines_plain (done ++ step ∷ []) rest (subst P (sym joined) is) in
      and_from (is_plain_line (line_for (length done) step.kind)) _ (plain done rest step is) (rw longer at onward)

  reads_printed : (steps : List Step) → IsProgram f cube steps → program_of f cube (printed steps) ≡ Ok (renumbered 1 steps)
  unfolding program_of printed
  reads_printed steps is = rw (printed_lines_are_read (lines_from 0 steps) (lines_plain [] steps is)) (reads_on [] steps no_names is (λ some. refl))

small_numbers : (p : ℕ) (numbers : List ℕ) → p < 2 ^ 64 → all_held (λ c. nat_lt c p) numbers ≡ true → list_all (λ c. nat_lt c (2 ^ 64)) numbers ≡ true
small_numbers p [] few all = refl
small_numbers p (c ∷ numbers) few all =
    let parts = and_parts (nat_lt c p) (all_held (λ c. nat_lt c p) numbers) all in
    and_from (nat_lt c (2 ^ 64)) _ (lt-ltb c (2 ^ 64) (omega (arith, ltb-true c p parts.0))) (small_numbers p numbers few parts.1)

ranges : (f : Extension) (cube : Torus) → IsExtension f → IsCube cube → AreInRange f cube
ranges f cube ext is = record {
  m_high = omega (arith, is.shape.m_high);
  few_dimensions = omega (arith, is.shape.few);
  few_slots = omega (arith, few_slots cube.m cube.d (slot_count cube) is.shape.m_high is.shape.d_low is.counted);
  printable = λ element held.
      let parts = and_parts (eqb (length element) (degree f)) (all_held (λ c. nat_lt c f.p) element) held in
      record {
        element_is = held;
        some_number = omega (arith, eqb-true (length element) (degree f) parts.0, ext.factor.degree_low);
        small_numbers = small_numbers f.p element (omega (arith, ext.factor.p_high)) parts.1;
      };
}

pub printed_programs_are_read : ReadsPrintedPrograms
printed_programs_are_read f cube steps ext is well = reads_printed f cube (ranges f cube ext is) steps well
