-- The steps that are read are a well-formed program.
use Rattle.std.proofs.Common.{◌≡◌, ℕ, zero, suc, ◌+◌, ◌-◌, ◌<◌, ◌≤◌, ◌⊎◌, inl, inr, nat_lt, Bool, true, false, cond, List, [], ◌∷◌, ◌++◌, length, take, slice_get, Option, Some, None, Result, Ok, Err, bytes_eq, refl, sym, ap, ◌∙◌, subst, arith}
use Rattle.std.specs.Option.{option_map_or}
use Rattle.std.proofs.lemmas.Bool.Decides.{nat_tests}
use Rattle.std.proofs.lemmas.List.{length_push, take-append-le}
use Rattle.line_text.specs.Lines.{lines_of}
use Rattle.line_text.specs.Words.{words_of}
use Rattle.hyper_cube.specs.Torus.{Torus}
use Rattle.ext_field.specs.Element.{Extension}
use Rattle.slot_program.specs.Kinds.{is_output}
use Rattle.slot_program.specs.Names.{Naming, no_names, named}
use Rattle.slot_program.specs.Text.{is_skipped, has_output, instruction_in, named_by, steps_from, program_of}
use Rattle.slot_program.specs.WellFormed.{IsInstruction, IsProgram}
use Rattle.slot_program.specs.declared.kinds.Step.{Step}
use Rattle.slot_program.specs.declared.instructions.Made.{Made}
use Rattle.slot_program.proofs.InstructionLaws.{NamesSteps, IsNext, instruction_is}

-- an element of a longer list is one of the shorter, or the last
get_push : {X : Type 0} (xs : List X) (x y : X) (i : ℕ) → slice_get (xs ++ x ∷ []) i ≡ Some y
    → ((i < length xs) × (slice_get xs i ≡ Some y)) ⊎ ((i ≡ length xs) × (x ≡ y))
get_push [] x y zero is = inr (refl, cc)
get_push [] x y (suc i) is = absurd (cc)
get_push (z ∷ xs) x y zero is = inl (omega arith, is)
get_push (z ∷ xs) x y (suc i) is =
    elim (get_push xs x y i is) [
      | inl h ↦ inl (omega (arith, h.0), h.1)
      | inr h ↦ inr (ap suc h.0, h.1)
    ]

nothing : (i : ℕ) (step : Step) → slice_get [] i ≡ Some step → ⊥
nothing zero step is = cc
nothing (suc i) step is = cc

some_output : (steps : List Step) → has_output steps ≡ true → 0 < length steps
unfolding has_output
some_output [] is = absurd (cc)
some_output (step ∷ steps) is = omega arith

last_output : (steps : List Step) (i : ℕ) (step : Step) → has_output steps ≡ true → slice_get steps i ≡ Some step → i ≡ length steps - 1 → is_output step.kind ≡ true
unfolding has_output
last_output steps i step is there at =
    let last : slice_get steps (length steps - 1) ≡ Some step = rw (← at) there in
    rw last at is

not_above : (n : ℕ) → nat_lt 100000 n ≡ false → n ≤ 100000
not_above n is = grind (arith, nat_tests)

module _ (f : Extension) (cube : Torus) where
  -- what is known of the steps that have been read
  record AreRead (names : Naming) (steps : List Step) : Type 0 where
    known : NamesSteps names steps
    instructions : (i : ℕ) (step : Step) → slice_get steps i ≡ Some step → IsInstruction f cube (take i steps) step.kind
    outputs : (i : ℕ) (step : Step) → slice_get steps i ≡ Some step → is_output step.kind ≡ true → i ≡ length steps - 1

  named_known : (names : Naming) (steps more : List Step) (name : Option (List ℕ)) → length more ≡ suc (length steps) → NamesSteps names steps → NamesSteps (named_by names name (length steps)) more
  unfolding named
  named_known names steps more None long known word n is = omega (arith, known word n is)
  named_known names steps more (Some name) long known word n is = by (bytes_eq word name) is
    where
      by : (b : Bool) → cond b (Some (length steps)) (names word) ≡ Some n → n < length more
      by true same = let e : length steps ≡ n = cc in omega arith
      by false old = omega (arith, known word n old)

  no_output : (names : Naming) (steps : List Step) → AreRead names steps → has_output steps ≡ false
      → (i : ℕ) (step : Step) → slice_get steps i ≡ Some step → is_output step.kind ≡ true → ⊥
  unfolding has_output
  no_output names steps read free i step is out =
      let last = read.outputs i step is out in
      let there : slice_get steps (length steps - 1) ≡ Some step = rw (← last) is in
      let shut : option_map_or (λ step. is_output step.kind) (slice_get steps (length steps - 1)) false ≡ true = rw there out in
      cc

  read_more : (names : Naming) (steps : List Step) (n : ℕ) (made : Made) → AreRead names steps → IsNext f cube steps made
      → AreRead (named_by names made.name (length steps)) (steps ++ record { line = n; kind = made.kind } ∷ [])
  read_more names steps n made read next =
      let new : Step = record { line = n; kind = made.kind } in
      let long : length (steps ++ new ∷ []) ≡ suc (length steps) = length_push steps new ∙ omega arith in
      record {
        known = named_known names steps (steps ++ new ∷ []) made.name long read.known;
        instructions = λ i step is.
            let P : List Step → Type 0 = λ front. IsInstruction f cube front step.kind in
            elim (get_push steps new step i is) [
              | inl h ↦ subst P (sym (take-append-le i steps (new ∷ []) (omega (arith, h.0)))) (read.instructions i step h.1)
              | inr h ↦
                  let whole : take i (steps ++ new ∷ []) ≡ steps = whole_front steps (new ∷ []) i h.0 in
                  let Q : Step → Type 0 = λ s. IsInstruction f cube (take i (steps ++ new ∷ [])) s.kind in
                  let R : List Step → Type 0 = λ front. IsInstruction f cube front made.kind in
                  subst Q h.1 (subst R (sym whole) next.0)
            ];
        outputs = λ i step is out.
            elim (get_push steps new step i is) [
              | inl h ↦ absurd (no_output names steps read next.1 i step h.1 out)
              | inr h ↦ omega (arith, h.0, long)
            ];
      }
    where
      whole_front : (xs ys : List Step) (i : ℕ) → i ≡ length xs → take i (xs ++ ys) ≡ xs
      whole_front xs ys i is = rw is (take_front xs ys)
        where
          take_front : (xs ys : List Step) → take (length xs) (xs ++ ys) ≡ xs
          take_front [] ys = refl
          take_front (x ∷ xs) ys = ap (λ rest. x ∷ rest) (take_front xs ys)

  abbrev Good : Result (List Step) ℕ → Type 0
  Good found = (steps : List Step) → found ≡ Ok steps → IsProgram f cube steps

  ended : (names : Naming) (steps : List Step) (n : ℕ) → AreRead names steps → length steps < n → n ≤ 100001
      → (b : Bool) → has_output steps ≡ b → Good (cond b (Ok steps) (Err n))
  ended names steps n read short few false is found same = absurd (cc)
  ended names steps n read short few true is found same =
      let e : steps ≡ found = cc in
      subst (IsProgram f cube) e (record {
        few = omega arith;
        instructions = read.instructions;
        some_step = some_output steps is;
        last = λ i step there. (read.outputs i step there, λ at. last_output steps i step is there at);
      })

  goes_on : (names : Naming) (steps : List Step) (n : ℕ) (line : List ℕ) (lines : List (List ℕ)) → AreRead names steps → length steps < n → n ≤ 100000
      → (o : Option Made) → instruction_in names steps f cube (words_of line) ≡ o
      → ((made : Made) → length (steps ++ record { line = n; kind = made.kind } ∷ []) < n + 1 → AreRead (named_by names made.name (length steps)) (steps ++ record { line = n; kind = made.kind } ∷ [])
      → Good (steps_from f cube (named_by names made.name (length steps)) (steps ++ record { line = n; kind = made.kind } ∷ []) (n + 1) lines))
      → Good (elim o [ None ↦ Err n | Some made ↦ steps_from f cube (named_by names made.name (length steps)) (steps ++ record { line = n; kind = made.kind } ∷ []) (n + 1) lines ])
  goes_on names steps n line lines read short few None is later = λ found same. absurd (cc)
  goes_on names steps n line lines read short few (Some made) is later =
      let new : Step = record { line = n; kind = made.kind } in
      later made (omega (arith, length_push steps new)) (read_more names steps n made read (instruction_is names steps read.known f cube (words_of line) made is))

  -- the steps from a line on, when the line is no more than the next is
  abbrev After : Naming → List Step → ℕ → List ℕ → List (List ℕ) → Result (List Step) ℕ
  After names steps n line lines = elim (instruction_in names steps f cube (words_of line)) [ None ↦ Err n | Some made ↦ steps_from f cube (named_by names made.name (length steps)) (steps ++ record { line = n; kind = made.kind } ∷ []) (n + 1) lines ]

  by_skip : (n : ℕ) (b : Bool) (skipped after : Result (List Step) ℕ) → (n ≤ 100000 → Good skipped) → (n ≤ 100000 → Good after) → n ≤ 100000 → Good (cond b skipped after)
  by_skip n true skipped after first second in_time = first in_time
  by_skip n false skipped after first second in_time = second in_time

  by_number : (n : ℕ) (b : Bool) (rest : Result (List Step) ℕ) → nat_lt 100000 n ≡ b → (n ≤ 100000 → Good rest) → Good (cond b (Err n) rest)
  by_number n true rest is later = λ found same. absurd (cc)
  by_number n false rest is later = later (not_above n is)

  read_from : (names : Naming) (steps : List Step) (n : ℕ) (lines : List (List ℕ)) → AreRead names steps → length steps < n → n ≤ 100001
      → Good (steps_from f cube names steps n lines)
  read_from names steps n [] read short few = ended names steps n read short few (has_output steps) refl
  read_from names steps n (line ∷ lines) read short few =
      by_number n (nat_lt 100000 n) (cond (is_skipped (words_of line)) (steps_from f cube names steps (n + 1) lines) (After names steps n line lines)) refl
      (by_skip n (is_skipped (words_of line)) (steps_from f cube names steps (n + 1) lines) (After names steps n line lines)
      (λ in_time. read_from names steps (n + 1) lines read (omega arith) (omega arith))
      (λ in_time. goes_on names steps n line lines read short in_time (instruction_in names steps f cube (words_of line)) refl
      (λ made shorter more. read_from (named_by names made.name (length steps)) (steps ++ record { line = n; kind = made.kind } ∷ []) (n + 1) lines more shorter (omega arith))))

  -- a program that is read is well formed
  pub read_is : (text : List ℕ) → Good (program_of f cube text)
  unfolding program_of
  read_is text = read_from no_names [] 1 (lines_of text) none (omega arith) (omega arith)
    where
      none : AreRead no_names []
      none = record {
        known = λ word n is. absurd (cc);
        instructions = λ i step is. absurd (nothing i step is);
        outputs = λ i step is out. absurd (nothing i step is);
      }
