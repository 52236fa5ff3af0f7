-- What `clear` prints, from what the machine says of its line.
use Rattle.std.proofs.Common.{◌≡◌, ℕ, Bool, true, false, cond, List, [], ◌∷◌, length, Result, Ok, Err, refl, sym, ◌∙◌, subst}
use Rattle.std.specs.Prelude.{◌==◌}
use Rattle.line_text.specs.declared.kinds.FileKind.TheVariants.{Prog}
use Rattle.shelf_core.specs.Files.{File}
use Rattle.slot_array.specs.Arrays.{Array}
use Rattle.slot_factor.specs.Packing.{Packing}
use Rattle.slot_program.specs.declared.kinds.Step.{Step}
use Rattle.slot_program.specs.Program.{input_count}
use Rattle.slot_program.specs.Text.{program_of}
use Rattle.cli_machine.specs.declared.cause.Cause.{Cause}
use Rattle.cli_machine.specs.declared.cause.Cause.TheVariants.{Arity}
use Rattle.cli_machine.specs.declared.cause.Status.{Status}
use Rattle.cli_machine.specs.Clauses.{outcome_of, PrintsAll, Shows}
use Rattle.cli_machine.specs.Effects.{Wanted}
use Rattle.cli_machine.specs.Machine.{◌>>=◌, or_else, loaded, file_of, table_on, program_on, array_on, arrays_on, matched, clear_on, line_on}
use Rattle.cli_machine.proofs.Chains.{bind_ok, read_of, loaded_is, holds_table, holds_array}
use Rattle.cli_machine.specs.Plain.{ClearPrints, PrintsMeaning, HoldsProgram, HoldsArrays}
use Rattle.std.proofs.lemmas.Bool.{eqb-true}

holds_program : (packing : Packing) (name : List ℕ) (steps : List Step) (files : List File) → program_on packing name files ≡ Ok steps → HoldsProgram packing name steps files
unfolding program_on
holds_program packing name steps files is =
    let read = bind_ok (loaded (file_of Prog name) files) _ steps is in
    record {
      text = read.0;
      held = loaded_is (file_of Prog name) files read.0 read.1;
      read = read_of _ (program_of packing.field packing.cube read.0) steps read.2;
    }

holds_arrays : (packing : Packing) (names : List (List ℕ)) (arrays : List Array) (files : List File) → arrays_on packing names files ≡ Ok arrays → HoldsArrays packing names arrays files
holds_arrays packing [] [] files is = tt
holds_arrays packing [] (a ∷ arrays) files is = absurd (cc)
holds_arrays packing (name ∷ names) arrays files is =
    let first = bind_ok (array_on packing name files) _ arrays is in
    let rest = bind_ok (arrays_on packing names files) _ arrays first.2 in
    let same : first.0 ∷ rest.0 ≡ arrays = cc (rest.2) in
    let P : List Array → Type 0 = λ found. HoldsArrays packing (name ∷ names) found files in
    subst P same (holds_array packing name first.0 files first.1, holds_arrays packing names rest.0 files rest.1)

abbrev passes : Result Unit Cause
passes = Ok tt

-- as many are given as are named, where this passes
same_number : (given named : ℕ) (u : Unit) → matched given named ≡ Ok u → given ≡ named
unfolding matched
same_number given named u is = go (given == named) (λ e. eqb-true given named e) is
  where
    go : (b : Bool) → (b ≡ true → given ≡ named) → cond b passes (Err (Arity given named)) ≡ Ok u → given ≡ named
    go true told is = told refl
    go false told is = absurd (cc)

-- a chain that prints, or saves, goes through
goes_through : (r : Result Wanted Cause) (old new : List ℕ) → PrintsAll r old new → (wanted : Wanted) × (r ≡ Ok wanted)
goes_through (Ok wanted) old new prints = (wanted, refl)
goes_through (Err cause) old new prints = absurd prints

clear_prints : (table program : List ℕ) (names : List (List ℕ)) (files : List File) (old new : List ℕ) → PrintsAll (clear_on table program names files) old new
    → PrintsMeaning table program names files old new
unfolding clear_on
clear_prints table program names files old new prints =
    let p = goes_through (clear_on table program names files) old new prints in
    let t = bind_ok (table_on table files) _ p.0 p.1 in
    let s = bind_ok (program_on t.0.packing program files) _ p.0 t.2 in
    let a = bind_ok (arrays_on t.0.packing names files) _ p.0 s.2 in
    let m = bind_ok (matched (length names) (input_count s.0)) _ p.0 a.2 in
    let P : Result Wanted Cause → Type 0 = λ r. PrintsAll r old new in
    record {
      setting = t.0;
      steps = s.0;
      inputs = a.0;
      holds_table = holds_table table files t.0 t.1;
      holds_program = holds_program t.0.packing program s.0 files s.1;
      holds_arrays = holds_arrays t.0.packing names a.0 files a.1;
      as_many = same_number (length names) (input_count s.0) m.0 m.1;
      printed = subst P (p.1 ∙ sym m.2) prints;
    }

-- a line whose outcome shows what the machine has of it, and that is a `clear`
pub headline : (words : List (List ℕ)) (files : List File) (end : Status) (old new : List ℕ) → Shows (outcome_of end) (line_on words files) old new
    → ClearPrints words files end old new
unfolding line_on
headline words files end old new shows table program names is ended =
    clear_prints table program names files old new (rw (ended, is) at shows)
