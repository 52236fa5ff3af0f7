-- The laws of the plain machine.
use Rattle.std.proofs.Common.{ℕ, List, [], ◌∷◌, Option, Some, None, Result, Ok, Err, sym, subst}
use Rattle.std.specs.Prelude.{IfSome}
use Rattle.std.specs.Option.{ok_or}
use Rattle.shelf_core.specs.Files.{File}
use Rattle.cli_machine.specs.declared.cause.Cause.{Cause}
use Rattle.cli_machine.specs.declared.cause.Cause.TheVariants.{Words}
use Rattle.cli_machine.specs.declared.command.Command.{Command}
use Rattle.cli_machine.specs.Clauses.{LeavesDone, PrintsAll}
use Rattle.cli_machine.specs.Commands.{command_of}
use Rattle.cli_machine.specs.Effects.{Wanted}
use Rattle.cli_machine.specs.Machine.{◌>>=◌, command_on, decrypt_on, line_on}
use Rattle.cli_machine.proofs.Chains.{On}
use Rattle.plain_machine.specs.PlainState.{PlainState, nothing, after_words, stepped}
use Rattle.plain_machine.specs.Carrying.{Carries, Past, IsHistory, reached}
use Rattle.plain_machine.specs.CarryingLaws.{EmptyLaw, CarryingLaw, HistoryLaw, DecryptsLaw, PrintsArray}
use Rattle.plain_machine.proofs.CommandNames.{NamesKey, command_names}
use Rattle.plain_machine.proofs.Keeping.{Keeps, command_keeps}
use Rattle.plain_machine.specs.Lower.{LowerLaws}
use Rattle.plain_machine.proofs.Printing.{PrintsSealed, decrypt_prints}

pub empty : EmptyLaw
empty files h = record { secrets = h.secrets; publics = h.publics; ciphers = h.ciphers; no_evaluation = h.evaluations }

module _ (laws : LowerLaws) where
  -- a line that is done
  line_keeps : (words : List (List ℕ)) (state : PlainState) (old new : List File) → Carries state old → LeavesDone (line_on words old) old new → Carries (stepped words state old) new
  unfolding line_on
  line_keeps words state old new C leaves = go (command_of words) (command_names laws.names words) leaves
    where
      through : (command : Command) (on : Result Wanted Cause) → On (Keeps laws state old C command) on → LeavesDone on old new → Carries (after_words (Some command) state old) new
      through command (Ok wanted) keeps leaves = keeps new leaves
      through command (Err cause) keeps leaves = absurd leaves

      go : (found : Option Command) → IfSome found NamesKey → LeavesDone (ok_or found Words >>= λ command. command_on command old) old new → Carries (after_words found state old) new
      go None names leaves = absurd leaves
      go (Some command) names leaves = through command (command_on command old) (command_keeps laws state old C command names) leaves

  pub carrying : CarryingLaw
  carrying words (Ok u) state old new C leaves = line_keeps words state old new C leaves
  carrying words (Err cause) state old new C leaves = subst (Carries state) (sym leaves.0) C

  history_from : (history : List Past) (start now : List File) (state : PlainState) → Carries state start → IsHistory history start now → Carries (reached history start state) now
  history_from [] start now state C is = subst (Carries state) (sym is) C
  history_from (past ∷ later) start now state C is =
      history_from later past.files now _ (carrying past.words past.outcome state start past.files C is.0) is.1

  pub history : HistoryLaw
  history past start now none is = history_from past start now nothing (empty start none) is

  decrypted_line : (state : PlainState) (cipher : List ℕ) (files : List File) (C : Carries state files) (on : Result Wanted Cause) (old new : List ℕ) → On (PrintsSealed laws state files C cipher) on → PrintsAll on old new → PrintsArray state cipher old new
  decrypted_line state cipher files C (Ok wanted) old new is prints =
      let P : Wanted → Type 0 = λ w. PrintsAll (Ok w) old new in
      record { sealed = is.0; holds = is.1; printed = subst P is.2 prints }
  decrypted_line state cipher files C (Err cause) old new is prints = absurd prints

  pub decrypting : DecryptsLaw
  unfolding line_on
  decrypting words end state files old new C shows key cipher is done =
      decrypted_line state cipher files C (decrypt_on key cipher files) old new (decrypt_prints laws state files C key cipher) (rw (done, is) at shows)
