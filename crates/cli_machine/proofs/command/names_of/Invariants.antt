use Rattle.std.proofs.Common.{◌≡◌, map, drop, string_bytes}
use Rattle.cli_machine.specs.Commands.{names_of}
use Rattle.cli_machine.proofs.Fronts.{with_front}
use Rattle.cli_machine.proofs.command.names_of.Given as goal

abbrev pub invariant-loop-word : goal.invariant-loop-word
invariant-loop-word l = with_front l.names (names_of (map string_bytes (drop l.word-index l.words))) ≡ names_of (map string_bytes l.words)
