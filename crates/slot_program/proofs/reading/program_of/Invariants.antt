use Rattle.std.proofs.Common.{◌≡◌, ◌+◌, ◌≤◌, map, drop, length, []}
use Rattle.slot_program.specs.Names.{naming, no_names}
use Rattle.slot_program.specs.Text.{steps_from}
use Rattle.slot_program.proofs.reading.program_of.Given as goal

abbrev pub invariant-loop-i : goal.invariant-loop-i
invariant-loop-i l =
    (steps_from l.ext l.cube (naming l.known.names) l.known.steps.items (l.i + 1) (map (λ line. line.items) (drop l.i l.line-items))
    ≡ steps_from l.ext l.cube no_names [] 1 (map (λ line. line.items) l.line-items))
    × (length l.known.steps.items ≤ l.i)
    × (l.i ≤ 100000)
