use Rattle.std.proofs.Common.{◌≡◌, ◌++◌, take}
use Rattle.double_crt.proofs.fills.extend.Given as goal

abbrev pub invariant-loop-row : goal.invariant-loop-row
invariant-loop-row l = l.to.items ≡ l.initial.to.items ++ take l.row-index l.from
