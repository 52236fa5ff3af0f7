use Rattle.std.proofs.Common.{◌≡◌, ◌++◌, map, take}
use Rattle.double_crt.specs.Roots.{roots_of_row}
use Rattle.double_crt.proofs.makes.lines_of.Given as goal

abbrev pub invariant-loop-i : goal.invariant-loop-i
invariant-loop-i l = l.lines.items ≡ map (roots_of_row l.m) (take l.i (l.moduli.chain ++ l.moduli.special))
