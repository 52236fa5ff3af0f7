use Rattle.std.proofs.Common.{◌≡◌, map, take, drop}
use Rattle.double_crt.proofs.makes.some_inverses.Given as goal

abbrev pub invariant-loop-i : goal.invariant-loop-i
invariant-loop-i l = map (λ list. list.items) l.lists.items ≡ map (drop l.first) (take l.i (drop l.first l.moduli.inverse))
