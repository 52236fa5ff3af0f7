use Rattle.std.proofs.Common.{◌≡◌, ◌*◌, ◌++◌, map, take}
use Rattle.cyclo_poly.proofs.strides.push_multiples.Given as goal

abbrev pub invariant-loop-j : goal.invariant-loop-j
invariant-loop-j l = l.list.items ≡ l.initial.list.items ++ map (λ j. l.p * j) (take l.j-index l.strides)
