use Rattle.std.proofs.Common.{◌≡◌}
use Rattle.algebra.specs.Divisor.{units_upto}
use Rattle.hyper_cube.proofs.unit_list.units.Given as goal

abbrev pub invariant-loop-last : goal.invariant-loop-last
invariant-loop-last l = l.list.items ≡ units_upto l.m l.last
