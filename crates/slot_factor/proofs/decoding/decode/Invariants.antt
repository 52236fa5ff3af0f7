use Rattle.std.proofs.Common.{◌≡◌, map}
use Rattle.algebra.specs.Whole.{below}
use Rattle.hyper_cube.specs.Torus.{index}
use Rattle.slot_laws.specs.Slots.{slot_of}
use Rattle.slot_factor.proofs.decoding.decode.Given as goal

abbrev pub invariant-loop-slot : goal.invariant-loop-slot
invariant-loop-slot l = l.elems.items ≡ map (λ j. slot_of l.ext l.cube l.a (index l.cube.dimensions j)) (below l.slot)
