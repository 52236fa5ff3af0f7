use Rattle.std.proofs.Common.{◌%◌, ◌^◌}
use Rattle.mod_ring.specs.Zq.{modulus_of}
use Rattle.hyper_cube.specs.Tables.{IsFilled}
use Rattle.hyper_cube.proofs.tables.powers.Given as goal

abbrev pub invariant-loop-u : goal.invariant-loop-u
invariant-loop-u l = IsFilled (λ u. l.p ^ u % modulus_of l.ring) l.u l.list.items
