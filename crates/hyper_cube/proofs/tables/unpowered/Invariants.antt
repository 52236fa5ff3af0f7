use Rattle.std.proofs.Common.{ℕ, ◌<◌}
use Rattle.mod_ring.specs.Zq.{modulus_of}
use Rattle.hyper_cube.specs.Tables.{IsListed, wrapped_pair}
use Rattle.hyper_cube.proofs.tables.unpowered.Given as goal

abbrev pub invariant-loop-i : goal.invariant-loop-i
invariant-loop-i l = (k : ℕ) → k < l.i → IsListed l.powers (wrapped_pair (modulus_of l.ring) l.gens k)
