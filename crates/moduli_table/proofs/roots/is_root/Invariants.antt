use Rattle.std.proofs.Common.{◌≡◌, true}
use Rattle.mod_ring.specs.Zq.{modulus_of}
use Rattle.moduli_table.specs.First.{all_below}
use Rattle.moduli_table.specs.Checks.{is_root_at}
use Rattle.moduli_table.proofs.roots.is_root.Given as goal

abbrev pub invariant-loop-k : goal.invariant-loop-k
invariant-loop-k l = all_below l.k (is_root_at l.m (modulus_of l.ring) l.zeta) ≡ true
