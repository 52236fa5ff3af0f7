use Rattle.std.proofs.Common.{◌≡◌, ◌<◌, All, vec_len}
use Rattle.mod_ring.specs.Zq.{modulus_of}
use Rattle.ring_tests.proofs.cyclo.row.Given as goal

abbrev pub invariant-loop-i : goal.invariant-loop-i
invariant-loop-i l = (vec_len l.list ≡ l.i) × All (λ c. c < modulus_of l.zq) l.list.items
