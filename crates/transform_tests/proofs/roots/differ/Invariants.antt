use Rattle.std.proofs.Common.{ℕ, ◌<◌, nat_lt}
use Rattle.algebra.specs.Ring.{residues}
use Rattle.algebra.specs.Power.{less, power}
use Rattle.algebra.specs.Divisor.{Dvd}
use Rattle.cyclotomic.specs.RootLaws.{HasHeldInverse}
use Rattle.mod_ring.specs.Zq.{modulus_of}
use Rattle.transform_tests.proofs.roots.differ.Given as goal

abbrev pub invariant-loop-k : goal.invariant-loop-k
invariant-loop-k l = (j : ℕ) → 0 < j → j < l.k → Dvd j l.m → HasHeldInverse (λ a. nat_lt a (modulus_of l.ring)) (residues (modulus_of l.ring)) (less (residues (modulus_of l.ring)) (power (residues (modulus_of l.ring)) l.w j) (residues (modulus_of l.ring)).one)
