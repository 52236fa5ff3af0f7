use Rattle.std.proofs.Common.{◌≡◌, ℕ, ◌<◌, get_or, pos}
use Rattle.algebra.specs.Whole.{residue}
use Rattle.mod_ring.specs.Zq.{modulus_of}
use Rattle.double_crt.proofs.words.residues_into.Given as goal

abbrev pub invariant-loop-i : goal.invariant-loop-i
invariant-loop-i l = record {
  done : (k : ℕ) → k < l.i → get_or l.words k 0 ≡ residue (modulus_of l.ring) (get_or l.from k (pos 0));
  small : (k : ℕ) → k < l.i → get_or l.words k 0 < modulus_of l.ring;
}
