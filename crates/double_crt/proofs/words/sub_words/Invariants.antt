use Rattle.std.proofs.Common.{◌≡◌, ℕ, ◌+◌, ◌-◌, ◌%◌, ◌<◌, ◌≤◌, All, get_or}
use Rattle.mod_ring.specs.Zq.{modulus_of}
use Rattle.double_crt.proofs.words.sub_words.Given as goal

abbrev pub invariant-loop-i : goal.invariant-loop-i
invariant-loop-i l = record {
  done : (k : ℕ) → k < l.i → get_or l.words k 0 ≡ (get_or l.initial.words k 0 + (modulus_of l.ring - get_or l.other k 0)) % modulus_of l.ring;
  rest : (k : ℕ) → l.i ≤ k → get_or l.words k 0 ≡ get_or l.initial.words k 0;
  small : All (λ c. c < modulus_of l.ring) l.words;
}
