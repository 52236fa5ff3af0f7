use Rattle.std.proofs.Common.{◌≡◌, ℕ, ◌<◌, All, get_or}
use Rattle.double_crt.proofs.words.spread_words.Given as goal

abbrev pub invariant-loop-i : goal.invariant-loop-i
invariant-loop-i l = record {
  done : (k : ℕ) → k < l.i → get_or l.words k 0 ≡ get_or l.from (get_or l.places k 0) 0;
  small : (q : ℕ) → 0 < q → All (λ c. c < q) l.from → (k : ℕ) → k < l.i → get_or l.words k 0 < q;
}
