use Rattle.std.proofs.Common.{◌≡◌, ℕ, ◌-◌, ◌<◌, length, get_or, All}
use Rattle.bluestein.proofs.chirps.mirror.Given as goal

abbrev pub invariant-loop-k : goal.invariant-loop-k
invariant-loop-k l = record {
  near : (j : ℕ) → j < l.count → get_or l.row j 0 ≡ get_or l.initial.row j 0;
  far : (j : ℕ) → 0 < j → j < l.k → get_or l.row (length l.initial.row - j) 0 ≡ get_or l.initial.row j 0;
  small : (q : ℕ) → All (λ a. a < q) l.initial.row → All (λ a. a < q) l.row;
}
