use Rattle.std.proofs.Common.{◌≡◌, ℕ, ◌+◌, ◌-◌, ◌%◌, ◌<◌, ◌≤◌, get_or}
use Rattle.std.specs.List.{All}
use Rattle.mod_ring.specs.Zq.{modulus_of}
use Rattle.cyclo_poly.proofs.passes.raise.Given as goal

abbrev pub invariant-loop-i : goal.invariant-loop-i
invariant-loop-i l = (All (λ c. c < modulus_of l.zq) l.values) × ((k : ℕ) → l.i ≤ k → get_or l.initial.values k 0 ≡ (get_or l.values k 0 + (modulus_of l.zq - get_or l.values (k + l.stride) 0)) % modulus_of l.zq) × ((k : ℕ) → k < l.i → get_or l.values k 0 ≡ get_or l.initial.values k 0)
