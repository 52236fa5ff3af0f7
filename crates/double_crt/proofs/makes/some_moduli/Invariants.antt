use Rattle.std.proofs.Common.{◌≡◌, ℕ, ◌+◌, ◌<◌, get_or, length}
use Rattle.moduli_table.specs.Chain.{modulus_at}
use Rattle.double_crt.proofs.makes.some_moduli.Given as goal

abbrev pub invariant-loop-i : goal.invariant-loop-i
invariant-loop-i l = record {
  long : length l.list.items ≡ l.many;
  done : (k : ℕ) → k < l.i → get_or l.list.items k 0 ≡ modulus_at l.moduli (l.first + k);
}
