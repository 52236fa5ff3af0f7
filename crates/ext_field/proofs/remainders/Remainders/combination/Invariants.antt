use Rattle.std.proofs.Common.{◌≡◌, ℕ, ◌*◌, ◌^◌, ◌≤◌, [], get_or, vec_len}
use Rattle.algebra.specs.Range.{total, counts}
use Rattle.ext_field.specs.Element.{degree}
use Rattle.ext_field.proofs.remainders.Remainders.combination.Given as goal

abbrev pub invariant-loop-j : goal.invariant-loop-j
invariant-loop-j l =
    record {
      long : vec_len l.sums ≡ degree l.self;
      sums : (c : ℕ) → get_or l.sums.items c 0 ≡ total counts l.j (λ i. get_or l.factors i 0 * get_or (get_or l.rows i []) c 0);
      small : (c : ℕ) → get_or l.sums.items c 0 ≤ l.j * 2 ^ 34;
    }
