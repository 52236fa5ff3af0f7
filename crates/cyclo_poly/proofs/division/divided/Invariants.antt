use Rattle.std.proofs.Common.{◌≡◌, ◌-◌, IsTrue, map, take, drop, reverse, vec_len}
use Rattle.std.specs.List.{All}
use Rattle.algebra.specs.Poly.{remainder, quotient_digits}
use Rattle.cyclo_poly.proofs.division.divided.Given as goal

abbrev pub invariant-loop-i : goal.invariant-loop-i
invariant-loop-i g l =
    let o = g.R.Ring.ops l.ring in
    let value = g.R.Ring.value in
    record {
      size : vec_len l.rest ≡ l.degree;
      rest : map value l.rest.items ≡ remainder o (map value l.g) (map value (drop l.i l.f));
      rest_held : All (λ a. IsTrue (g.R.Ring.held l.ring (value a))) l.rest.items;
      quotient : map value (reverse l.quotient.items) ≡ take (l.count - l.i) (quotient_digits o (map value l.g) (map value (drop l.i l.f)));
      quotient_held : All (λ a. IsTrue (g.R.Ring.held l.ring (value a))) l.quotient.items;
    }
