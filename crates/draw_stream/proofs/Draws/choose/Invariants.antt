use Rattle.std.proofs.Common.{◌≡◌, ◌*◌}
use Rattle.draw_stream.specs.Draw.{after}
use Rattle.draw_stream.specs.Sparse.{choices}
use Rattle.draw_stream.proofs.Draws.choose.Given as goal

abbrev pub invariant-loop-i : goal.invariant-loop-i
invariant-loop-i l = record {
  moved : l.self ≡ after l.fn.self (5 * l.i);
  order : l.order ≡ (choices l.fn.self l.n l.i).order;
  coefficients : l.coefficients ≡ (choices l.fn.self l.n l.i).coefficients;
}
