use Rattle.std.proofs.Common.{◌≡◌}
use Rattle.draw_stream.specs.Draw.{after, errors_at}
use Rattle.key_gen.proofs.rows.errors.Given as goal

abbrev pub invariant-loop : goal.invariant-loop
invariant-loop l = record {
  moved : l.draws ≡ after l.fn.draws l.counter;
  value : l.list.items ≡ errors_at l.fn.draws l.fn.draws.place l.counter;
}
