use Rattle.std.proofs.Common.{◌≡◌}
use Rattle.draw_stream.specs.Draw.{after, smalls_at}
use Rattle.key_gen.proofs.rows.smalls.Given as goal

abbrev pub invariant-loop : goal.invariant-loop
invariant-loop l = record {
  moved : l.draws ≡ after l.fn.draws l.counter;
  value : l.list.items ≡ smalls_at l.fn.draws l.fn.draws.place l.counter;
}
