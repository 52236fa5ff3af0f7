use Rattle.std.proofs.Common.{◌≡◌, ◌*◌}
use Rattle.draw_stream.specs.Draw.{after, uniforms_at}
use Rattle.key_gen.proofs.rows.uniforms.Given as goal

abbrev pub invariant-loop : goal.invariant-loop
invariant-loop l = record {
  moved : l.draws ≡ after l.fn.draws (4 * l.counter);
  value : l.list.items ≡ uniforms_at l.fn.draws l.fn.draws.place l.q l.counter;
}
