use Rattle.std.proofs.Common.{◌≡◌, ◌*◌, map}
use Rattle.draw_stream.specs.Draw.{after}
use Rattle.scheme_laws.specs.Keys.{uniform_rows}
use Rattle.key_gen.specs.Drawn.{first_moduli}
use Rattle.key_gen.proofs.rows.uniform_rows.Given as goal

abbrev pub invariant-loop-i : goal.invariant-loop-i
invariant-loop-i l = record {
  moved : l.draws ≡ after l.fn.draws (4 * l.n * l.i);
  value : map (λ row. row.items) l.list.items ≡ uniform_rows l.fn.draws l.fn.draws.place l.n (first_moduli l.fn.tables.moduli l.i);
}
