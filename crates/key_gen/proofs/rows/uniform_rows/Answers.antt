use Rattle.std.proofs.Common.{◌≡◌, ◌∙◌, ◌+◌, ◌*◌, ℕ, List, map, ap, arith}
use Rattle.std.specs.Prelude.{Vec}
use Rattle.std.specs.declared.alloc.Global.{Global}
use Rattle.draw_stream.specs.Draw.{after}
use Rattle.draw_stream.proofs.Choices.{after-none}
use Rattle.moduli_table.specs.Chain.{Chain, row_at}
use Rattle.moduli_table.specs.declared.rows.ModRow.{ModRow}
use Rattle.key_gen.proofs.DrawSteps.{after-after}
use Rattle.key_gen.proofs.RowSteps.{room-more, uniform_rows-none, uniform_rows-more}
use Rattle.key_gen.proofs.rows.uniform_rows.Goals as goal

pub uniforms-requires-clause-room : goal.uniforms-requires-clause-room
uniforms-requires-clause-room c =
    room-more c.args.draws.now c.loop-i.draws c.n-n.result c.loop-i.i c.args.rows c.loop-i.invariant.moved c.loop-i-test.true
    (omega (arith, c.requires.room, ap (λ k. 4 * k * c.args.rows) c.n-n.ensures.value))

pub loop-i-init : goal.loop-i-init
loop-i-init c =
    let none : 0 ≡ 4 * c.n-n.result * 0 = omega arith in
    record {
      moved = after-none c.args.draws.now ∙ ap (after c.args.draws.now) none;
      value = ap (map (λ row. row.items)) c.new-list.ensures.items ∙ uniform_rows-none c.args.draws.now c.n-n.result c.args.tables.now.moduli;
    }

pub loop-i-preserved : goal.loop-i-preserved
loop-i-preserved c =
    let s = c.args.draws.now in
    let n = c.n-n.result in
    let i = c.loop-i.i in
    let invariant = c.loop-i.invariant in
    record {
      moved = c.in_ok-row.ensures.moved ∙ ap (λ r. after r (4 * n)) invariant.moved ∙ after-after s (4 * n * i) (4 * n) (4 * n * (i + 1)) (omega arith);
      value =
          let items : Vec ℕ Global → List ℕ = λ v. v.items in
          ap (map items) c.in_ok-push.ensures.items
          ∙ uniform_rows-more s c.loop-i.draws n i c.row.result.q c.args.tables.now.moduli c.loop-i.list.items c.in_ok-row.row
          (omega arith) invariant.moved invariant.value
          (ap (λ (r : ModRow). r.q) c.row.ensures.value ∙ ap (λ (m : Chain). (row_at m i).q) c.moduli-moduli.ensures.value)
          c.in_ok-row.ensures.value;
    }
