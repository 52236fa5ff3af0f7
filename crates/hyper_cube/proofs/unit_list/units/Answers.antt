use Rattle.std.proofs.Common.{ap, sym, ◌∙◌}
use Rattle.hyper_cube.proofs.Divisions.{list_none, list_hit, list_miss}
use Rattle.hyper_cube.proofs.unit_list.units.Goals as goal
use Rattle.hyper_cube.proofs.unit_list.units.Goals.{then-is_coprime+in_ok-push, else-is_coprime}

pub loop-last-init : goal.loop-last-init
loop-last-init c = c.new-list.ensures.items ∙ list_none c.args.m

pub loop-last-preserved : goal.loop-last-preserved
loop-last-preserved c =
    elim c.if-is_coprime.branch [
      | then-is_coprime+in_ok-push w ↦ ap (λ v. v.items) w.list-is ∙ w.in_ok-push.ensures.items ∙ list_hit c.args.m c.loop-last.last c.loop-last.list.items c.loop-last.invariant (sym c.is_coprime.ensures ∙ w.if-is_coprime.true)
      | else-is_coprime w ↦ ap (λ v. v.items) w.list-is ∙ list_miss c.args.m c.loop-last.last c.loop-last.list.items c.loop-last.invariant (sym c.is_coprime.ensures ∙ w.if-is_coprime.false)
    ]
