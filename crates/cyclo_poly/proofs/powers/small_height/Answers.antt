use Rattle.std.proofs.Common.{◌≡◌, ◌+◌, ◌-◌, ◌++◌, ◌∙◌, length, take, drop, pos, set, ap, subst, refl, arith}
use Rattle.algebra.specs.Ring.{whole_numbers}
use Rattle.algebra.specs.Poly.{coeff}
use Rattle.cyclo_poly.specs.Powers.{IsLowered}
use Rattle.cyclo_poly.proofs.PowerSteps.{member_bounds, whole_slice, powers_start, powers_next, powers_large, powers_height, powers_none}
use Rattle.cyclo_poly.proofs.powers.small_height.Goals as goal

pub overflow_step-t : goal.overflow_step-t
overflow_step-t c = omega (arith, member_bounds c.args.m c.args.g.now c.requires.low c.requires.member)

pub loop-t-init : goal.loop-t-init
loop-t-init c = powers_start c.args.m (length c.args.g.now - 1) (c.args.m - 1) _ c.requires.low (omega arith) (ap (λ z. length z - 1) c.requires.member) (ap (λ z. set z (c.args.m - 1) (pos 1)) c.in_ok-row.ensures)

pub next_power-most-requires-clause-filled : goal.next_power-most-requires-clause-filled
next_power-most-requires-clause-filled c = omega (arith, member_bounds c.args.m c.args.g.now c.requires.low c.requires.member)

pub returns-then-most-clause-large : goal.returns-then-most-clause-large
returns-then-most-clause-large c =
    let m = c.args.m in
    let t = c.loop-t.t in
    let g = c.args.g.now in
    let row = c.loop-t.row.items in
    let n = length g - 1 in
    let from = m - 1 - t in
    let bounds = member_bounds m g c.requires.low c.requires.member in
    let step : IsLowered g (coeff whole_numbers row (from + n)) from n row c.next_power-most.new.row = subst (λ z. IsLowered g (coeff whole_numbers z (from + n)) from n z c.next_power-most.new.row) c.deref_mut.ensures.value c.next_power-most.ensures.row in
    powers_large m t from n g row c.next_power-most.new.row c.loop-t.most c.requires.low (omega (arith, c.loop-t-test.true)) (omega (arith, bounds, c.loop-t.auto.t)) c.requires.member (ap (λ z. length z - 1) c.requires.member) c.loop-t.invariant step c.next_power-most.result c.next_power-most.ensures.most c.if-most.true

pub loop-t-preserved : goal.loop-t-preserved
loop-t-preserved c =
    let m = c.args.m in
    let t = c.loop-t.t in
    let g = c.args.g.now in
    let row = c.loop-t.row.items in
    let n = length g - 1 in
    let from = m - 1 - t in
    let new = c.next_power-most.new.row in
    let bounds = member_bounds m g c.requires.low c.requires.member in
    let long : length new ≡ length row = c.next_power-most.auto.row ∙ ap length c.deref_mut.ensures.value in
    let slice : take c.loop-t.row.len (new ++ drop (length new) row) ≡ new = whole_slice new row c.loop-t.row.len long (omega (arith, c.loop-t.row.ok)) in
    let step : IsLowered g (coeff whole_numbers row (from + n)) from n row new = subst (λ z. IsLowered g (coeff whole_numbers z (from + n)) from n z new) c.deref_mut.ensures.value c.next_power-most.ensures.row in
    rw slice (powers_next m t from n g row new c.loop-t.most c.requires.low (omega (arith, c.loop-t-test.true)) (omega (arith, bounds, c.loop-t.auto.t)) c.requires.member (ap (λ z. length z - 1) c.requires.member) c.loop-t.invariant step (t + 1) c.next_power-most.result refl c.next_power-most.ensures.most c.if-most.false long)

pub returns-clause-found : goal.returns-clause-found
returns-clause-found c = powers_height c.args.m c.loop-t.t c.loop-t.row.items c.loop-t.most (omega (arith, c.loop-t-test.false, c.loop-t.auto, member_bounds c.args.m c.args.g.now c.requires.low c.requires.member)) c.loop-t.invariant

pub returns-clause-small : goal.returns-clause-small
returns-clause-small c = powers_none c.args.m c.loop-t.t c.loop-t.row.items c.loop-t.most (omega (arith, c.loop-t-test.false, c.loop-t.auto, member_bounds c.args.m c.args.g.now c.requires.low c.requires.member)) c.loop-t.invariant
