use Rattle.std.proofs.Common.{◌≡◌, ◌-◌, length, map, replicate, ap, ◌∙◌, arith}
use Rattle.std.proofs.lemmas.List.{length-map, length-replicate}
use Rattle.algebra.specs.Poly.{degree_of}
use Rattle.cyclo_poly.proofs.HeldSteps.{held_none, held_push}
use Rattle.cyclo_poly.proofs.DivisionSteps.{rest_none, rest_more, quotient_none, quotient_more, quotient_same, quotient_is}
use Rattle.cyclo_poly.proofs.division.divided.Goals as goal

pub loop-i-init : goal.loop-i-init
loop-i-init g c =
    let value = g.R.Ring.value in
    let o = g.R.Ring.ops c.args.ring.now in
    let G = map value c.args.g.now in
    let rest = c.in_ok-rest in
    let degree : length c.args.g.now - 1 ≡ degree_of o G = omega (arith, length-map c.args.g.now value) in
    let zeros = rest.ensures.value ∙ ap (λ n. replicate n o.zero) degree in
    let empty = c.new-quotient.ensures.items in
    record {
      size = omega (arith, rest.rest.ok.0, length-map rest.rest.items value, ap length rest.ensures.value, length-replicate (length c.args.g.now - 1) o.zero);
      rest = rest_none value o c.args.f.now G rest.rest.items zeros;
      rest_held = rest.ensures.held;
      quotient = quotient_none value o c.args.f.now G (c.saturating_sub-count.result - length c.args.f.now) c.new-quotient.result.items empty;
      quotient_held = held_none value (g.R.Ring.held c.args.ring.now) c.new-quotient.result.items empty;
    }

pub loop-i-preserved-in-Continue-branch-4 : goal.loop-i-preserved-in-Continue-branch-4
loop-i-preserved-in-Continue-branch-4 g c =
    let value = g.R.Ring.value in
    let o = g.R.Ring.ops c.args.ring.now in
    let G = map value c.args.g.now in
    let i = c.loop-i.i in
    let inv = c.loop-i.invariant in
    let next = c.in_ok-next in
    let digit = c.in_ok-digit in
    let more = c.in_ok-push.ensures.items in
    record {
      size = digit.ensures.size ∙ inv.size;
      rest = rest_more value o c.args.f.now G i (i - 1) c.index-f-i.result next.next c.loop-i.rest.items c.bring_down.new.rest.items (omega arith) (omega arith) c.index-f-i.is next.ensures.value inv.rest digit.ensures.rest;
      rest_held = digit.ensures.rest_held;
      quotient = quotient_more value o c.args.f.now G c.saturating_sub-count.result i (i - 1) c.index-f-i.result next.next digit.digit c.loop-i.rest.items c.loop-i.quotient.items c.push.new.self.items (omega arith) (omega arith) (omega (arith, c.if-i-count.true)) c.index-f-i.is next.ensures.value inv.rest digit.ensures.digit more inv.quotient;
      quotient_held = held_push value (g.R.Ring.held c.args.ring.now) c.loop-i.quotient.items c.push.new.self.items digit.digit more inv.quotient_held digit.ensures.digit_held;
    }

pub loop-i-preserved : goal.loop-i-preserved
loop-i-preserved g c =
    let value = g.R.Ring.value in
    let o = g.R.Ring.ops c.args.ring.now in
    let G = map value c.args.g.now in
    let i = c.loop-i.i in
    let inv = c.loop-i.invariant in
    let next = c.in_ok-next in
    let digit = c.in_ok-digit in
    record {
      size = digit.ensures.size ∙ inv.size;
      rest = rest_more value o c.args.f.now G i (i - 1) c.index-f-i.result next.next c.loop-i.rest.items c.bring_down.new.rest.items (omega arith) (omega arith) c.index-f-i.is next.ensures.value inv.rest digit.ensures.rest;
      rest_held = digit.ensures.rest_held;
      quotient = quotient_same value o c.args.f.now G c.saturating_sub-count.result i (i - 1) c.loop-i.quotient.items (omega arith) (omega (arith, c.if-i-count.false)) inv.quotient;
      quotient_held = inv.quotient_held;
    }

pub returns-clause-quotient : goal.returns-clause-quotient
returns-clause-quotient g c =
    let value = g.R.Ring.value in
    let o = g.R.Ring.ops c.args.ring.now in
    quotient_is value o c.args.f.now (map value c.args.g.now) c.saturating_sub-count.result c.loop-i.i c.loop-i.quotient.items c.reverse.new.self.items (omega arith) (omega (arith, c.saturating_sub-count.ensures, length-map c.args.g.now value)) c.reverse.ensures.items c.loop-i.invariant.quotient
