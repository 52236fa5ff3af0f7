use Rattle.std.proofs.Common.{◌≡◌, ℕ, ◌++◌, ◌∷◌, true, false, bytes_eq, map, sym, ap, ◌∙◌, arith, Vec, Global}
use Rattle.slot_program.specs.Printed.{item_text, runs_of}
use Rattle.slot_program.proofs.PrintSteps.{items_text, first_run, last_run, run_goes_on, run_ends}
use Rattle.slot_program.proofs.printing.put_items.Goals as goal
use Rattle.slot_program.proofs.printing.put_items.Goals.{then-same, else-same+in_ok-put_item}

pub loop-next-init : goal.loop-next-init
loop-next-init c = (first_run c.args.elems.now c.in-Some.rest.now c.in-Some.first.now c.args.out.now.items c.in-Some.ensures.cases.0, omega arith)

pub loop-next-preserved : goal.loop-next-preserved
loop-next-preserved c =
    elim c.if-same.branch [
      | then-same w ↦
          let same : bytes_eq c.loop-next.element.now c.next-item.result ≡ true = sym c.same.ensures ∙ w.if-same.true in
          let text = run_goes_on c.in-Some.rest.now c.loop-next.next-index c.loop-next.repeats c.loop-next.element.now c.next-item.result c.loop-next.out.items (c.args.out.now.items ++ items_text (runs_of (map (λ elem. elem) c.args.elems.now))) c.loop-next-test.true c.next-item.is same c.loop-next.invariant.0 in
          (rw (w.out-is, w.element-is, w.repeats-is) text, rw w.repeats-is (omega (arith, c.loop-next.invariant.1)))
      | else-same+in_ok-put_item w ↦
          let differs : bytes_eq c.loop-next.element.now c.next-item.result ≡ false = sym c.same.ensures ∙ w.if-same.false in
          let item : c.if-same.out.items ≡ c.loop-next.out.items ++ 32 ∷ item_text (c.loop-next.repeats, c.loop-next.element.now) = ap (λ (v : Vec ℕ Global). v.items) w.out-is ∙ w.in_ok-put_item.ensures in
          let text = run_ends c.in-Some.rest.now c.loop-next.next-index c.loop-next.repeats c.loop-next.element.now c.next-item.result c.loop-next.out.items c.if-same.out.items (c.args.out.now.items ++ items_text (runs_of (map (λ elem. elem) c.args.elems.now))) c.loop-next-test.true c.next-item.is differs item c.loop-next.invariant.0 in
          (rw (w.element-is, w.repeats-is) text, rw w.repeats-is (omega arith))
    ]

pub returns : goal.returns
returns c =
    last_run c.in-Some.rest.now c.loop-next.next-index c.loop-next.repeats c.loop-next.element.now c.loop-next.out.items c.put_item-2.new.out.items (c.args.out.now.items ++ items_text (runs_of (map (λ elem. elem) c.args.elems.now))) c.loop-next-test.false c.in_ok-put_item-2.ensures c.loop-next.invariant.0
