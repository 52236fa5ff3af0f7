use Rattle.std.proofs.Common.{◌≡◌, ◌≤◌, ◌+◌, ◌-◌, ◌%◌, length, take, drop, set, decimal, rules, arith, ◌∙◌}
use Rattle.std.proofs.lemmas.Fmt.{length-decimal-le}
use Rattle.std.proofs.lemmas.List.{append-nil, length-set, length-drop, take_all}
use Rattle.line_text.proofs.NumberLemmas.{print_room, print_more, print_last}
use Rattle.line_text.proofs.numbers.put_number.Goals as goal

pub loop-rest-init : goal.loop-rest-init
loop-rest-init c = record {
  room = length-decimal-le 20 c.args.x (omega arith) (omega arith) (omega arith);
  within = omega arith;
  whole = search rules;
  so_far = append-nil _;
}

pub overflow_sub-start : goal.overflow_sub-start
overflow_sub-start c = print_room c.loop-rest.rest _ (omega arith) c.loop-rest.invariant.room

pub loop-rest-smaller : goal.loop-rest-smaller
loop-rest-smaller c = omega (arith, print_room c.loop-rest.rest _ (omega arith) c.loop-rest.invariant.room)

pub loop-rest-preserved : goal.loop-rest-preserved
loop-rest-preserved c =
    let more = print_more c.args.x c.loop-rest.rest c.loop-rest.start c.loop-rest.digits (omega arith) (omega arith) (omega arith) c.loop-rest.invariant.room c.loop-rest.invariant.so_far in
    record {
      room = more.0;
      within = omega arith;
      whole = length-set _ _ _ ∙ c.loop-rest.invariant.whole;
      so_far = more.1;
    }

pub returns-clause-ok : goal.returns-clause-ok
returns-clause-ok c =
    let first = print_room c.loop-rest.rest _ (omega arith) c.loop-rest.invariant.room in
    let written = print_last c.args.x c.loop-rest.rest c.loop-rest.start c.loop-rest.digits (omega arith) first (omega arith) c.loop-rest.invariant.so_far in
    let tail = drop (c.loop-rest.start - 1) (set c.loop-rest.digits (c.loop-rest.start - 1) (48 + c.loop-rest.rest % 10)) in
    let within : length tail ≤ 20 - (c.loop-rest.start - 1) = simp (length-drop, length-set) (omega arith) in
    let all : take (20 - (c.loop-rest.start - 1)) tail ≡ decimal c.args.x = take_all _ tail within ∙ written in
    let items = rw all at c.extend_from_slice.ensures.items in
    search rules
