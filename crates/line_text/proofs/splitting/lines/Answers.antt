use Rattle.std.proofs.Common.{◌≡◌, ◌<◌, ℕ, ◌==◌, length, Vec, Global, ap, ◌∙◌, sym, arith}
use Rattle.std.specs.List.{before_first}
use Rattle.std.proofs.lemmas.Bool.Decides.{nat_tests}
use Rattle.std.proofs.lemmas.List.{append-nil, nil_from_length}
use Rattle.line_text.specs.Lines.{without_return, lines_of}
use Rattle.line_text.proofs.LineLemmas.{lines_so_far, lines_of-empty}
use Rattle.line_text.proofs.splitting.lines.Goals as goal

pub loop-rest-preserved : goal.loop-rest-preserved
loop-rest-preserved c =
    let rest = c.loop-rest.rest.now in
    let line = c.in_ok-from_slice.field-0 in
    let some : 0 < length rest = grind (arith, nat_tests) in
    let is : line.items ≡ without_return (before_first (λ byte. byte == 10) rest) =
    c.in_ok-from_slice.ensures.items ∙ c.without_return.ensures ∙ ap without_return c.cut.ensures.before in
    let step = lines_so_far (λ (line : Vec ℕ Global). line.items) c.loop-rest.lines.items line rest (lines_of c.args.bytes.now) some is c.loop-rest.invariant in
    rw (c.in_ok-push.ensures.items, c.cut.ensures.after) step

pub returns : goal.returns
returns c =
    let none = nil_from_length c.loop-rest.rest.now (grind (arith, nat_tests)) in
    sym (append-nil _) ∙ rw (none, lines_of-empty) at c.loop-rest.invariant
