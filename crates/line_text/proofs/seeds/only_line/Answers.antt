use Rattle.std.proofs.Common.{◌≡◌, ◌<◌, length, arith, ap, ◌∙◌, Some}
use Rattle.std.proofs.lemmas.Bool.Decides.{nat_tests}
use Rattle.std.proofs.lemmas.List.{nil_from_length}
use Rattle.line_text.specs.Lines.{without_return}
use Rattle.line_text.proofs.SeedLemmas.{only_line-none, only_line-one, only_line-more}
use Rattle.line_text.proofs.seeds.only_line.Goals as goal

pub returns-then-is_empty : goal.returns-then-is_empty
returns-then-is_empty c = rw (nil_from_length c.args.bytes.now (grind (arith, nat_tests))) only_line-none

pub returns-then-is_empty-2 : goal.returns-then-is_empty-2
returns-then-is_empty-2 c =
    let last : length c.cut.result.1.now ≡ 0 = grind (arith, nat_tests) in
    ap (λ line. Some line) (c.without_return.ensures ∙ ap without_return c.cut.ensures.before)
    ∙ only_line-one c.args.bytes.now (grind (arith, nat_tests)) (rw c.cut.ensures.after at last)

pub returns-else-is_empty-2 : goal.returns-else-is_empty-2
returns-else-is_empty-2 c =
    let more : 0 < length c.cut.result.1.now = grind (arith, nat_tests) in
    only_line-more c.args.bytes.now (grind (arith, nat_tests)) (rw c.cut.ensures.after at more)
