use Rattle.std.proofs.Common.{◌≡◌, ◌<◌, ℕ, ◌==◌, length, Vec, Global, ◌∙◌, sym, arith}
use Rattle.std.specs.List.{before_first}
use Rattle.std.proofs.lemmas.Bool.Decides.{nat_tests}
use Rattle.std.proofs.lemmas.List.{append-nil, nil_from_length}
use Rattle.line_text.specs.Words.{words_of}
use Rattle.line_text.proofs.LineLemmas.{words_so_far_more, words_so_far_same, words_of-empty}
use Rattle.line_text.proofs.splitting.words.Goals as goal

pub loop-rest-preserved-in_ok-push : goal.loop-rest-preserved-in_ok-push
loop-rest-preserved-in_ok-push c =
    let rest = c.loop-rest.rest.now in
    let word = c.in_ok-from_slice.field-0 in
    let filled : 0 < length c.cut.result.0.now = grind (arith, nat_tests) in
    let some : 0 < length (before_first (λ byte. byte == 32) rest) = rw (← c.cut.ensures.before) filled in
    let is : word.items ≡ before_first (λ byte. byte == 32) rest =
    c.in_ok-from_slice.ensures.items ∙ c.cut.ensures.before in
    let step = words_so_far_more (λ (word : Vec ℕ Global). word.items) c.loop-rest.words.items word rest (words_of c.args.line.now) some is c.loop-rest.invariant in
    rw (c.in_ok-push.ensures.items, c.cut.ensures.after) step

pub loop-rest-preserved : goal.loop-rest-preserved
loop-rest-preserved c =
    let rest = c.loop-rest.rest.now in
    let empty : length c.cut.result.0.now ≡ 0 = grind (arith, nat_tests) in
    let none : length (before_first (λ byte. byte == 32) rest) ≡ 0 = rw (← c.cut.ensures.before) empty in
    let step = words_so_far_same (λ (word : Vec ℕ Global). word.items) c.loop-rest.words.items rest (words_of c.args.line.now) none c.loop-rest.invariant in
    rw c.cut.ensures.after step

pub returns : goal.returns
returns c =
    let none = nil_from_length c.loop-rest.rest.now (grind (arith, nat_tests)) in
    sym (append-nil _) ∙ rw (none, words_of-empty) at c.loop-rest.invariant
