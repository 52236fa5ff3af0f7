use Rattle.std.proofs.Common.{◌<◌, ◌≤◌, length, arith}
use Rattle.std.proofs.lemmas.Grind.{common_steps}
use Rattle.slot_program.proofs.PieceSteps.{cut_more, cut_last}
use Rattle.slot_program.proofs.elements.cut.Goals as goal

pub returns-then-end-text-clause-more : goal.returns-then-end-text-clause-more
returns-then-end-text-clause-more c =
    let found : c.piece_len-end.result < length c.args.text.now = grind (arith, common_steps) in
    cut_more c.args.separator c.piece_len-end.result c.args.text.now c.piece_len-end.ensures found

pub returns-else-end-text-clause-last : goal.returns-else-end-text-clause-last
returns-else-end-text-clause-last c =
    let none : length c.args.text.now ≤ c.piece_len-end.result = grind (arith, common_steps) in
    cut_last c.args.separator c.piece_len-end.result c.args.text.now c.piece_len-end.ensures none
