use Rattle.std.proofs.Common.{sym, ◌∙◌, arith}
use Rattle.shelf_core.proofs.FileLemmas.{bytes_of-here, bytes_of-later}
use Rattle.shelf_core.proofs.files.find.Goals as goal

pub returns-then-is : goal.returns-then-is
returns-then-is c =
    let here = bytes_of-here c.args.name.now c.args.files.now c.loop-held.held-index c.loop-held-item.result (omega arith) c.loop-held-item.is (c.is.ensures.0 c.if-is.true) in
    let invariant = c.loop-held.invariant in
    cc

pub loop-held-preserved : goal.loop-held-preserved
loop-held-preserved c =
    sym (bytes_of-later c.args.name.now c.args.files.now c.loop-held.held-index c.loop-held-item.result (omega arith) c.loop-held-item.is (λ e. let true_too = c.is.ensures.1 e in cc))
    ∙ c.loop-held.invariant
