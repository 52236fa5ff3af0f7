use Rattle.std.proofs.Common.{sym, ◌∙◌, arith}
use Rattle.std.proofs.lemmas.List.{take_rest}
use Rattle.shelf_core.proofs.FileLemmas.{AreDistinct-at, none_found, some_found}
use Rattle.shelf_core.proofs.files.are_distinct.Goals as goal

pub returns-then-is_some : goal.returns-then-is_some
returns-then-is_some c = (
  λ no. let never : ⊥ = cc in absurd never,
  λ distinct.
      let found = rw take_rest at c.find.ensures in
      let at = AreDistinct-at c.args.files.now c.loop-i.i c.index-files-i.result (omega arith) c.index-files-i.is in
      let none = some_found _ c.find.result (found ∙ (at.0 (c.loop-i.invariant.1 distinct)).0) in
      sym none ∙ sym c.is_some.ensures ∙ c.if-is_some.true,
)

pub loop-i-preserved : goal.loop-i-preserved
loop-i-preserved c =
    let found = rw take_rest at c.find.ensures in
    let at = AreDistinct-at c.args.files.now c.loop-i.i c.index-files-i.result (omega arith) c.index-files-i.is in
    let none = none_found _ c.find.result (sym c.is_some.ensures ∙ c.if-is_some.false) in
    (λ later. c.loop-i.invariant.0 (at.1 (sym found ∙ none, later)), λ all. (at.0 (c.loop-i.invariant.1 all)).1)
