use Rattle.shelf_core.proofs.FileLemmas.{AreDistinct-push}
use Rattle.shelf_core.proofs.sure.SureShelf.add.Goals as goal

pub invariant_of-self-2 : goal.invariant_of-self-2
invariant_of-self-2 c =
    rw c.in_ok-push.ensures.items
    (AreDistinct-push c.self.inside.files.items _ c.args.name.now c.args.self.now c.self.view_is c.in_ok-name.ensures c.requires c.self.invariant)
