-- A folder tells nothing, so what its trait asks of the files holds at once.
use Rattle.std.proofs.Common.{refl}
use Rattle.shelf_core.proofs.host.FolderShelfShelf.TheImpl.Goals as goal

pub load-tells : goal.load-tells
load-tells g c = record {
  tells = refl;
  kept = refl;
  loaded = λ told. let never : ⊥ = cc in absurd never;
  counts = c.ensures.counts;
}

pub save-tells : goal.save-tells
save-tells g c = record {
  tells = refl;
  saved = λ told. let never : ⊥ = cc in absurd never;
  counts = c.ensures.counts;
}
