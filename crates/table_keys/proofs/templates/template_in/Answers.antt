use Rattle.table_keys.proofs.ShapeLaws.{digits-small_plain}
use Rattle.table_keys.proofs.templates.template_in.Goals as goal

pub narrowed-requires : goal.narrowed-requires
narrowed-requires c = record { small = rw c.as_slice.ensures.value (digits-small_plain _ _ _ c.in_ok-sizes.ensures c.in_ok-chain.ensures) }
