use Rattle.table_keys.proofs.ShapeLaws.{digits-small}
use Rattle.table_keys.proofs.moduli.all_moduli_of.Goals as goal

pub narrowed-requires : goal.narrowed-requires
narrowed-requires c = record { small = rw c.as_slice.ensures.value (digits-small _ _ _ c.in_ok-sizes.ensures c.in_ok-chain.ensures) }
