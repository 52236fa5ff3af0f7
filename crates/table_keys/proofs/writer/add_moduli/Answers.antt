use Rattle.std.proofs.Common.{ap}
use Rattle.table_keys.proofs.WriteLaws.{rows_small}
use Rattle.table_keys.proofs.writer.add_moduli.Goals as goal

pub rows_value-requires : goal.rows_value-requires
rows_value-requires c = record {
  small = rw c.as_slice-4.ensures.value
      (rows_small c.moduli.inside.inverse.items c.args.moduli.now.inverse (ap (λ t. t.inverse) c.moduli.view_is) c.requires.inverse.small);
}
