use Rattle.std.proofs.Common.{ap}
use Rattle.table_keys.proofs.WriteLaws.{dual-small, rows_small}
use Rattle.table_keys.proofs.writer.plain_members.Goals as goal

pub rows_value-requires : goal.rows_value-requires
rows_value-requires c = record {
  small = rw c.as_slice-2.ensures.value
      (rows_small c.document.inside.dual.items c.args.document.now.dual (ap (λ t. t.dual) c.document.view_is)
      (dual-small _ _ c.args.document.now.dual c.requires.p.1 c.requires.dual));
}
