use Rattle.table_keys.specs.Values.{numbers_of, rows_of}
use Rattle.toml.specs.View.{view}
use Rattle.table_keys.proofs.ValueLaws.{list_of-view}
use Rattle.table_keys.proofs.values.rows_of.Goals as goal

pub returns-in-Some : goal.returns-in-Some
unfolding rows_of
returns-in-Some c =
    rw (list_of-view numbers_of (view c.args.value.now) c.in-Some.values.now.items c.in-Some.ensures, ← c.as_slice.ensures.value) c.all_rows.ensures
