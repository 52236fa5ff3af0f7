use Rattle.toml.specs.View.{table_view}
use Rattle.table_keys.proofs.WholeLaws.{shape_of_given}
use Rattle.table_keys.proofs.tables.read_document.Goals as goal

pub returns-clause-shape : goal.returns-clause-shape
returns-clause-shape c = shape_of_given c.table_of.result (table_view c.in_ok-members.members) c.table_of.ensures
