use Rattle.toml.specs.View.{table_view}
use Rattle.table_keys.proofs.WholeLaws.{template_in-shape}
use Rattle.table_keys.proofs.templates.read_template.Goals as goal

pub returns-clause-shape : goal.returns-clause-shape
returns-clause-shape c = template_in-shape c.in_ok-template.template (table_view c.in_ok-members.members) c.in_ok-template.ensures
