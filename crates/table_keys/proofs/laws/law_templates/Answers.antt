use Rattle.table_keys.proofs.WholeLaws.{template_of-shape}
use Rattle.table_keys.proofs.laws.law_templates.Goals as goal

pub returns : goal.returns
returns c = template_of-shape
