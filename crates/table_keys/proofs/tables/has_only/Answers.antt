use Rattle.std.proofs.Common.{◌∙◌}
use Rattle.table_keys.proofs.ValueLaws.{has_only_of_view}
use Rattle.table_keys.proofs.tables.has_only.Goals as goal

pub returns : goal.returns
returns c = c.are_keys.ensures ∙ has_only_of_view c.args.keys.now c.args.members.now.entries
