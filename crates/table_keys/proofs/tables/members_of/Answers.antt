use Rattle.table_keys.proofs.ValueLaws.{members_of-no_text, members_of-text}
use Rattle.table_keys.proofs.tables.members_of.Goals as goal

pub returns-in_default : goal.returns-in_default
returns-in_default c _ = members_of-no_text c.args.bytes.now c.in_default.ensures.cases.0

pub returns-in-Ok-table_from_str : goal.returns-in-Ok-table_from_str
returns-in-Ok-table_from_str c =
    members_of-text c.args.bytes.now c.in-Ok.text.now _ c.in-Ok.ensures.cases.0 c.in-Ok.ensures.cases.1 c.in-Ok-table_from_str.ensures.ok
