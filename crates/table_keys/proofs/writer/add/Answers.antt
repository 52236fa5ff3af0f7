use Rattle.std.proofs.Common.{refl}
use Rattle.table_keys.specs.Written.{with_key}
use Rattle.table_keys.proofs.WriteLaws.{members_view-insert_entry}
use Rattle.table_keys.proofs.writer.add.Goals as goal

pub returns-in-Ok : goal.returns-in-Ok
unfolding with_key
returns-in-Ok c =
    rw (c.in-Ok.ensures.entries, members_view-insert_entry c.args.members.now.entries c.in_ok-name.name c.args.value, c.in_ok-name.ensures.ok, c.word.ensures) refl
