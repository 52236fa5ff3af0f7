use Rattle.toml.proofs.Views.{table_get}
use Rattle.table_keys.specs.Values.{value_at}
use Rattle.table_keys.proofs.values.value_at.Goals as goal

pub returns : goal.returns
unfolding value_at
returns c = rw (← c.word.ensures) (table_get c.get.result c.word.result.now c.args.members.now.entries c.get.ensures.value)
