use Rattle.std.proofs.Common.{true}
use mathlib.Core.Bool.{Bool-set}
use mathlib.Core.Logic.{∥∥₁_elim}
use Rattle.std.specs.Str.{is_utf8}
use Rattle.std.proofs.lemmas.Str.{is_utf8-from_IsUtf8}
use Rattle.table_keys.proofs.writer.bytes_of.Goals as goal

pub returns-clause-utf8 : goal.returns-clause-utf8
returns-clause-utf8 c =
    rw c.into_bytes.ensures.value
    (∥∥₁_elim c.args.text.ok (Bool-set (is_utf8 c.args.text.bytes.items) true) (λ q. is_utf8-from_IsUtf8 c.args.text.bytes.items q))
