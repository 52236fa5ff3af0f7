use Rattle.table_keys.proofs.WrittenLaws.{document_of-written, written-shallow}
use Rattle.table_keys.proofs.writer.write_document.Goals as goal

pub returns-in-Ok : goal.returns-in-Ok
returns-in-Ok c =
    document_of-written c.bytes_of.result.items c.args.document.now c.requires c.bytes_of.ensures.utf8
    (rw (c.bytes_of.ensures.value, ← c.in_ok-members.ensures) (c.in-Ok.ensures.reads_back (rw c.in_ok-members.ensures (written-shallow c.args.document.now))))
