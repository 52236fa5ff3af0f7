-- What a made table is read as.
use Rattle.std.proofs.Common.{◌≡◌, ℕ, List, Ok, refl}
use Rattle.table_file.specs.Accepted.{accepted, table_of}
use Rattle.table_keys.specs.Documents.{Document, document_of}

-- the table of a text is the one that its document sets, where this passes the checks
pub table_of_text : (text : List ℕ) (table : Document) → document_of text ≡ Ok table → table_of text ≡ accepted table
unfolding table_of
table_of_text text table read = rw read refl
