use Rattle.table_keys.proofs.WholeLaws.{document_of-shape}
use Rattle.table_keys.proofs.laws.law_documents.Goals as goal

pub returns : goal.returns
returns c = document_of-shape
