use Rattle.table_file.proofs.SchemeMade.{scheme_made}
use Rattle.table_file.proofs.laws.law_accepted.Goals as goal

pub returns : goal.returns
returns c = scheme_made c.law_documents.ensures c.law_degree_is_units.ensures c.law_checks.ensures.passes c.law_checks-2.ensures.frobenius c.law_checks-3.ensures
