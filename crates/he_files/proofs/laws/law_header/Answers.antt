use Rattle.he_files.proofs.HeaderForms.{headers_are}
use Rattle.he_files.proofs.laws.law_header.Goals as goal

pub returns : goal.returns
returns c = headers_are
