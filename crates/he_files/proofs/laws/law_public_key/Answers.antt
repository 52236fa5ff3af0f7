use Rattle.he_files.proofs.PublicKeys.{public_key_law}
use Rattle.he_files.proofs.laws.law_public_key.Goals as goal

pub returns : goal.returns
returns c = public_key_law
