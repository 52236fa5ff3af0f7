use Rattle.he_files.proofs.SecretFiles.{secret_law}
use Rattle.he_files.proofs.laws.law_secret.Goals as goal

pub returns : goal.returns
returns c = secret_law
