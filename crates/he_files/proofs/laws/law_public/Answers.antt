use Rattle.he_files.proofs.PublicFiles.{public_law}
use Rattle.he_files.proofs.laws.law_public.Goals as goal

pub returns : goal.returns
returns c = public_law
