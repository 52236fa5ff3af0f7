use Rattle.scheme_laws.proofs.Decrypting.{decrypts}
use Rattle.scheme_laws.proofs.scheme.law_decrypts.Goals as goal

pub returns : goal.returns
returns c = decrypts
