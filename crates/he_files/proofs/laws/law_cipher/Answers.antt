use Rattle.he_files.proofs.CipherFiles.{cipher_law}
use Rattle.he_files.proofs.laws.law_cipher.Goals as goal

pub returns : goal.returns
returns c = cipher_law
