-- What is known of an accepted table that has moduli.
use Rattle.std.specs.Prelude.{◌≡◌, ℕ, List, Some, Ok}
use Rattle.residue_rows.specs.Kept.{RingSetting}
use Rattle.scheme_laws.specs.Scheme.{IsScheme}
use Rattle.table_file.specs.Accepted.{table_of}
use Rattle.table_file.specs.Setting.{Setting, scheme_of}

-- its ring and its slots make a scheme: all that the laws of keys and ciphertexts take as given
abbrev pub AcceptedIsScheme : Type 0
AcceptedIsScheme = (text : List ℕ) (s : Setting) (ring : RingSetting) → table_of text ≡ Ok s → s.chain ≡ Some ring → IsScheme (scheme_of s ring)
