-- What contracts see of keys.
use Rattle.std.specs.Prelude.{◌≡◌, false, length}
use Rattle.cyclotomic.specs.Cyclotomic.{degree}
use Rattle.residue_rows.specs.Kept.{RingSetting, Residues, IsKept}
use Rattle.scheme_laws.specs.Keys.{PublicKey}
use Rattle.key_switch.specs.declared.keys.Secret.{Secret}
use Rattle.key_switch.specs.declared.keys.Public.{Public}

-- the residues of its parts
abbrev pub key_of : Public → PublicKey
key_of k = record { b = k.b.rows; a = k.a.rows }

-- the secret has as many coefficients as the elements of the ring
abbrev pub IsSecretUnder : RingSetting → Secret → Type 0
IsSecretUnder r s = length s.coeffs.items ≡ degree r.moduli.m

-- a polynomial of these tables, modulo all moduli of the chain and no special ones
pub record IsWholeChain (r : RingSetting) (a : Residues) : Type 0 where
  pub tables : a.tables ≡ r
  pub chain_rows : a.chain_rows ≡ length r.moduli.chain
  pub special : a.special ≡ false
  pub kept : IsKept a

-- so are both parts of the key
pub record IsPublicUnder (r : RingSetting) (k : Public) : Type 0 where
  pub b : IsWholeChain r k.b
  pub a : IsWholeChain r k.a
