-- What contracts see of a scheme, of its ciphertexts, and of its refusals.
use Rattle.std.specs.Prelude.{◌≡◌, ℕ, ◌≤◌}
use Rattle.draw_stream.specs.Draw.{Stream}
use Rattle.noise_bound.specs.Value.{value}
use Rattle.slot_laws.specs.Checks.{IsPacking}
use Rattle.residue_rows.specs.Kept.{RingSetting, IsSetting, IsKept}
use Rattle.scheme_laws.specs.Scheme.{SchemeSetting, IsScheme}
use Rattle.scheme_laws.specs.Ciphers.{Cipher as Ciphertext}
use Rattle.cipher_core.specs.declared.schemes.Scheme.{Scheme}
use Rattle.cipher_core.specs.declared.ciphers.Cipher.{Cipher}
use Rattle.cipher_core.specs.declared.faults.CipherFault.{CipherFault}
use Rattle.cipher_core.specs.declared.faults.CipherFault.TheVariants.{TooNoisy, Memory}

-- the tables of its ring, and its slots
abbrev pub setting_of : Scheme → SchemeSetting
setting_of s = record { ring = s.tables.value; field = s.slots.value.field; cube = s.slots.value.cube }

-- the level, the number that the bound is, and the residues of the parts
abbrev pub cipher_of : Cipher → Ciphertext
cipher_of c = record { level = c.level; bound = value c.bound; c0 = c.c0.rows; c1 = c.c1.rows }

-- both parts are polynomials of these tables
pub record ArePartsUnder (r : RingSetting) (c : Cipher) : Type 0 where
  pub tables : c.c0.tables ≡ r
  pub c0_kept : IsKept c.c0
  pub c1_kept : IsKept c.c1

-- a refusal as too noisy names this bound and this limit, which is not above it; else memory is wanting
abbrev pub IsTooNoisy : ℕ → ℕ → CipherFault → Type 0
IsTooNoisy bound limit (TooNoisy b l) = (value b ≡ bound) × (value l ≡ limit) × (limit ≤ bound)
IsTooNoisy bound limit Memory = Unit {0}

-- where it is refused as too noisy, no word has been drawn
abbrev pub LeavesDraws : Stream → Stream → CipherFault → Type 0
LeavesDraws old new (TooNoisy b l) = new ≡ old
LeavesDraws old new Memory = Unit {0}

-- the parts of a scheme are of accepted tables that fit
abbrev pub PartsMakeScheme : Type 0
PartsMakeScheme = (s : Scheme) → IsSetting s.tables.value → IsPacking s.slots.value.field s.slots.value.cube → IsScheme (setting_of s)
