-- What is said of keys and ciphertexts, for a scheme whose table has passed its checks.
use Rattle.std.specs.Prelude.{◌≡◌, ℕ, ◌*◌, ◌/◌, ◌^◌, ◌<◌, ◌≤◌, List, ℤ, pos}
use Rattle.cyclotomic.specs.Cyclotomic.{R, IsElement, multiple}
use Rattle.cyclotomic.specs.Norm.{one_norm, height}
use Rattle.draw_stream.specs.Draw.{Stream, errors_at}
use Rattle.slot_array.specs.Arrays.{Array, IsArray}
use Rattle.slot_laws.specs.Slots.{encode}
use Rattle.noise_bound.specs.Machine.{IsSizes}
use Rattle.residue_rows.specs.Rows.{AreRows}
use Rattle.residue_rows.specs.Kept.{RingSetting, IsSetting}
use Rattle.scheme_laws.specs.Scheme.{SchemeSetting, IsScheme, sizes_of, top, moduli_at, rows_at}
use Rattle.scheme_laws.specs.Keys.{PublicKey, n_of, IsSecret, IsError, IsPublicOf, public_part, secret_drawn, public_drawn, uniform_rows}
use Rattle.scheme_laws.specs.Ciphers.{Cipher, IsCipher, IsSmall, limit_at, encrypted, encryption_drawn, decrypted, Stands}

-- the sizes of an accepted table are such that its bounds are made, where the height fits 31 bits
abbrev pub SizesLaw : Type 0
SizesLaw = (r : RingSetting) → IsSetting r → height r.moduli.m < 2 ^ 31 → IsSizes (sizes_of r)

-- draws are secrets, errors, small polynomials and rows
pub record DrawsAre (r : RingSetting) : Type 0 where
  pub secret : (stream : Stream) → IsSecret r (secret_drawn r stream)
  pub error : (stream : Stream) (place : ℕ) → IsError r (errors_at stream place (n_of r))
  pub uniform : (stream : Stream) (place : ℕ) → AreRows r.moduli.m (moduli_at r (top r)) (uniform_rows stream place (n_of r) (moduli_at r (top r)))
  pub public : (s : List ℤ) (stream : Stream) → IsPublicOf r s (public_drawn r s stream)

abbrev pub DrawsLaw : Type 0
DrawsLaw = (r : RingSetting) → IsSetting r → DrawsAre r

-- the sums of the absolute coefficients of what encryption adds up
pub record NormCounts (t : SchemeSetting) : Type 0 where
  pub encoded : (x : Array) → one_norm (encode t.field t.cube x) ≤ n_of t.ring * (t.ring.moduli.p / 2)
  pub secret : (s : List ℤ) → IsSecret t.ring s → one_norm s ≡ t.ring.weight
  pub error : (e : List ℤ) → IsError t.ring e → one_norm e ≤ 10 * n_of t.ring
  pub small : (u : List ℤ) → IsSmall t u → one_norm u ≤ n_of t.ring

abbrev pub NormCountsLaw : Type 0
NormCountsLaw = (t : SchemeSetting) → IsScheme t → NormCounts t

-- the equation of a public key, over whole polynomials: -a*s + p*e
abbrev pub PublicPartIsWhole : Type 0
PublicPartIsWhole = (r : RingSetting) → IsSetting r → (s a e : List ℤ) → IsElement r.moduli.m s → IsElement r.moduli.m a → IsElement r.moduli.m e → let o = R r.moduli.m in public_part r s (rows_at r (top r) a) e ≡ rows_at r (top r) (o.add (o.neg (o.mul a s)) (multiple (pos r.moduli.p) e))

-- a fresh ciphertext stands for its array, with the bound of fresh ciphertexts
abbrev pub FreshStands : Type 0
FreshStands = (t : SchemeSetting) → IsScheme t → (s : List ℤ) (key : PublicKey) (r e0 e1 : List ℤ) (x : Array) → IsSecret t.ring s → IsPublicOf t.ring s key → IsSmall t r → IsError t.ring e0 → IsError t.ring e1 → IsArray t.field t.cube x → IsCipher t (encrypted t key r e0 e1 x) × Stands t s (encrypted t key r e0 e1 x) x

-- so does the one that a stream gives
abbrev pub DrawnStands : Type 0
DrawnStands = (t : SchemeSetting) → IsScheme t → (s : List ℤ) (key : PublicKey) (stream : Stream) (x : Array) → IsSecret t.ring s → IsPublicOf t.ring s key → IsArray t.field t.cube x → IsCipher t (encryption_drawn t key stream x) × Stands t s (encryption_drawn t key stream x) x

-- a ciphertext that stands for an array, with its bound below the limit of its level, decrypts to it
abbrev pub DecryptsLaw : Type 0
DecryptsLaw = (t : SchemeSetting) → IsScheme t → (s : List ℤ) (c : Cipher) (x : Array) → IsSecret t.ring s → IsCipher t c → Stands t s c x → c.bound < limit_at t c.level → decrypted t s c ≡ x
