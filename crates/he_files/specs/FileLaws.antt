-- What is said of the files: what was written is read again, and what is read was spelled so, each byte of it.
use Rattle.std.specs.Prelude.{◌≡◌, ℕ, ◌+◌, ◌<◌, false, IsSome, All, List, ◌++◌, length, Ok, ℤ}
use Rattle.line_text.specs.declared.kinds.FileKind.{FileKind}
use Rattle.line_text.specs.declared.kinds.FileKind.TheVariants as kinds
use Rattle.line_text.specs.Names.{IsName}
use Rattle.noise_bound.specs.Rounding.{IsFloating, exponent}
use Rattle.residue_rows.specs.Rows.{AreRows}
use Rattle.residue_rows.specs.Kept.{RingSetting, IsSetting, moduli_kept}
use Rattle.scheme_laws.specs.Scheme.{SchemeSetting}
use Rattle.scheme_laws.specs.Keys.{PublicKey, IsSecret, IsPublicOf}
use Rattle.scheme_laws.specs.Ciphers.{Cipher, IsCipher}
use Rattle.he_files.specs.declared.headers.Header.{Header}
use Rattle.he_files.specs.Header.{kind_byte, header_bytes, header_of}
use Rattle.he_files.specs.Secret.{secret_bytes, secret_of}
use Rattle.he_files.specs.PublicFile.{public_bytes, public_of}
use Rattle.he_files.specs.CipherFile.{cipher_bytes, cipher_of_bytes}

abbrev pub AreBytes : List ℕ → Type 0
AreBytes bytes = All (λ b. b < 256) bytes

-- the names of a header are names
pub record AreNames (h : Header) : Type 0 where
  pub table : IsName h.table
  pub key : IsName h.key

-- how long a header is
abbrev pub header_length : Header → ℕ
header_length h = 8 + length h.table + length h.key

-- a file begins with this header, and its body at this offset
pub record BeginsWith (k : FileKind) (bytes : List ℕ) (h : Header) (from : ℕ) : Type 0 where
  pub names : AreNames h
  pub rest : List ℕ
  pub parts : bytes ≡ header_bytes k h ++ rest
  pub offset : from ≡ header_length h

pub record HeadersAre (k : FileKind) : Type 0 where
  -- its length
  pub long : (h : Header) → length (header_bytes k h) ≡ header_length h
  -- a header is read again, whatever follows
  pub again : (h : Header) (rest : List ℕ) → AreNames h → header_of k (header_bytes k h ++ rest) ≡ Ok (h, header_length h)
  -- a header that is read was spelled so
  pub spelled : (bytes : List ℕ) (h : Header) (from : ℕ) → AreBytes bytes → header_of k bytes ≡ Ok (h, from) → BeginsWith k bytes h from

-- of each kind that has a byte
abbrev pub HeaderLaw : Type 0
HeaderLaw = (k : FileKind) → IsSome (kind_byte k) → HeadersAre k

pub record SecretsAre (t : RingSetting) (h : Header) : Type 0 where
  pub again : (s : List ℤ) → IsSecret t s → secret_of t (secret_bytes h s) (header_length h) ≡ Ok s
  pub spelled : (bytes : List ℕ) (from : ℕ) (s : List ℤ) → AreBytes bytes → BeginsWith kinds.Secret bytes h from → secret_of t bytes from ≡ Ok s → IsSecret t s × (bytes ≡ secret_bytes h s)

abbrev pub SecretLaw : Type 0
SecretLaw = (t : RingSetting) (h : Header) → IsSetting t → AreNames h → SecretsAre t h

-- residues modulo each modulus of the chain
pub record ArePublicRows (t : RingSetting) (key : PublicKey) : Type 0 where
  pub b_in : AreRows t.moduli.m (moduli_kept t (length t.moduli.chain) false) key.b
  pub a_in : AreRows t.moduli.m (moduli_kept t (length t.moduli.chain) false) key.a

pub record PublicsAre (t : RingSetting) (h : Header) : Type 0 where
  pub again : (key : PublicKey) → ArePublicRows t key → public_of t (public_bytes t h key) (header_length h) ≡ Ok key
  pub spelled : (bytes : List ℕ) (from : ℕ) (key : PublicKey) → AreBytes bytes → BeginsWith kinds.Public bytes h from → public_of t bytes from ≡ Ok key → ArePublicRows t key × (bytes ≡ public_bytes t h key)

abbrev pub PublicLaw : Type 0
PublicLaw = (t : RingSetting) (h : Header) → IsSetting t → AreNames h → PublicsAre t h

-- the file of a public key of a secret is read as that key
abbrev pub PublicKeyLaw : Type 0
PublicKeyLaw = (t : RingSetting) (h : Header) → IsSetting t → AreNames h → (s : List ℤ) (key : PublicKey) → IsSecret t s → IsPublicOf t s key → public_of t (public_bytes t h key) (header_length h) ≡ Ok key

-- a bound that a file can spell
pub record IsSpelledBound (b : ℕ) : Type 0 where
  pub floating : IsFloating b
  pub small : exponent b < 4096

pub record CiphersAre (t : SchemeSetting) (h : Header) : Type 0 where
  pub again : (c : Cipher) → IsCipher t c → IsSpelledBound c.bound → cipher_of_bytes t.ring (cipher_bytes t.ring h c) (header_length h) ≡ Ok c
  pub spelled : (bytes : List ℕ) (from : ℕ) (c : Cipher) → AreBytes bytes → BeginsWith kinds.Cipher bytes h from → cipher_of_bytes t.ring bytes from ≡ Ok c → IsCipher t c × IsSpelledBound c.bound × (bytes ≡ cipher_bytes t.ring h c)

abbrev pub CipherLaw : Type 0
CipherLaw = (t : SchemeSetting) (h : Header) → IsSetting t.ring → AreNames h → CiphersAre t h
