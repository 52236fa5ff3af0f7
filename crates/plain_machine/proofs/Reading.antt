-- What the machine reads of files that carry a state.
use Rattle.std.proofs.Common.{◌≡◌, ℕ, List, ◌++◌, map, Some, Result, Ok, ℤ, refl, sym, ◌∙◌, ap, append_assoc}
use Rattle.std.specs.Prelude.{IsSome}
use Rattle.line_text.specs.declared.kinds.FileKind.{FileKind}
use Rattle.line_text.specs.declared.kinds.FileKind.TheVariants as kinds
use Rattle.shelf_core.specs.Files.{File, bytes_of}
use Rattle.residue_rows.specs.Kept.{RingSetting}
use Rattle.scheme_laws.specs.Scheme.{IsScheme}
use Rattle.scheme_laws.specs.Keys.{PublicKey}
use Rattle.scheme_laws.specs.Ciphers.{Cipher}
use Rattle.he_files.specs.declared.headers.Header.{Header}
use Rattle.he_files.specs.Header.{header_bytes, header_of, kind_byte}
use Rattle.he_files.specs.FileLaws.{AreNames, header_length}
use Rattle.he_files.specs.Secret.{secret_of, secret_bytes, entry_byte}
use Rattle.he_files.specs.PublicFile.{public_of, public_bytes, over_chain}
use Rattle.he_files.specs.CipherFile.{cipher_of_bytes, cipher_bytes, level, bound, at_level}
use Rattle.table_file.specs.Setting.{Setting}
use Rattle.cli_machine.specs.Machine.{file_of, loaded, table_on, chained_on, Chained, headed_on, Body, first_on, same_names, later_on}
use Rattle.cli_machine.specs.Plain.{HoldsTable}
use Rattle.cli_machine.proofs.Chains.{bind_ok, read_of, same_names_is}
use Rattle.plain_machine.specs.PlainState.{Sealed}
use Rattle.plain_machine.specs.Carrying.{HoldsScheme, scheme, HoldsSecret, CarriesPublic, CarriesCipher}
use Rattle.plain_machine.specs.Lower.{LowerLaws}

-- ---- what a file begins with, and what is behind it
secret_parts : (header : Header) (s : List ℤ) → secret_bytes header s ≡ header_bytes kinds.Secret header ++ map entry_byte s
unfolding secret_bytes
secret_parts header s = refl

public_parts : (ring : RingSetting) (header : Header) (key : PublicKey) → public_bytes ring header key ≡ header_bytes kinds.Public header ++ ((over_chain ring).spelled key.b ++ (over_chain ring).spelled key.a)
unfolding public_bytes
public_parts ring header key = append_assoc (header_bytes kinds.Public header) ((over_chain ring).spelled key.b) ((over_chain ring).spelled key.a)

cipher_parts : (ring : RingSetting) (header : Header) (c : Cipher)
    → cipher_bytes ring header c ≡ header_bytes kinds.Cipher header ++ ((level ring).spelled c.level ++ (bound.spelled c.bound ++ ((at_level ring c.level).spelled c.c0 ++ (at_level ring c.level).spelled c.c1)))
unfolding cipher_bytes
cipher_parts ring header c = four (header_bytes kinds.Cipher header) ((level ring).spelled c.level) (bound.spelled c.bound) ((at_level ring c.level).spelled c.c0) ((at_level ring c.level).spelled c.c1)
  where
    four : (h l b x y : List ℕ) → h ++ l ++ b ++ x ++ y ≡ h ++ (l ++ (b ++ (x ++ y)))
    four h l b x y = append_assoc (h ++ l ++ b) x y ∙ append_assoc (h ++ l) b (x ++ y) ∙ append_assoc h l (b ++ (x ++ y))

secret_known : IsSome (kind_byte kinds.Secret)
unfolding kind_byte
secret_known = refl

public_known : IsSome (kind_byte kinds.Public)
unfolding kind_byte
public_known = refl

cipher_known : IsSome (kind_byte kinds.Cipher)
unfolding kind_byte
cipher_known = refl

-- the table that is held, as the machine has it
abbrev pub chained_of : {header : Header} {files : List File} → HoldsScheme header files → Chained
chained_of table = record { setting = table.setting; ring = table.ring }

-- the table is read
pub table_read : (name : List ℕ) (setting : Setting) (files : List File) → HoldsTable name setting files → table_on name files ≡ Ok setting
unfolding table_on loaded
table_read name setting files holds = rw (holds.held, holds.read) refl

pub chained_read : (header : Header) (files : List File) (table : HoldsScheme header files) → chained_on header.table files ≡ Ok (chained_of table)
unfolding chained_on
chained_read header files table = rw (table_read header.table table.setting files table.holds, table.not_plain) refl

-- ---- what the machine reads
abbrev found : {A : Type 0} → A → Result A ℕ
found x = Ok x

same_read : {A : Type 0} (x y : A) → found x ≡ Ok y → x ≡ y
same_read x y is = cc

module _ (laws : LowerLaws) where
  pub scheme_is : {header : Header} {files : List File} → (table : HoldsScheme header files) → IsScheme (scheme table)
  scheme_is table = laws.accepted table.holds.text table.setting table.ring table.holds.read table.not_plain

  -- the header of a file
  header_read : (kind : FileKind) → IsSome (kind_byte kind) → (name : List ℕ) (header : Header) (bytes rest : List ℕ) (files : List File) → bytes_of (file_of kind name) files ≡ Some bytes
      → bytes ≡ header_bytes kind header ++ rest → AreNames header → headed_on (file_of kind name) files ≡ Ok (record { bytes = bytes; header = header; from = header_length header })
  unfolding headed_on loaded
  header_read kind known name header bytes rest files held parts names =
      let read : header_of kind bytes ≡ Ok (header, header_length header) = rw parts ((laws.header kind known).again header rest names) in
      rw (held, read) refl

  -- the first file of a line
  first_read : {A : Type 0} → (body : Body A) (kind : FileKind) → IsSome (kind_byte kind) → (name : List ℕ) (header : Header) (bytes rest : List ℕ) (files : List File) (table : HoldsScheme header files) (value : A)
      → bytes_of (file_of kind name) files ≡ Some bytes → bytes ≡ header_bytes kind header ++ rest → AreNames header → body table.ring bytes (header_length header) ≡ Ok value
      → first_on body (file_of kind name) files ≡ Ok (record { header = header; table = chained_of table; value = value })
  unfolding first_on
  first_read body kind known name header bytes rest files table value held parts names read =
      rw (header_read kind known name header bytes rest files held parts names, chained_read header files table, read) refl

  -- a secret that is held
  pub secret_read : (header : Header) (files : List File) (secret : HoldsSecret header files)
      → first_on secret_of (file_of kinds.Secret header.key) files ≡ Ok (record { header = header; table = chained_of secret.table; value = secret.secret })
  secret_read header files secret =
      first_read secret_of kinds.Secret secret_known header.key header (secret_bytes header secret.secret) (map entry_byte secret.secret) files secret.table secret.secret secret.spelled (secret_parts header secret.secret) secret.names
      ((laws.secret secret.table.ring header (scheme_is secret.table).setting secret.names).again secret.secret secret.is_secret)

  -- a public key
  pub public_read : (name : List ℕ) (header : Header) (files : List File) (public : CarriesPublic name header files)
      → first_on public_of (file_of kinds.Public name) files ≡ Ok (record { header = header; table = chained_of public.secret.table; value = public.key })
  public_read name header files public =
      first_read public_of kinds.Public public_known name header (public_bytes public.secret.table.ring header public.key) _ files public.secret.table public.key public.spelled (public_parts public.secret.table.ring header public.key) public.secret.names
      (laws.public public.secret.table.ring header (scheme_is public.secret.table).setting public.secret.names public.secret.secret public.key public.secret.is_secret public.of_secret)

  -- a ciphertext that is read behind another file has its names, and under the same table it is the one that is held
  pub cipher_read : (name : List ℕ) (sealed : Sealed) (files : List File) (carried : CarriesCipher name sealed files) (want : Header) (ring : RingSetting) (c : Cipher)
      → later_on cipher_of_bytes want ring (file_of kinds.Cipher name) files ≡ Ok c → (want ≡ sealed.header) × (ring ≡ carried.secret.table.ring → c ≡ carried.cipher)
  unfolding later_on
  cipher_read name sealed files carried want ring c is =
      let own = carried.secret.table.ring in
      let bytes = cipher_bytes own sealed.header carried.cipher in
      let from = header_length sealed.header in
      let again = (laws.cipher (scheme carried.secret.table) sealed.header (scheme_is carried.secret.table).setting carried.secret.names).again carried.cipher carried.is_cipher carried.bound in
      let headed = header_read kinds.Cipher cipher_known name sealed.header bytes _ files carried.spelled (cipher_parts own sealed.header carried.cipher) carried.secret.names in
      let named = bind_ok (same_names want sealed.header) _ c (rw headed at is) in
      let read = read_of _ (cipher_of_bytes ring bytes from) c named.2 in
      (same_names_is want sealed.header named.0 named.1, λ same. same_read c carried.cipher (sym read ∙ ap (λ r. cipher_of_bytes r bytes from) same ∙ again))
