-- A line that is done leaves files that carry the state that it makes.
use Rattle.std.proofs.Common.{◌≡◌, ◌≢◌, ℕ, ◌<◌, List, [], ◌∷◌, ◌++◌, length, Option, Some, None, Ok, Err, ℤ, refl, sym, ap, subst}
use Rattle.line_text.specs.declared.kinds.FileKind.TheVariants as kinds
use Rattle.line_text.specs.declared.kinds.FileName.{FileName}
use Rattle.shelf_core.specs.Files.{File, bytes_of}
use Rattle.slot_array.specs.Arrays.{Array, IsArray}
use Rattle.noise_bound.specs.Machine.{fresh, limit}
use Rattle.scheme_laws.specs.Scheme.{IsScheme, SchemeSetting, sizes_of, top}
use Rattle.scheme_laws.specs.Keys.{PublicKey, public_drawn, secret_drawn}
use Rattle.scheme_laws.specs.Ciphers.{Cipher, encryption_drawn}
use Rattle.he_files.specs.declared.headers.Header.{Header}
use Rattle.he_files.specs.Secret.{secret_of, secret_bytes}
use Rattle.he_files.specs.PublicFile.{public_of, public_bytes}
use Rattle.he_files.specs.CipherFile.{cipher_of_bytes, cipher_bytes}
use Rattle.table_file.specs.Accepted.{accepted}
use Rattle.cli_machine.specs.declared.cause.Cause.TheVariants.{NoFile, NoRoot, BadTable}
use Rattle.cli_machine.specs.declared.command.Command.{Command}
use Rattle.cli_machine.specs.declared.command.Command.TheVariants.{Clear, Summarise, MakeTable, KeyGen, PubKey, Encrypt, Decrypt, Noise}
use Rattle.cli_machine.specs.Clauses.{LeavesDone}
use Rattle.cli_machine.specs.Effects.{Wanted}
use Rattle.cli_machine.specs.Machine.{or_else, file_of, loaded, free, table_on, program_on, arrays_on, array_on, matched, clear_on, summarise_on, template_on, make_table_on, seed_on, draws_of, chained_on, Chained, headed_on, Body, first_on, later_on, quiet, key_gen_on, pub_key_on, encrypt_on, decrypt_on, noise_on, command_on}
use Rattle.cli_machine.proofs.Chains.{free_is, holds_array, holds_chained, HoldsChained, on_bind, On, quiet_is}
use Rattle.plain_machine.specs.PlainState.{Sealed, PlainState, input_of, sealed_by, after_command}
use Rattle.plain_machine.specs.Carrying.{HoldsScheme, scheme, HoldsSecret, CarriesSecret, CarriesPublic, CarriesCipher, Carries}
use Rattle.plain_machine.proofs.CommandNames.{NamesKey}
use Rattle.plain_machine.proofs.FreshBound.{fresh_spelled}
use Rattle.plain_machine.proofs.Growth.{held_grows, new_held, absent_grows, At, Names, other_kind, new_name}
use Rattle.plain_machine.specs.Lower.{LowerLaws}
use Rattle.plain_machine.proofs.Reading.{chained_of, table_read, scheme_is, secret_read, public_read}

-- ---- what is carried lasts when files are added
abbrev scheme_grows : (header : Header) (files more : List File) → HoldsScheme header files → HoldsScheme header (files ++ more)
scheme_grows header files more table = record {
  setting = table.setting;
  ring = table.ring;
  holds = record { text = table.holds.text; held = held_grows (file_of kinds.Table header.table) files more table.holds.text table.holds.held; read = table.holds.read };
  not_plain = table.not_plain;
}

abbrev secret_grows : (header : Header) (files more : List File) → HoldsSecret header files → HoldsSecret header (files ++ more)
secret_grows header files more secret = record {
  names = secret.names;
  table = scheme_grows header files more secret.table;
  secret = secret.secret;
  is_secret = secret.is_secret;
  spelled = held_grows (file_of kinds.Secret header.key) files more (secret_bytes header secret.secret) secret.spelled;
}

named_secret_grows : (name : List ℕ) (header : Header) (files more : List File) → CarriesSecret name header files → CarriesSecret name header (files ++ more)
named_secret_grows name header files more is = record { own_name = is.own_name; secret = secret_grows header files more is.secret }

public_grows : (name : List ℕ) (header : Header) (files more : List File) → CarriesPublic name header files → CarriesPublic name header (files ++ more)
public_grows name header files more is = record {
  secret = secret_grows header files more is.secret;
  key = is.key;
  of_secret = is.of_secret;
  spelled = held_grows (file_of kinds.Public name) files more (public_bytes is.secret.table.ring header is.key) is.spelled;
}

cipher_grows : (name : List ℕ) (sealed : Sealed) (files more : List File) → CarriesCipher name sealed files → CarriesCipher name sealed (files ++ more)
cipher_grows name sealed files more is = record {
  secret = secret_grows sealed.header files more is.secret;
  cipher = is.cipher;
  is_cipher = is.is_cipher;
  bound = is.bound;
  stands = is.stands;
  below = is.below;
  spelled = held_grows (file_of kinds.Cipher name) files more (cipher_bytes is.secret.table.ring sealed.header is.cipher) is.spelled;
}

-- a file that the machine does not find
pub first_absent : {A : Type 0} → (body : Body A) (file : FileName) (files : List File) → bytes_of file files ≡ None → first_on body file files ≡ Err (NoFile file)
unfolding first_on headed_on loaded
first_absent body file files absent = rw absent refl

module _ (laws : LowerLaws) (state : PlainState) (files : List File) (C : Carries state files) where
  -- what a command that is done leaves carries the state that it makes
  abbrev pub Keeps : Command → Wanted → Type 0
  Keeps command wanted = (new : List File) → LeavesDone (Ok wanted) files new → Carries (after_command command state files) new

  abbrev with_file : FileName → List ℕ → List File
  with_file name bytes = files ++ record { name = name; bytes = bytes } ∷ []

  -- the names of kinds that the new file is not of
  other_secrets : (file : File) → bytes_of file.name files ≡ None → file.name.kind ≢ kinds.Secret → Names kinds.Secret CarriesSecret state.secrets (files ++ file ∷ [])
  other_secrets file free other = other_kind laws kinds.Secret CarriesSecret named_secret_grows state.secrets file files free other C.secrets

  other_publics : (file : File) → bytes_of file.name files ≡ None → file.name.kind ≢ kinds.Public → Names kinds.Public CarriesPublic state.publics (files ++ file ∷ [])
  other_publics file free other = other_kind laws kinds.Public CarriesPublic public_grows state.publics file files free other C.publics

  other_ciphers : (file : File) → bytes_of file.name files ≡ None → file.name.kind ≢ kinds.Cipher → Names kinds.Cipher CarriesCipher state.ciphers (files ++ file ∷ [])
  other_ciphers file free other = other_kind laws kinds.Cipher CarriesCipher cipher_grows state.ciphers file files free other C.ciphers

  no_evaluation : (file : File) → bytes_of file.name files ≡ None → file.name.kind ≢ kinds.Eval → (name : List ℕ) → bytes_of (file_of kinds.Eval name) (files ++ file ∷ []) ≡ None
  no_evaluation file free other name = absent_grows laws file (file_of kinds.Eval name) files free (λ same. other (ap (λ (f : FileName). f.kind) same)) (C.no_evaluation name)

  -- ---- `keygen`
  key_gen_saved : (table key seed : List ℕ) (stream : ℕ) → NamesKey (KeyGen table key seed stream) → (found : Chained) → HoldsChained table found files → (bytes : List ℕ) → bytes_of (file_of kinds.Secret key) files ≡ None
      → Carries (after_command (KeyGen table key seed stream) state files) (with_file (file_of kinds.Secret key) (secret_bytes (record { table = table; key = key }) (secret_drawn found.ring (draws_of bytes stream))))
  key_gen_saved table key seed stream names found held bytes free =
      let header : Header = record { table = table; key = key } in
      let drawn : List ℤ = secret_drawn found.ring (draws_of bytes stream) in
      let file : File = record { name = file_of kinds.Secret key; bytes = secret_bytes header drawn } in
      let scheme_held : HoldsScheme header files = record { setting = found.setting; ring = found.ring; holds = held.holds; not_plain = held.not_plain } in
      let secret : HoldsSecret header (files ++ file ∷ []) = record {
        names = record { table = names.0; key = names.1 };
        table = scheme_grows header files (file ∷ []) scheme_held;
        secret = drawn;
        is_secret = (laws.draws found.ring (scheme_is laws scheme_held).setting).secret (draws_of bytes stream);
        spelled = new_held laws file files free;
      } in
      record {
        secrets = new_name laws kinds.Secret CarriesSecret named_secret_grows state.secrets key file.bytes (Some header) header files refl free (record { own_name = refl; secret = secret }) C.secrets;
        publics = other_publics file free (λ e. absurd (cc));
        ciphers = other_ciphers file free (λ e. absurd (cc));
        no_evaluation = no_evaluation file free (λ e. absurd (cc));
      }

  pub key_gen_keeps : (table key seed : List ℕ) (stream : ℕ) → NamesKey (KeyGen table key seed stream) → On (Keeps (KeyGen table key seed stream)) (key_gen_on table key seed stream files)
  unfolding key_gen_on
  key_gen_keeps table key seed stream names =
      let K : Wanted → Type 0 = Keeps (KeyGen table key seed stream) in
      on_bind K (chained_on table files) _ (λ found found_is. on_bind K (seed_on seed files) _ (λ bytes bytes_is. on_bind K (free (file_of kinds.Secret key) files) _ (λ u u_is. λ new new_is.
      subst (Carries (after_command (KeyGen table key seed stream) state files)) (sym new_is) (key_gen_saved table key seed stream names found (holds_chained table files found found_is) bytes (free_is _ files u u_is)))))

  -- ---- `pubkey`
  pub_key_saved : (key seed : List ℕ) (stream : ℕ) (header : Header) → state.secrets key ≡ Some header → (secret : HoldsSecret header files) (bytes : List ℕ) → bytes_of (file_of kinds.Public key) files ≡ None
      → Carries (after_command (PubKey key seed stream) state files) (with_file (file_of kinds.Public key) (public_bytes secret.table.ring header (public_drawn secret.table.ring secret.secret (draws_of bytes stream))))
  pub_key_saved key seed stream header is secret bytes free =
      let drawn : PublicKey = public_drawn secret.table.ring secret.secret (draws_of bytes stream) in
      let file : File = record { name = file_of kinds.Public key; bytes = public_bytes secret.table.ring header drawn } in
      let public : CarriesPublic key header (files ++ file ∷ []) = record {
        secret = secret_grows header files (file ∷ []) secret;
        key = drawn;
        of_secret = (laws.draws secret.table.ring (scheme_is laws secret.table).setting).public secret.secret (draws_of bytes stream);
        spelled = new_held laws file files free;
      } in
      record {
        secrets = other_secrets file free (λ e. absurd (cc));
        publics = new_name laws kinds.Public CarriesPublic public_grows state.publics key file.bytes (state.secrets key) header files is free public C.publics;
        ciphers = other_ciphers file free (λ e. absurd (cc));
        no_evaluation = no_evaluation file free (λ e. absurd (cc));
      }

  pub pub_key_keeps : (key seed : List ℕ) (stream : ℕ) → On (Keeps (PubKey key seed stream)) (pub_key_on key seed stream files)
  unfolding pub_key_on
  pub_key_keeps key seed stream = go (state.secrets key) refl (C.secrets key)
    where
      go : (value : Option Header) → state.secrets key ≡ value → At kinds.Secret CarriesSecret key files value → On (Keeps (PubKey key seed stream)) (pub_key_on key seed stream files)
      go None is absent = rw (first_absent secret_of (file_of kinds.Secret key) files absent) tt
      go (Some header) is named =
          let K : Wanted → Type 0 = Keeps (PubKey key seed stream) in
          rw (subst (λ name. first_on secret_of (file_of kinds.Secret name) files ≡ Ok (record { header = header; table = chained_of named.secret.table; value = named.secret.secret })) named.own_name (secret_read laws header files named.secret))
          (on_bind K (seed_on seed files) _ (λ bytes bytes_is. on_bind K (free (file_of kinds.Public key) files) _ (λ u u_is. λ new new_is.
          subst (Carries (after_command (PubKey key seed stream) state files)) (sym new_is) (pub_key_saved key seed stream header is named.secret bytes (free_is _ files u u_is)))))

  -- ---- `encrypt`
  -- the array of an input, as the plain machine has it
  input_is : (state_key : List ℕ) (header : Header) → state.publics state_key ≡ Some header → (table : HoldsScheme header files) (input : List ℕ) (x : Array) → array_on table.setting.packing input files ≡ Ok x
      → sealed_by state state_key input files ≡ Some (record { header = header; array = x })
  unfolding sealed_by input_of
  input_is state_key header is table input x read = rw (is, table_read header.table table.setting files table.holds, read) refl

  encrypt_saved : (key cipher seed : List ℕ) (stream : ℕ) (input : List ℕ) (header : Header) → state.publics key ≡ Some header → (public : CarriesPublic key header files) (bytes : List ℕ) (x : Array)
      → array_on public.secret.table.setting.packing input files ≡ Ok x → bytes_of (file_of kinds.Cipher cipher) files ≡ None → fresh (sizes_of public.secret.table.ring) < limit (sizes_of public.secret.table.ring) (top public.secret.table.ring)
      → Carries (after_command (Encrypt key cipher seed stream input) state files) (with_file (file_of kinds.Cipher cipher) (cipher_bytes public.secret.table.ring header (encryption_drawn (scheme public.secret.table) public.key (draws_of bytes stream) x)))
  encrypt_saved key cipher seed stream input header is public bytes x read free below =
      let t : SchemeSetting = scheme public.secret.table in
      let drawn : Cipher = encryption_drawn t public.key (draws_of bytes stream) x in
      let file : File = record { name = file_of kinds.Cipher cipher; bytes = cipher_bytes public.secret.table.ring header drawn } in
      let sealed : Sealed = record { header = header; array = x } in
      let T : IsScheme t = scheme_is laws public.secret.table in
      let held = holds_array public.secret.table.setting.packing input x files read in
      let array : IsArray t.field t.cube x = laws.slots.array t.field t.cube held.text x ((laws.slots.read t.field t.cube held.text x).0 held.read) in
      let stands = laws.stands t T public.secret.secret public.key (draws_of bytes stream) x public.secret.is_secret public.of_secret array in
      let carried : CarriesCipher cipher sealed (files ++ file ∷ []) = record {
        secret = secret_grows header files (file ∷ []) public.secret;
        cipher = drawn;
        is_cipher = stands.0;
        bound = fresh_spelled laws.degrees laws.bounds public.secret.table.ring T.setting;
        stands = stands.1;
        below = below;
        spelled = new_held laws file files free;
      } in
      record {
        secrets = other_secrets file free (λ e. absurd (cc));
        publics = other_publics file free (λ e. absurd (cc));
        ciphers = new_name laws kinds.Cipher CarriesCipher cipher_grows state.ciphers cipher file.bytes (sealed_by state key input files) sealed files (input_is key header is public.secret.table input x read) free carried C.ciphers;
        no_evaluation = no_evaluation file free (λ e. absurd (cc));
      }

  pub encrypt_keeps : (key cipher seed : List ℕ) (stream : ℕ) (input : List ℕ) → On (Keeps (Encrypt key cipher seed stream input)) (encrypt_on key cipher seed stream input files)
  unfolding encrypt_on
  encrypt_keeps key cipher seed stream input = go (state.publics key) refl (C.publics key)
    where
      go : (value : Option Header) → state.publics key ≡ value → At kinds.Public CarriesPublic key files value → On (Keeps (Encrypt key cipher seed stream input)) (encrypt_on key cipher seed stream input files)
      go None is absent = rw (first_absent public_of (file_of kinds.Public key) files absent) tt
      go (Some header) is public =
          let K : Wanted → Type 0 = Keeps (Encrypt key cipher seed stream input) in
          rw (public_read laws key header files public)
          (on_bind K (seed_on seed files) _ (λ bytes bytes_is. on_bind K (array_on public.secret.table.setting.packing input files) _ (λ x x_is. on_bind K (free (file_of kinds.Cipher cipher) files) _ (λ u u_is. on_bind K (quiet public.secret.table.ring) _ (λ v v_is. λ new new_is.
          subst (Carries (after_command (Encrypt key cipher seed stream input) state files)) (sym new_is) (encrypt_saved key cipher seed stream input header is public bytes x x_is (free_is _ files u u_is) (quiet_is public.secret.table.ring v v_is)))))))

  -- ---- the commands that save no key and no ciphertext
  unchanged : (new : List File) → new ≡ files → Carries state new
  unchanged new is = subst (Carries state) (sym is) C

  table_saved : (table : List ℕ) → bytes_of (file_of kinds.Table table) files ≡ None → (text : List ℕ) → Carries state (with_file (file_of kinds.Table table) text)
  table_saved table free text =
      let file : File = record { name = file_of kinds.Table table; bytes = text } in
      record {
        secrets = other_secrets file free (λ e. absurd (cc));
        publics = other_publics file free (λ e. absurd (cc));
        ciphers = other_ciphers file free (λ e. absurd (cc));
        no_evaluation = no_evaluation file free (λ e. absurd (cc));
      }

  clear_keeps : (table program : List ℕ) (names : List (List ℕ)) → On (Keeps (Clear table program names)) (clear_on table program names files)
  unfolding clear_on
  clear_keeps table program names =
      let K : Wanted → Type 0 = Keeps (Clear table program names) in
      on_bind K (table_on table files) _ (λ setting is. on_bind K (program_on setting.packing program files) _ (λ steps is. on_bind K (arrays_on setting.packing names files) _ (λ inputs is. on_bind K (matched (length names) _) _ (λ u is. unchanged))))

  summarise_keeps : (table : List ℕ) → On (Keeps (Summarise table)) (summarise_on table files)
  unfolding summarise_on
  summarise_keeps table =
      let K : Wanted → Type 0 = Keeps (Summarise table) in
      on_bind K (table_on table files) _ (λ setting is. unchanged)

  make_table_keeps : (source table : List ℕ) → On (Keeps (MakeTable source table)) (make_table_on source table files)
  unfolding make_table_on
  make_table_keeps source table =
      let K : Wanted → Type 0 = Keeps (MakeTable source table) in
      on_bind K (template_on source files) _ (λ filled is. on_bind K (free (file_of kinds.Table table) files) _ (λ u u_is. on_bind K (or_else (λ i. NoRoot i) filled) _ (λ document is. on_bind K (or_else (λ fault. BadTable fault) (accepted document)) _ (λ setting is. λ new added.
      subst (Carries state) (sym added.added) (table_saved table (free_is _ files u u_is) added.text)))))

  decrypt_keeps : (key cipher : List ℕ) → On (Keeps (Decrypt key cipher)) (decrypt_on key cipher files)
  unfolding decrypt_on
  decrypt_keeps key cipher =
      let K : Wanted → Type 0 = Keeps (Decrypt key cipher) in
      on_bind K (first_on secret_of (file_of kinds.Secret key) files) _ (λ secret is. on_bind K (later_on cipher_of_bytes secret.header secret.table.ring (file_of kinds.Cipher cipher) files) _ (λ sealed is. unchanged))

  noise_keeps : (cipher : List ℕ) → On (Keeps (Noise cipher)) (noise_on cipher files)
  unfolding noise_on
  noise_keeps cipher =
      let K : Wanted → Type 0 = Keeps (Noise cipher) in
      on_bind K (first_on cipher_of_bytes (file_of kinds.Cipher cipher) files) _ (λ sealed is. unchanged)

  pub command_keeps : (command : Command) → NamesKey command → On (Keeps command) (command_on command files)
  command_keeps (Clear table program names) is = clear_keeps table program names
  command_keeps (Summarise table) is = summarise_keeps table
  command_keeps (MakeTable source table) is = make_table_keeps source table
  command_keeps (KeyGen table key seed stream) is = key_gen_keeps table key seed stream is
  command_keeps (PubKey key seed stream) is = pub_key_keeps key seed stream
  command_keeps (Encrypt key cipher seed stream input) is = encrypt_keeps key cipher seed stream input
  command_keeps (Decrypt key cipher) is = decrypt_keeps key cipher
  command_keeps (Noise cipher) is = noise_keeps cipher
