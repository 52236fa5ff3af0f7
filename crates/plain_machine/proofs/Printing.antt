-- What a `decrypt` prints is the array of its ciphertext.
use Rattle.std.proofs.Common.{◌≡◌, ℕ, List, Option, Some, None, Ok, Err, ℤ, refl, sym, ◌∙◌, ap, subst}
use Rattle.line_text.specs.declared.kinds.FileKind.TheVariants as kinds
use Rattle.line_text.specs.declared.kinds.FileName.{FileName}
use Rattle.shelf_core.specs.Files.{File, bytes_of}
use Rattle.slot_array.specs.SlotsText.{slots_text}
use Rattle.residue_rows.specs.Kept.{RingSetting}
use Rattle.scheme_laws.specs.Ciphers.{decrypted}
use Rattle.he_files.specs.declared.headers.Header.{Header}
use Rattle.he_files.specs.Secret.{secret_of}
use Rattle.he_files.specs.CipherFile.{cipher_of_bytes}
use Rattle.cli_machine.specs.declared.cause.Cause.TheVariants.{NoFile}
use Rattle.cli_machine.specs.Effects.{Wanted, Prints}
use Rattle.cli_machine.specs.Machine.{◌>>=◌, file_of, loaded, headed_on, Body, Opened, first_on, later_on, scheme_in, decrypt_on}
use Rattle.cli_machine.proofs.Chains.{On, on_bind, same_ok}
use Rattle.plain_machine.specs.PlainState.{Sealed, PlainState}
use Rattle.plain_machine.specs.Carrying.{scheme, CarriesSecret, CarriesCipher, Carries}
use Rattle.plain_machine.proofs.Growth.{At}
use Rattle.plain_machine.proofs.Keeping.{first_absent}
use Rattle.plain_machine.specs.Lower.{LowerLaws}
use Rattle.plain_machine.proofs.Reading.{chained_of, scheme_is, secret_read, cipher_read}

-- a file that the machine does not find
later_absent : {A : Type 0} → (body : Body A) (want : Header) (ring : RingSetting) (file : FileName) (files : List File) → bytes_of file files ≡ None → later_on body want ring file files ≡ Err (NoFile file)
unfolding later_on headed_on loaded
later_absent body want ring file files absent = rw absent refl

module _ (laws : LowerLaws) (state : PlainState) (files : List File) (C : Carries state files) where
  -- the array of a ciphertext of the state is to be printed
  abbrev pub PrintsSealed : List ℕ → Wanted → Type 0
  PrintsSealed cipher wanted = (sealed : Sealed) × (state.ciphers cipher ≡ Some sealed) × (wanted ≡ Prints (slots_text sealed.array))

  pub decrypt_prints : (key cipher : List ℕ) → On (PrintsSealed cipher) (decrypt_on key cipher files)
  unfolding decrypt_on
  decrypt_prints key cipher = by_secret (state.secrets key) (C.secrets key)
    where
      by_cipher : (header : Header) (named : CarriesSecret key header files) (value : Option Sealed) → state.ciphers cipher ≡ value → At kinds.Cipher CarriesCipher cipher files value
          → On (PrintsSealed cipher) (later_on cipher_of_bytes header named.secret.table.ring (file_of kinds.Cipher cipher) files >>= λ sealed. Ok (Prints (slots_text (decrypted (scheme_in (chained_of named.secret.table)) named.secret.secret sealed))))
      by_cipher header named None is absent = rw (later_absent cipher_of_bytes header named.secret.table.ring (file_of kinds.Cipher cipher) files absent) tt
      by_cipher header named (Some sealed) is carried =
          let K : Wanted → Type 0 = PrintsSealed cipher in
          let secret = named.secret in
          on_bind K (later_on cipher_of_bytes header secret.table.ring (file_of kinds.Cipher cipher) files) _ (λ c c_is.
          let read = cipher_read laws cipher sealed files carried header secret.table.ring c c_is in
          let secrets = same_ok _ _ (sym (secret_read laws header files secret) ∙ ap (λ (h : Header). first_on secret_of (file_of kinds.Secret h.key) files) read.0 ∙ secret_read laws sealed.header files carried.secret) in
          let ciphers : c ≡ carried.cipher = read.1 (ap (λ (o : Opened (List ℤ)). o.table.ring) secrets) in
          let arrays : decrypted (scheme_in (chained_of secret.table)) secret.secret c ≡ sealed.array =
          (λ i. decrypted (scheme_in (secrets i).table) (secrets i).value (ciphers i))
          ∙ laws.decrypts (scheme carried.secret.table) (scheme_is laws carried.secret.table) carried.secret.secret carried.cipher sealed.array carried.secret.is_secret carried.is_cipher carried.stands carried.below in
          (sealed, is, ap (λ x. Prints (slots_text x)) arrays))

      by_secret : (value : Option Header) → At kinds.Secret CarriesSecret key files value → On (PrintsSealed cipher) (decrypt_on key cipher files)
      by_secret None absent = rw (first_absent secret_of (file_of kinds.Secret key) files absent) tt
      by_secret (Some header) named =
          rw (subst (λ name. first_on secret_of (file_of kinds.Secret name) files ≡ Ok (record { header = header; table = chained_of named.secret.table; value = named.secret.secret })) named.own_name (secret_read laws header files named.secret))
          (by_cipher header named (state.ciphers cipher) refl (C.ciphers cipher))
