-- The grammar of the commands.
use Rattle.std.specs.Prelude.{ℕ, List, [], ◌∷◌, Option, Some, None, bytes_eq, codes, if◌then◌else◌}
use Rattle.line_text.specs.Names.{name_of}
use Rattle.line_text.specs.Numbers.{number_of}
use Rattle.cli_machine.specs.declared.command.Command.{Command}
use Rattle.cli_machine.specs.declared.command.Command.TheVariants.{Clear, Summarise, MakeTable, KeyGen, PubKey, Encrypt, Decrypt, Noise}

infixl 10 ◌>>=◌
abbrev pub ◌>>=◌ : {A B : Type 0} → Option A → (A → Option B) → Option B
None >>= f = None
(Some x) >>= f = f x

-- the names that the words spell, if each spells one
abbrev pub names_of : List (List ℕ) → Option (List (List ℕ))
names_of [] = Some []
names_of (word ∷ words) = do
  name ← name_of word
  names ← names_of words
  Some (name ∷ names)

-- the names that two words spell
unfoldable pub pair_of : List ℕ → List ℕ → Option (List ℕ × List ℕ)
pair_of first second = do
  a ← name_of first
  b ← name_of second
  Some (a, b)

-- `clear T PROG X` with one or more X, behind its first word
unfoldable pub clear_of : List (List ℕ) → Option Command
clear_of (table ∷ program ∷ input ∷ inputs) = do
  t ← name_of table
  p ← name_of program
  xs ← names_of (input ∷ inputs)
  Some (Clear t p xs)
clear_of _ = None

-- `table T`, behind its first word
unfoldable pub summarise_of : List (List ℕ) → Option Command
summarise_of (table ∷ []) = do
  t ← name_of table
  Some (Summarise t)
summarise_of _ = None

-- `maketable SRC T`, behind its first word
unfoldable pub make_table_of : List (List ℕ) → Option Command
make_table_of (source ∷ table ∷ []) = do
  pair ← pair_of source table
  Some (MakeTable pair.0 pair.1)
make_table_of _ = None

-- `keygen T K SEED STREAM`, behind its first word
unfoldable pub key_gen_of : List (List ℕ) → Option Command
key_gen_of (table ∷ key ∷ seed ∷ stream ∷ []) = do
  t ← name_of table
  k ← name_of key
  s ← name_of seed
  n ← number_of stream
  Some (KeyGen t k s n)
key_gen_of _ = None

-- `pubkey K SEED STREAM`, behind its first word
unfoldable pub pub_key_of : List (List ℕ) → Option Command
pub_key_of (key ∷ seed ∷ stream ∷ []) = do
  k ← name_of key
  s ← name_of seed
  n ← number_of stream
  Some (PubKey k s n)
pub_key_of _ = None

-- `encrypt K C SEED STREAM X`, behind its first word
unfoldable pub encrypt_of : List (List ℕ) → Option Command
encrypt_of (key ∷ cipher ∷ seed ∷ stream ∷ input ∷ []) = do
  pair ← pair_of key cipher
  s ← name_of seed
  n ← number_of stream
  x ← name_of input
  Some (Encrypt pair.0 pair.1 s n x)
encrypt_of _ = None

-- `decrypt K C`, behind its first word
unfoldable pub decrypt_of : List (List ℕ) → Option Command
decrypt_of (key ∷ cipher ∷ []) = do
  pair ← pair_of key cipher
  Some (Decrypt pair.0 pair.1)
decrypt_of _ = None

-- `noise C`, behind its first word
unfoldable pub noise_of : List (List ℕ) → Option Command
noise_of (cipher ∷ []) = do
  c ← name_of cipher
  Some (Noise c)
noise_of _ = None

-- the command that the words of a line ask for, if they are in a command's grammar
unfoldable pub command_of : List (List ℕ) → Option Command
command_of [] = None
command_of (word ∷ words) =
    if bytes_eq word (codes "clear") then clear_of words
    else (if bytes_eq word (codes "table") then summarise_of words
    else (if bytes_eq word (codes "maketable") then make_table_of words
    else (if bytes_eq word (codes "keygen") then key_gen_of words
    else (if bytes_eq word (codes "pubkey") then pub_key_of words
    else (if bytes_eq word (codes "encrypt") then encrypt_of words
    else (if bytes_eq word (codes "decrypt") then decrypt_of words
    else (if bytes_eq word (codes "noise") then noise_of words else None)))))))
