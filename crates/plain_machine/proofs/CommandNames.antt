-- The names of a key that is made are names.
use Rattle.std.proofs.Common.{◌≡◌, ℕ, Bool, true, false, cond, List, [], ◌∷◌, Option, Some, None, refl, sym, subst}
use Rattle.std.specs.Prelude.{IfSome, bytes_eq, codes}
use Rattle.line_text.specs.Names.{IsName, name_of, SpellsItself}
use Rattle.line_text.specs.Numbers.{number_of}
use Rattle.cli_machine.specs.declared.command.Command.{Command}
use Rattle.cli_machine.specs.declared.command.Command.TheVariants.{KeyGen}
use Rattle.cli_machine.specs.Commands.{◌>>=◌, names_of, pair_of, clear_of, summarise_of, make_table_of, key_gen_of, pub_key_of, encrypt_of, decrypt_of, noise_of, command_of}

-- the names of the table and of the key that is made
abbrev pub NamesKey : Command → Type 0
NamesKey (KeyGen table key seed stream) = IsName table × IsName key
NamesKey _ = Unit {0}

-- a link that is there, and what follows it
bind_some : {A : Type 0} (o : Option A) (f : A → Option Command) → ((x : A) → o ≡ Some x → IfSome (f x) NamesKey) → IfSome (o >>= f) NamesKey
bind_some None f h = tt
bind_some (Some x) f h = h x refl

choice : (b : Bool) (x y : Option Command) → IfSome x NamesKey → IfSome y NamesKey → IfSome (cond b x y) NamesKey
choice true x y h k = h
choice false x y h k = k

is_name : SpellsItself → (word name : List ℕ) → name_of word ≡ Some name → IsName name
is_name spells word name is =
    let facts = (spells word name).0 is in
    subst IsName (sym facts.1) facts.0

clear_names : (words : List (List ℕ)) → IfSome (clear_of words) NamesKey
unfolding clear_of
clear_names [] = tt
clear_names (a ∷ []) = tt
clear_names (a ∷ b ∷ []) = tt
clear_names (a ∷ b ∷ c ∷ more) = bind_some (name_of a) _ (λ x is. bind_some (name_of b) _ (λ y is. bind_some (names_of (c ∷ more)) _ (λ z is. tt)))

summarise_names : (words : List (List ℕ)) → IfSome (summarise_of words) NamesKey
unfolding summarise_of
summarise_names [] = tt
summarise_names (a ∷ []) = bind_some (name_of a) _ (λ x is. tt)
summarise_names (a ∷ b ∷ more) = tt

make_table_names : (words : List (List ℕ)) → IfSome (make_table_of words) NamesKey
unfolding make_table_of
make_table_names [] = tt
make_table_names (a ∷ []) = tt
make_table_names (a ∷ b ∷ []) = bind_some (pair_of a b) _ (λ pair is. tt)
make_table_names (a ∷ b ∷ c ∷ more) = tt

key_gen_names : SpellsItself → (words : List (List ℕ)) → IfSome (key_gen_of words) NamesKey
unfolding key_gen_of
key_gen_names spells [] = tt
key_gen_names spells (a ∷ []) = tt
key_gen_names spells (a ∷ b ∷ []) = tt
key_gen_names spells (a ∷ b ∷ c ∷ []) = tt
key_gen_names spells (a ∷ b ∷ c ∷ d ∷ []) = bind_some (name_of a) _ (λ t t_is. bind_some (name_of b) _ (λ k k_is. bind_some (name_of c) _ (λ s s_is. bind_some (number_of d) _ (λ n n_is. (is_name spells a t t_is, is_name spells b k k_is)))))
key_gen_names spells (a ∷ b ∷ c ∷ d ∷ e ∷ more) = tt

pub_key_names : (words : List (List ℕ)) → IfSome (pub_key_of words) NamesKey
unfolding pub_key_of
pub_key_names [] = tt
pub_key_names (a ∷ []) = tt
pub_key_names (a ∷ b ∷ []) = tt
pub_key_names (a ∷ b ∷ c ∷ []) = bind_some (name_of a) _ (λ x is. bind_some (name_of b) _ (λ y is. bind_some (number_of c) _ (λ z is. tt)))
pub_key_names (a ∷ b ∷ c ∷ d ∷ more) = tt

encrypt_names : (words : List (List ℕ)) → IfSome (encrypt_of words) NamesKey
unfolding encrypt_of
encrypt_names [] = tt
encrypt_names (a ∷ []) = tt
encrypt_names (a ∷ b ∷ []) = tt
encrypt_names (a ∷ b ∷ c ∷ []) = tt
encrypt_names (a ∷ b ∷ c ∷ d ∷ []) = tt
encrypt_names (a ∷ b ∷ c ∷ d ∷ e ∷ []) = bind_some (pair_of a b) _ (λ pair is. bind_some (name_of c) _ (λ z is. bind_some (number_of d) _ (λ n is. bind_some (name_of e) _ (λ v is. tt))))
encrypt_names (a ∷ b ∷ c ∷ d ∷ e ∷ f ∷ more) = tt

decrypt_names : (words : List (List ℕ)) → IfSome (decrypt_of words) NamesKey
unfolding decrypt_of
decrypt_names [] = tt
decrypt_names (a ∷ []) = tt
decrypt_names (a ∷ b ∷ []) = bind_some (pair_of a b) _ (λ pair is. tt)
decrypt_names (a ∷ b ∷ c ∷ more) = tt

noise_names : (words : List (List ℕ)) → IfSome (noise_of words) NamesKey
unfolding noise_of
noise_names [] = tt
noise_names (a ∷ []) = bind_some (name_of a) _ (λ x is. tt)
noise_names (a ∷ b ∷ more) = tt

-- the names of the table and of the key that the words of a line make
pub command_names : SpellsItself → (words : List (List ℕ)) → IfSome (command_of words) NamesKey
unfolding command_of
command_names spells [] = tt
command_names spells (word ∷ words) =
    choice (bytes_eq word (codes "clear")) _ _ (clear_names words)
    (choice (bytes_eq word (codes "table")) _ _ (summarise_names words)
    (choice (bytes_eq word (codes "maketable")) _ _ (make_table_names words)
    (choice (bytes_eq word (codes "keygen")) _ _ (key_gen_names spells words)
    (choice (bytes_eq word (codes "pubkey")) _ _ (pub_key_names words)
    (choice (bytes_eq word (codes "encrypt")) _ _ (encrypt_names words)
    (choice (bytes_eq word (codes "decrypt")) _ _ (decrypt_names words)
    (choice (bytes_eq word (codes "noise")) _ _ (noise_names words) tt)))))))
