-- What is read at the keys of a document: numbers, lists of numbers, and lists of such lists.
use Rattle.std.specs.Prelude.{◌≡◌, ℕ, ℤ, pos, negsuc, ◌^◌, Bool, true, false, List, [], ◌∷◌, length, Option, Some, None, Result, Ok, Err, nat_lt, ok_or, option_map, option_and_then, if◌then◌else◌}
use Rattle.line_text.specs.Kinds.{key_word}
use Rattle.line_text.specs.declared.kinds.TableKey.{TableKey}
use Rattle.table_keys.specs.declared.faults.DocumentFault.{DocumentFault}
use Rattle.table_keys.specs.declared.faults.DocumentFault.TheVariants.{Text, Shape, Memory}
use Rattle.toml.specs.Data.{Data, Items, no_items, item, Members, get_member, as_integer, as_array}

-- the first fault ends it
infixl 10 ◌>>=◌
abbrev pub ◌>>=◌ : {A B : Type 0} → Result A DocumentFault → (A → Result B DocumentFault) → Result B DocumentFault
(Ok x) >>= f = f x
(Err fault) >>= f = Err fault

-- what is there, or else the fault of the key
abbrev pub shaped : {A : Type 0} → TableKey → Option A → Result A DocumentFault
shaped key found = ok_or found (Shape key)

-- the value that passed, or else the fault of the key
abbrev pub passed : {A : Type 0} → TableKey → Bool → A → Result A DocumentFault
passed key is value = if is then Ok value else Err (Shape key)

-- what each element is read as, where each is read
abbrev pub each_of : {A B : Type 0} → (A → Option B) → List A → Option (List B)
each_of form [] = Some []
each_of form (x ∷ xs) = option_and_then (λ y. option_map (λ ys. y ∷ ys) (each_of form xs)) (form x)

-- an integer from 0 to 2^63 - 1
abbrev pub natural : ℤ → Option ℕ
natural (pos n) = if nat_lt n (2 ^ 63) then Some n else None
natural (negsuc n) = None

abbrev pub number_of : Data → Option ℕ
number_of value = option_and_then natural (as_integer value)

-- the items of an array in order
abbrev pub listed : Items → List Data
listed no_items = []
listed (item value items) = value ∷ listed items

-- an array, each item of which is read
abbrev pub list_of : {A : Type 0} → (Data → Option A) → Data → Option (List A)
list_of form value = option_and_then (λ items. each_of form (listed items)) (as_array value)

unfoldable pub numbers_of : Data → Option (List ℕ)
numbers_of value = list_of number_of value

unfoldable pub rows_of : Data → Option (List (List ℕ))
rows_of value = list_of numbers_of value

-- how many elements an array has
abbrev pub count_of : Data → Option ℕ
count_of value = option_map (λ items. length (listed items)) (as_array value)

unfoldable pub value_at : TableKey → Members → Option Data
value_at key members = get_member (key_word key) members

unfoldable pub number_at : TableKey → Members → Option ℕ
number_at key members = option_and_then number_of (value_at key members)

unfoldable pub numbers_at : TableKey → Members → Result (List ℕ) DocumentFault
numbers_at key members = shaped key (option_and_then numbers_of (value_at key members))

unfoldable pub rows_at : TableKey → Members → Result (List (List ℕ)) DocumentFault
rows_at key members = shaped key (option_and_then rows_of (value_at key members))

-- want of memory
abbrev pub is_memory : DocumentFault → Bool
is_memory Text = false
is_memory (Shape key) = false
is_memory Memory = true

-- what was returned, seen by view, is what is read, but for want of memory
abbrev pub Gives : {X Y : Type 0} → (X → Y) → Result X DocumentFault → Result Y DocumentFault → Type 0
Gives view (Ok x) read = read ≡ Ok (view x)
Gives view (Err fault) read = is_memory fault ≡ false → read ≡ Err fault
