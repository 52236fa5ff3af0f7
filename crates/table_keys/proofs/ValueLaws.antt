use Rattle.std.proofs.Common.{◌≡◌, ℕ, Bool, true, false, ◌&&◌, List, [], ◌∷◌, length, map, Option, Some, Ok, Err, string_bytes, refl, ap}
use Rattle.std.proofs.lemmas.List.{length-map}
use Rattle.std.proofs.lemmas.Str.{is_utf8-from_IsUtf8, IsUtf8-from_is_utf8}
use Rattle.std.specs.List.{list_all}
use Rattle.std.specs.Map.{keys_of}
use Rattle.std.specs.Str.{is_utf8, IsUtf8}
use Rattle.line_text.specs.declared.kinds.TableKey.{TableKey}
use Rattle.toml.proofs.Views.{Entry}
use Rattle.toml.specs.Data.{Data, Members, as_array}
use Rattle.toml.specs.Parse.{parse_document}
use Rattle.toml.specs.View.{items_view, members_view, view}
use Rattle.toml.specs.declared.value.Value.{Value}
use Rattle.table_keys.specs.declared.faults.DocumentFault.TheVariants.{Text}
use Rattle.table_keys.specs.Documents.{has_only, is_key, members_of}
use Rattle.table_keys.specs.Values.{each_of, list_of, listed}

-- the values of a view in order
pub listed-view : (vs : List Value) → listed (items_view vs) ≡ map view vs
listed-view [] = refl
listed-view (v ∷ vs) = ap (λ ds. view v ∷ ds) (listed-view vs)

-- a list is read value by value
pub list_of-view : {A : Type 0} (form : Data → Option A) (d : Data) (vs : List Value) → Some (items_view vs) ≡ as_array d
    → list_of form d ≡ each_of form (map view vs)
list_of-view form d vs is = rw (← is, listed-view vs) refl

-- a view has as many values
pub length_of_view : (vs : List Value) → length (listed (items_view vs)) ≡ length vs
length_of_view vs = rw (listed-view vs) (length-map vs view)

-- the keys of a view are those of the map
pub has_only_of_view : (keys : List TableKey) (es : List Entry)
    → list_all (λ key. is_key keys (string_bytes key)) (keys_of es) ≡ has_only keys (members_view es)
has_only_of_view keys [] = refl
has_only_of_view keys (e ∷ es) = ap (λ rest. is_key keys (string_bytes e.0) && rest) (has_only_of_view keys es)

by_test : (bs : List ℕ) (b : Bool) → is_utf8 bs ≡ b → (IsUtf8 bs → ⊥) → is_utf8 bs ≡ false
by_test bs true is not_text = absurd (not_text (IsUtf8-from_is_utf8 bs is))
by_test bs false is not_text = is

-- what is no text is no document
pub members_of-no_text : (bs : List ℕ) → (IsUtf8 bs → ⊥) → members_of bs ≡ Err Text
unfolding members_of
members_of-no_text bs not_text = rw (by_test bs (is_utf8 bs) refl not_text) refl

-- a text that is a document
pub members_of-text : (bs text : List ℕ) (members : Members) → text ≡ bs → IsUtf8 bs → parse_document text ≡ Some members → members_of bs ≡ Ok members
unfolding members_of
members_of-text bs text members same is_text parsed =
    let parsed_bytes : parse_document bs ≡ Some members = rw (← same) parsed in
    rw (is_utf8-from_IsUtf8 bs is_text, parsed_bytes) refl
