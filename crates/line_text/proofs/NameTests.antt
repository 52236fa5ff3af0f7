use Rattle.std.proofs.Common.{◌&&◌, ◌↔◌, Some, None, false, cond, refl, sym, ap, ◌≡◌, ◌≤◌, ℕ, List, length, Bool, arith, nat_le, true}
use Rattle.std.specs.List.{list_all}
use Rattle.std.proofs.lemmas.Bool.Decides.{nat_tests}
use Rattle.std.proofs.lemmas.Bool.{leb-true}
use Rattle.line_text.specs.Names.{is_name, is_name_byte, name_of, SpellsItself}
use Rattle.line_text.proofs.RoundTrips.{and_true}

-- a word of the right length is a name where each byte is one of a name
pub is_name_in_range : (word : List ℕ) (all : Bool) → 1 ≤ length word → length word ≤ 64 → all ≡ list_all is_name_byte word → all ≡ is_name word
unfolding is_name
is_name_in_range word all some few is =
    let low : nat_le 1 (length word) ≡ true = grind (arith, nat_tests) in
    let high : nat_le (length word) 64 ≡ true = grind (arith, nat_tests) in
    rw (low, high) is

-- the length of a name
pub length_of_name : (bytes : List ℕ) → is_name bytes ≡ true → (1 ≤ length bytes) × (length bytes ≤ 64)
unfolding is_name
length_of_name bytes name =
    let parts = and_true (nat_le 1 (length bytes) && nat_le (length bytes) 64) _ name in
    let bounds = and_true (nat_le 1 (length bytes)) _ parts.0 in
    (leb-true 1 (length bytes) bounds.0, leb-true (length bytes) 64 bounds.1)

pub spells_itself : SpellsItself
unfolding name_of
spells_itself word name = by_test (is_name word) refl
  where
    by_test : (test : Bool) → is_name word ≡ test → (cond test (Some word) None ≡ Some name) ↔ ((test ≡ true) × (name ≡ word))
    by_test true is = (λ same. (refl, cc), λ they. ap (λ found. Some found) (sym they.1))
    by_test false is = (λ same. absurd (cc), λ they. absurd (cc))
