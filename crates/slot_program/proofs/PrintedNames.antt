-- Printed names are read again.
use Rattle.std.proofs.Common.{◌≡◌, ℕ, zero, suc, ◌<◌, ◌≤◌, ◌^◌, Bool, true, false, cond, List, length, Some, None, bytes_eq, refl, sym, arith, inl, inr, ◌⊎◌, eq-or-lt_of_le}
use Rattle.std.specs.Prelude.{decimal, nat_lt}
use Rattle.std.specs.Char.{is_ascii_digit}
use Rattle.std.specs.List.{list_all}
use Rattle.std.proofs.lemmas.Bool.{and_from, and_parts, lt-ltb}
use Rattle.std.proofs.lemmas.Bool.Decides.{nat_tests}
use Rattle.std.proofs.lemmas.Slice.Eq.{bytes_eq-Decides}
use Rattle.line_text.specs.Names.{is_name, is_name_byte}
use Rattle.line_text.proofs.NameTests.{is_name_in_range}
use Rattle.slot_program.specs.Names.{Naming, no_names, named}
use Rattle.slot_program.specs.Printed.{value_name}
use Rattle.slot_program.specs.Text.{new_name}
use Rattle.slot_program.specs.declared.kinds.Step.{Step}
use Rattle.slot_program.proofs.Printable.{all_weaker, same_bytes, decimal_is, decimal_same, is_clean, is_high, clean_decimal}

-- the first n values go by their printed names
abbrev pub numbered : ℕ → Naming
numbered zero = no_names
numbered (suc n) = named (numbered n) (value_name n) n

other_name : (a b : ℕ) → a < 2 ^ 64 → b < 2 ^ 64 → (a ≡ b → ⊥) → bytes_eq (value_name a) (value_name b) ≡ false
other_name a b small_a small_b differ = by (bytes_eq (value_name a) (value_name b)) refl
  where
    by : (b' : Bool) → bytes_eq (value_name a) (value_name b) ≡ b' → b' ≡ false
    by false is = refl
    by true is =
        let names : value_name a ≡ value_name b = (bytes_eq-Decides _ _).0 is in
        let digits : decimal a ≡ decimal b = cc in
        absurd (differ (decimal_same a b small_a small_b digits))

pub numbered_at : (n a : ℕ) → a < n → n < 2 ^ 64 → numbered n (value_name a) ≡ Some a
unfolding named
numbered_at zero a below few = absurd (omega arith)
numbered_at (suc n) a below few = by (eq-or-lt_of_le below') (λ less. numbered_at n a less (omega arith))
  where
    below' : a ≤ n
    below' = omega arith

    by : (a ≡ n) ⊎ (a < n) → (a < n → numbered n (value_name a) ≡ Some a) → cond (bytes_eq (value_name a) (value_name n)) (Some n) (numbered n (value_name a)) ≡ Some a
    by (inl e) earlier = rw (e, same_bytes (value_name n)) refl
    by (inr less) earlier = rw (other_name a n (omega arith) (omega arith) (λ e. omega arith)) (earlier less)

pub numbered_none : (n a : ℕ) → n ≤ a → a < 2 ^ 64 → numbered n (value_name a) ≡ None
unfolding named
numbered_none zero a below few = refl
numbered_none (suc n) a below few = rw (other_name a n few (omega arith) (λ e. omega arith)) (numbered_none n a (omega arith) few)

digit_names : (byte : ℕ) → is_ascii_digit byte ≡ true → is_name_byte byte ≡ true
digit_names byte digit = grind (arith, nat_tests)

name_is : (n : ℕ) → n < 2 ^ 64 → is_name (value_name n) ≡ true
name_is n small =
    let is = decimal_is n small in
    let bytes : true ≡ list_all is_name_byte (value_name n) = sym (all_weaker is_ascii_digit is_name_byte digit_names (decimal n) is.digits) in
    sym (is_name_in_range (value_name n) true (omega arith) (omega (arith, is.short)) bytes)

pub new_read : (n : ℕ) (steps : List Step) → n < 2 ^ 64 → new_name (numbered n) steps (value_name n) ≡ Some (value_name n)
unfolding new_name
new_read n steps small = rw (name_is n small, numbered_none n n (omega arith) small) refl

pub clean_name : (n : ℕ) → n < 2 ^ 64 → is_clean (value_name n) ≡ true
clean_name n small = and_from _ _ (lt-ltb 0 _ (omega arith)) (and_parts (nat_lt 0 (length (decimal n))) (list_all is_high (decimal n)) (clean_decimal n small)).1
