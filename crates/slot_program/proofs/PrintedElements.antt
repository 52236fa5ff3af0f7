-- Printed elements and items are read again.
use Rattle.std.proofs.Common.{◌≡◌, ℕ, zero, suc, ◌+◌, ◌<◌, ◌≤◌, ◌^◌, ◌||◌, ◌==◌, nat_lt, Bool, true, false, cond, List, [], ◌∷◌, ◌++◌, length, map, replicate, Some, bytes_eq, append_assoc, refl, ap, ◌∙◌, arith}
use Rattle.std.specs.Prelude.{decimal}
use Rattle.std.specs.Char.{is_ascii_digit}
use Rattle.std.specs.List.{list_all, list_any, join_with_byte}
use Rattle.std.proofs.lemmas.Bool.{and_parts, and_from, lt-ltb, eq-eqb}
use Rattle.std.proofs.lemmas.Bool.Decides.{nat_tests}
use Rattle.std.proofs.lemmas.List.Folds.{list_all-append}
use Rattle.std.proofs.lemmas.Slice.Eq.{bytes_eq-Decides}
use Rattle.line_text.specs.Pieces.{holds_byte}
use Rattle.line_text.proofs.PieceLemmas.{pieces-join, pieces-last}
use Rattle.line_text.proofs.NumberLemmas.{number_is_read}
use Rattle.ext_field.specs.Element.{Extension, is_element}
use Rattle.slot_program.specs.Elements.{numbers_of, repeats_of, element_of, item_of, elements_of, list_of}
use Rattle.slot_program.specs.Printed.{element_text, item_text, onto_run, runs_of}
use Rattle.slot_program.proofs.Printable.{lacks, all_weaker, all_joined, is_high, is_clean, decimal_is}

-- numbers that can be printed
abbrev pub AreSmall : List ℕ → Type 0
AreSmall numbers = list_all (λ c. nat_lt c (2 ^ 64)) numbers ≡ true

small : (c : ℕ) → nat_lt c (2 ^ 64) ≡ true → c < 2 ^ 64
small c test = grind (arith, nat_tests)

numbers_read : (numbers : List ℕ) → AreSmall numbers → numbers_of (map decimal numbers) ≡ Some numbers
numbers_read [] all = refl
numbers_read (c ∷ numbers) all =
    let parts = and_parts (nat_lt c (2 ^ 64)) _ all in
    rw (number_is_read c (small c parts.0), numbers_read numbers parts.1) refl

no_comma : (numbers : List ℕ) → AreSmall numbers → list_any (holds_byte 44) (map decimal numbers) ≡ false
no_comma [] all = refl
no_comma (c ∷ numbers) all =
    let parts = and_parts (nat_lt c (2 ^ 64)) _ all in
    rw (lacks is_ascii_digit 44 (decimal c) refl (decimal_is c (small c parts.0)).digits) (no_comma numbers parts.1)

length_mapped : (numbers : List ℕ) → 0 < length numbers → 0 < length (map decimal numbers)
length_mapped [] some = some
length_mapped (c ∷ numbers) some = omega arith

-- digits and commas
abbrev is_spelling : ℕ → Bool
is_spelling byte = is_ascii_digit byte || byte == 44

digit_spells : (byte : ℕ) → is_ascii_digit byte ≡ true → is_spelling byte ≡ true
digit_spells byte digit = rw digit refl

spelled : (numbers : List ℕ) → AreSmall numbers → list_all (list_all is_spelling) (map decimal numbers) ≡ true
spelled [] all = refl
spelled (c ∷ numbers) all =
    let parts = and_parts (nat_lt c (2 ^ 64)) _ all in
    and_from (list_all is_spelling (decimal c)) _ (all_weaker is_ascii_digit is_spelling digit_spells (decimal c) (decimal_is c (small c parts.0)).digits) (spelled numbers parts.1)

text_spelled : (element : List ℕ) → AreSmall element → list_all is_spelling (element_text element) ≡ true
text_spelled element all = all_joined is_spelling 44 (map decimal element) refl (spelled element all)

some_text : (element : List ℕ) → AreSmall element → 0 < length element → 0 < length (element_text element)
some_text [] all some = some
some_text (c ∷ []) all some = (decimal_is c (small c (and_parts (nat_lt c (2 ^ 64)) true all).0)).some_digit
some_text (c ∷ d ∷ numbers) all some =
    let parts = and_parts (nat_lt c (2 ^ 64)) _ all in
    let first = (decimal_is c (small c parts.0)).some_digit in
    omega (arith, first, length_append (decimal c) (44 ∷ join_with_byte 44 (map decimal (d ∷ numbers))))
  where
    length_append : (xs ys : List ℕ) → length (xs ++ ys) ≡ length xs + length ys
    length_append [] ys = omega arith
    length_append (x ∷ xs) ys = omega (arith, length_append xs ys)

spells_high : (byte : ℕ) → is_spelling byte ≡ true → is_high byte ≡ true
spells_high byte spells = grind (arith, nat_tests)

abbrev pub unrolled : List (ℕ × List ℕ) → List (List ℕ)
unrolled [] = []
unrolled (run ∷ runs) = replicate run.0 run.1 ++ unrolled runs

replicate_add : (n m : ℕ) (x : List ℕ) → replicate (n + m) x ≡ replicate n x ++ replicate m x
replicate_add zero m x = let e : zero + m ≡ m = omega arith in ap (λ k. replicate k x) e
replicate_add (suc n) m x = let e : suc n + m ≡ suc (n + m) = omega arith in ap (λ k. replicate k x) e ∙ ap (λ rest. x ∷ rest) (replicate_add n m x)

-- one element more in front of runs
unrolled_onto : (n : ℕ) (element : List ℕ) (runs : List (ℕ × List ℕ)) → unrolled (onto_run n element runs) ≡ replicate n element ++ unrolled runs
unrolled_onto n element [] = refl
unrolled_onto n element (run ∷ runs) = by (bytes_eq element run.1) refl
  where
    by : (b : Bool) → bytes_eq element run.1 ≡ b → unrolled (cond b ((n + run.0, element) ∷ runs) ((n, element) ∷ run ∷ runs)) ≡ replicate n element ++ (replicate run.0 run.1 ++ unrolled runs)
    by true is =
        let same : element ≡ run.1 = (bytes_eq-Decides element run.1).0 is in
        rw (replicate_add n run.0 element, append_assoc (replicate n element) (replicate run.0 element) (unrolled runs)) (ap (λ e. replicate n element ++ (replicate run.0 e ++ unrolled runs)) same)
    by false is = refl

pub runs_unroll : (elements : List (List ℕ)) → unrolled (runs_of elements) ≡ elements
unfolding runs_of
runs_unroll [] = refl
runs_unroll (element ∷ elements) = unrolled_onto 1 element (runs_of elements) ∙ ap (λ rest. element ∷ rest) (runs_unroll elements)

module _ (f : Extension) where
  -- what is needed of the numbers
  pub record IsPrintable (element : List ℕ) : Type 0 where
    pub element_is : is_element f element ≡ true
    pub some_number : 0 < length element
    pub small_numbers : AreSmall element

  pub element_read : (element : List ℕ) → IsPrintable element → element_of f (element_text element) ≡ Some element
  unfolding element_of
  element_read element is =
      rw (pieces-join 44 (map decimal element) (length_mapped element is.some_number) (no_comma element is.small_numbers), numbers_read element is.small_numbers, is.element_is) refl

  pub record IsRun (run : ℕ × List ℕ) : Type 0 where
    pub some_element : 0 < run.0
    pub few : run.0 < 2 ^ 32
    pub printable : IsPrintable run.1

  repeats_read : (n : ℕ) → 0 < n → n < 2 ^ 32 → repeats_of (decimal n) ≡ Some n
  unfolding repeats_of
  repeats_read n some few = rw (number_is_read n (omega arith), lt-ltb 0 n some, lt-ltb n (2 ^ 32) few) refl

  no_star : (element : List ℕ) → IsPrintable element → holds_byte 42 (element_text element) ≡ false
  no_star element is = lacks is_spelling 42 (element_text element) refl (text_spelled element is.small_numbers)

  one_read : (element : List ℕ) → IsPrintable element → item_of f (element_text element) ≡ Some (1, element)
  unfolding item_of
  one_read element is = rw (pieces-last 42 (element_text element) (no_star element is), element_read element is) refl

  many_read : (n : ℕ) (element : List ℕ) → 0 < n → n < 2 ^ 32 → IsPrintable element → item_of f (decimal n ++ 42 ∷ element_text element) ≡ Some (n, element)
  unfolding item_of
  many_read n element some few is =
      let apart : list_any (holds_byte 42) (decimal n ∷ element_text element ∷ []) ≡ false =
      rw (lacks is_ascii_digit 42 (decimal n) refl (decimal_is n (omega arith)).digits, no_star element is) refl in
      rw (pieces-join 42 (decimal n ∷ element_text element ∷ []) (omega arith) apart, repeats_read n some few, element_read element is) refl

  item_read : (run : ℕ × List ℕ) → IsRun run → item_of f (item_text run) ≡ Some run
  item_read (n, element) is = by (nat_lt 1 n) refl
    where
      by : (b : Bool) → nat_lt 1 n ≡ b → item_of f (cond b (decimal n ++ 42 ∷ element_text element) (element_text element)) ≡ Some (n, element)
      by true test = many_read n element is.some_element is.few is.printable
      by false test =
          let some = is.some_element in
          let one : 1 ≡ n = grind (arith, nat_tests) in
          one_read element is.printable ∙ ap (λ k. Some (k, element)) one

  abbrev pub AreRuns : List (ℕ × List ℕ) → Type 0
  AreRuns [] = Unit {0}
  AreRuns (run ∷ runs) = IsRun run × AreRuns runs

  items_read : (runs : List (ℕ × List ℕ)) → AreRuns runs → elements_of f (map item_text runs) ≡ Some (unrolled runs)
  items_read [] are = refl
  items_read (run ∷ runs) are = rw (item_read run are.0, items_read runs are.1) refl

  -- runs of n elements in all
  abbrev pub AreRunsOf : ℕ → List (ℕ × List ℕ) → Type 0
  AreRunsOf n [] = Unit {0}
  AreRunsOf n (run ∷ runs) = (0 < run.0) × (run.0 ≤ n) × IsPrintable run.1 × AreRunsOf n runs

  more_room : (n m : ℕ) (runs : List (ℕ × List ℕ)) → n ≤ m → AreRunsOf n runs → AreRunsOf m runs
  more_room n m [] le are = tt
  more_room n m (run ∷ runs) le are = (are.0, omega (arith, are.1), are.2, more_room n m runs le are.3)

  runs_onto : (n : ℕ) (element : List ℕ) (runs : List (ℕ × List ℕ)) → IsPrintable element → AreRunsOf n runs → AreRunsOf (suc n) (onto_run 1 element runs)
  runs_onto n element [] is are = (omega arith, omega arith, is, tt)
  runs_onto n element (run ∷ runs) is are = by (bytes_eq element run.1)
    where
      by : (b : Bool) → AreRunsOf (suc n) (cond b ((1 + run.0, element) ∷ runs) ((1, element) ∷ run ∷ runs))
      by true = (omega (arith, are.0), omega (arith, are.1), is, more_room n (suc n) runs (omega arith) are.3)
      by false = (omega arith, omega arith, is, more_room n (suc n) (run ∷ runs) (omega arith) are)

  abbrev pub ArePrintable : List (List ℕ) → Type 0
  ArePrintable [] = Unit {0}
  ArePrintable (element ∷ elements) = IsPrintable element × ArePrintable elements

  runs_are : (elements : List (List ℕ)) → ArePrintable elements → AreRunsOf (length elements) (runs_of elements)
  unfolding runs_of
  runs_are [] are = tt
  runs_are (element ∷ elements) are = runs_onto (length elements) element (runs_of elements) are.0 (runs_are elements are.1)

  are_runs : (n : ℕ) (runs : List (ℕ × List ℕ)) → n < 2 ^ 32 → AreRunsOf n runs → AreRuns runs
  are_runs n [] few are = tt
  are_runs n (run ∷ runs) few are = (record { some_element = are.0; few = omega (arith, are.1); printable = are.2 }, are_runs n runs few are.3)

  -- a printed list of elements is read again
  pub list_read : (elements : List (List ℕ)) (count : ℕ) → length elements ≡ count → count < 2 ^ 32 → ArePrintable elements
      → list_of f count (map item_text (runs_of elements)) ≡ Some elements
  unfolding list_of
  list_read elements count long few are =
      let runs = are_runs (length elements) (runs_of elements) (omega arith) (runs_are elements are) in
      rw (items_read (runs_of elements) runs, runs_unroll elements, eq-eqb (length elements) count long) refl

  clean_item : (run : ℕ × List ℕ) → IsRun run → is_clean (item_text run) ≡ true
  clean_item (n, element) is = by (nat_lt 1 n)
    where
      printable : list_all is_high (element_text element) ≡ true
      printable = all_weaker is_spelling is_high spells_high (element_text element) (text_spelled element is.printable.small_numbers)

      some : 0 < length (element_text element)
      some = some_text element is.printable.small_numbers is.printable.some_number

      digit_is_high : (byte : ℕ) → is_ascii_digit byte ≡ true → is_high byte ≡ true
      digit_is_high byte digit = grind (arith, nat_tests)

      number : list_all is_high (decimal n) ≡ true
      number = all_weaker is_ascii_digit is_high digit_is_high (decimal n) (decimal_is n (omega (arith, is.few))).digits

      some_more : (xs ys : List ℕ) → 0 < length (xs ++ 42 ∷ ys)
      some_more [] ys = omega arith
      some_more (x ∷ xs) ys = omega arith

      by : (b : Bool) → is_clean (cond b (decimal n ++ 42 ∷ element_text element) (element_text element)) ≡ true
      by true = and_from _ _ (lt-ltb 0 _ (some_more (decimal n) (element_text element)))
          (list_all-append is_high (decimal n) (42 ∷ element_text element) ∙ and_from (list_all is_high (decimal n)) _ number printable)
      by false = and_from _ _ (lt-ltb 0 _ some) printable

  clean_items : (runs : List (ℕ × List ℕ)) → AreRuns runs → list_all is_clean (map item_text runs) ≡ true
  clean_items [] are = refl
  clean_items (run ∷ runs) are = and_from (is_clean (item_text run)) _ (clean_item run are.0) (clean_items runs are.1)

  pub clean_list : (elements : List (List ℕ)) → length elements < 2 ^ 32 → ArePrintable elements → list_all is_clean (map item_text (runs_of elements)) ≡ true
  clean_list elements few are = clean_items (runs_of elements) (are_runs (length elements) (runs_of elements) few (runs_are elements are))
