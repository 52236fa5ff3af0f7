-- The filling of a template, from the rows of its moduli.
use Rattle.std.proofs.Common.{◌≡◌, ℕ, suc, List, ◌++◌, [], ◌∷◌, length, get_or, map, option_map, take, drop, ◌<◌, ◌≤◌, Option, None, Some, Result, Ok, Err, refl, sym, ap, ◌∙◌, arith, append-nil, length-append}
use Rattle.std.specs.List.{position, position_from}
use Rattle.std.proofs.Math.Seq.{drop-append_seam, drop-cons, take-append_seam}
use Rattle.std.proofs.lemmas.Iterator.Adapters.{position_from-zero}
use Rattle.std.proofs.lemmas.List.{drop_all, length-map, map-append}
use Rattle.moduli_table.specs.Search.{roots_of}
use Rattle.table_keys.specs.declared.documents.RowDocument.{RowDocument}
use Rattle.table_keys.specs.Templates.{Template}
use Rattle.table_maker.specs.declared.faults.MakeFault.{MakeFault}
use Rattle.table_maker.specs.declared.faults.MakeFault.TheVariants.{NoRoot}
use Rattle.table_maker.specs.Faults.{unless_rootless}
use Rattle.table_maker.specs.Filled.{filled, is_rootless, moduli_of, rootless, row_for, with_rows}

other_value : {A B : Type 0} (o : Option ℕ) (x : A) (y : B) (fault : MakeFault) → unless_rootless o x ≡ Err fault → unless_rootless o y ≡ Err fault
other_value None x y fault e = absurd (cc)
other_value (Some i) x y fault e = cc

same_value : {A B : Type 0} (o : Option ℕ) (x z : A) (y : B) → unless_rootless o x ≡ Ok z → (z ≡ x) × (unless_rootless o y ≡ Ok y)
same_value None x z y e = (cc, refl)
same_value (Some i) x z y e = absurd (cc)

abbrev pub rows_of : ℕ → ℕ → List ℕ → Result (List RowDocument) MakeFault
rows_of m p moduli = unless_rootless (position (is_rootless m) moduli) (map (row_for m p) moduli)

-- the rows of the moduli of a template, its numbers read one by one
pub rows_read : (t : Template) (m p : ℕ) (moduli : List ℕ) (rows : Result (List RowDocument) MakeFault) → m ≡ t.m → p ≡ t.p → moduli ≡ moduli_of t
    → rows_of m p moduli ≡ rows → rows_of t.m t.p (moduli_of t) ≡ rows
rows_read t m p moduli rows same_m same_p same is = rw (← same_m, ← same_p, ← same) is

module _ (t : Template) where
  pub filled-fault : (fault : MakeFault) → rows_of t.m t.p (moduli_of t) ≡ Err fault → filled t ≡ Err fault
  unfolding filled rootless
  filled-fault fault e = other_value (rootless t) (map (row_for t.m t.p) (moduli_of t)) (with_rows t) fault e

  pub filled-rows : (rows : List RowDocument) → rows_of t.m t.p (moduli_of t) ≡ Ok rows → filled t ≡ Ok (with_rows t)
  unfolding filled rootless
  filled-rows rows e = (same_value (rootless t) (map (row_for t.m t.p) (moduli_of t)) rows (with_rows t) e).1

  rows-are : (rows : List RowDocument) → rows_of t.m t.p (moduli_of t) ≡ Ok rows → rows ≡ map (row_for t.m t.p) t.chain ++ map (row_for t.m t.p) t.special
  unfolding rootless
  rows-are rows e = (same_value (rootless t) (map (row_for t.m t.p) (moduli_of t)) rows (with_rows t) e).0 ∙ map-append (row_for t.m t.p) t.chain t.special

  chain-count : length (map (row_for t.m t.p) t.chain) ≡ length t.chain
  chain-count = length-map t.chain (row_for t.m t.p)

  pub rows-count : (rows : List RowDocument) → rows_of t.m t.p (moduli_of t) ≡ Ok rows → length t.chain ≤ length rows
  rows-count rows e = rw (rows-are rows e) (omega (arith, length-append (map (row_for t.m t.p) t.chain) (map (row_for t.m t.p) t.special), chain-count))

  pub chain-rows : (rows : List RowDocument) → rows_of t.m t.p (moduli_of t) ≡ Ok rows → take (length t.chain) rows ≡ map (row_for t.m t.p) t.chain
  chain-rows rows e = rw (rows-are rows e, ← chain-count) (take-append_seam (map (row_for t.m t.p) t.chain) (map (row_for t.m t.p) t.special))

  pub special-rows : (rows : List RowDocument) → rows_of t.m t.p (moduli_of t) ≡ Ok rows → drop (length t.chain) rows ≡ map (row_for t.m t.p) t.special
  special-rows rows e = rw (rows-are rows e, ← chain-count) (drop-append_seam (map (row_for t.m t.p) t.chain) (map (row_for t.m t.p) t.special))

-- the rows of the moduli before modulus i, all of which have roots
pub record AreFirstRows (m p : ℕ) (moduli : List ℕ) (i : ℕ) (rows : List RowDocument) : Type 0 where
  pub filled_rows : rows ++ map (row_for m p) (drop i moduli) ≡ map (row_for m p) moduli
  pub rooted : position_from (is_rootless m) i (drop i moduli) ≡ position_from (is_rootless m) 0 moduli

module _ (m p : ℕ) (moduli : List ℕ) (i : ℕ) (rows : List RowDocument) (are : AreFirstRows m p moduli i rows) where
  first_rootless : position_from (is_rootless m) i (drop i moduli) ≡ position (is_rootless m) moduli
  first_rootless = are.rooted ∙ sym (position_from-zero (is_rootless m) moduli)

  pub rows-all : length moduli ≤ i → rows_of m p moduli ≡ Ok rows
  rows-all end =
      let gone : drop i moduli ≡ [] = drop_all i moduli end in
      let none : position (is_rootless m) moduli ≡ None = sym first_rootless ∙ ap (position_from (is_rootless m) i) gone in
      let all : map (row_for m p) moduli ≡ rows = sym are.filled_rows ∙ ap (λ rest. rows ++ map (row_for m p) rest) gone ∙ append-nil rows in
      ap (λ o. unless_rootless o (map (row_for m p) moduli)) none ∙ ap Ok all

  pub rows-fault : i < length moduli → roots_of m (get_or moduli i 0) ≡ None → rows_of m p moduli ≡ Err (NoRoot i)
  rows-fault within none =
      let here : position_from (is_rootless m) i (get_or moduli i 0 ∷ drop (suc i) moduli) ≡ Some i = rw none refl in
      let first : position (is_rootless m) moduli ≡ Some i = sym first_rootless ∙ ap (position_from (is_rootless m) i) (drop-cons moduli i 0 within) ∙ here in
      ap (λ o. unless_rootless o (map (row_for m p) moduli)) first

-- no row is there only where no base passes
pub no_roots : (m p q : ℕ) (row : Option RowDocument) → row ≡ option_map (λ _. row_for m p q) (roots_of m q) → row ≡ None → roots_of m q ≡ None
no_roots m p q row is none = go (roots_of m q) (sym is ∙ none)
  where
    go : (o : Option (ℕ × ℕ)) → option_map (λ _. row_for m p q) o ≡ None → o ≡ None
    go None e = refl
    go (Some roots) e = absurd (cc)
