-- Some moduli of an accepted table are a basis.
use Rattle.std.proofs.Common.{◌≡◌, ℕ, ◌+◌, ◌*◌, ◌%◌, ◌^◌, ◌<◌, ◌≤◌, List, [], ◌++◌, length, map, take, drop, get_or, All, arith, ap, sym, ◌∙◌, subst}
use Rattle.std.proofs.lemmas.List.{length-map, length-take, length-drop, length-append, get_or-map, get_or-take, get_or-drop, ext_get_or}
use Rattle.std.proofs.lemmas.List.Elements.{All-map, All-from_get_or}
use Rattle.mixed_radix.specs.Basis.{Basis, IsBasis}
use Rattle.mixed_radix.specs.Basis as basis
use Rattle.moduli_table.specs.declared.rows.ModRow.{ModRow}
use Rattle.moduli_table.specs.Chain.{Chain, no_row, count, row_at, modulus_at, entry_at}
use Rattle.moduli_table.specs.Accepted.{IsAccepted, IsAcceptedRow, IsInverse}
use Rattle.moduli_table.proofs.EuclidSteps.{same_inverse}
use Rattle.double_crt.specs.Bases.{basis_from}

module _ (c : Chain) (A : IsAccepted c) where
  rows : List ModRow
  rows = c.chain ++ c.special

  -- the inverses of a row, from those that were found
  pub inverses_are : (first many : ℕ) (found : List ℕ) → first + many < count c → length found ≡ many → ((k : ℕ) → k < many → IsInverse (modulus_at c (first + many)) (modulus_at c (first + k)) (get_or found k 0)) → found ≡ drop first (get_or c.inverse (first + many) [])
  inverses_are first many found l n h = ext_get_or 0 found (drop first given) (n ∙ sym long) (λ k s. let t : k < many = omega (arith, n) in same_inverse (modulus_at c (first + many)) (modulus_at c (first + k)) (get_or found k 0) (entry_at c (first + k) (first + many)) (h k t).below (table k t).below (h k t).one (table k t).one ∙ sym (get_or-drop first given k 0))
    where
      given : List ℕ
      given = get_or c.inverse (first + many) []

      long : length (drop first given) ≡ many
      long = omega (arith, length-drop first given, A.shaped.entries (first + many) l)

      table : (k : ℕ) → k < many → IsInverse (modulus_at c (first + many)) (modulus_at c (first + k)) (entry_at c (first + k) (first + many))
      table k t = A.moduli.inverses (first + k) (first + many) (omega arith) l

  module _ (first many : ℕ) (fits : first + many ≤ count c) where
    abbrev some_rows : List ModRow
    some_rows = take many (drop first (c.chain ++ c.special))

    rows_long : length some_rows ≡ many
    rows_long = omega (arith, length-take many (drop first (c.chain ++ c.special)), length-drop first (c.chain ++ c.special), length-append c.chain c.special)

    row_is : (k : ℕ) → k < many → get_or some_rows k no_row ≡ row_at c (first + k)
    row_is k l = get_or-take many (drop first (c.chain ++ c.special)) k no_row l ∙ get_or-drop first (c.chain ++ c.special) k no_row

    modulus_is : (k : ℕ) → k < many → get_or (map (λ (r : ModRow). r.q) some_rows) k 0 ≡ modulus_at c (first + k)
    modulus_is k l = get_or-map (λ (r : ModRow). r.q) some_rows k no_row 0 (omega (arith, rows_long)) ∙ ap (λ (r : ModRow). r.q) (row_is k l)

    abbrev some_lists : List (List ℕ)
    some_lists = take many (drop first c.inverse)

    lists_long : length some_lists ≡ many
    lists_long = omega (arith, length-take many (drop first c.inverse), length-drop first c.inverse, A.shaped.lists)

    list_is : (k : ℕ) → k < many → get_or (map (drop first) some_lists) k [] ≡ drop first (get_or c.inverse (first + k) [])
    list_is k l = get_or-map (drop first) some_lists k [] [] (omega (arith, lists_long)) ∙ ap (drop first) (get_or-take many (drop first c.inverse) k [] l ∙ get_or-drop first c.inverse k [])

    -- what holds of each modulus
    each_modulus : (P : ℕ → Type 0) → ((r : ModRow) → IsAcceptedRow c.m r → P r.q) → All P (map (λ (r : ModRow). r.q) some_rows)
    each_modulus P h = All-map P (λ (r : ModRow). r.q) some_rows (All-from_get_or (λ (r : ModRow). P r.q) some_rows no_row (λ k l. let s : k < many = omega (arith, rows_long) in subst (λ (r : ModRow). P r.q) (sym (row_is k s)) (h (row_at c (first + k)) (A.moduli.rows (first + k) (omega arith)))))

    moduli_long : length (map (λ (r : ModRow). r.q) some_rows) ≡ many
    moduli_long = length-map some_rows (λ (r : ModRow). r.q) ∙ rows_long

    list_long : (j : ℕ) → j < many → length (get_or (map (drop first) some_lists) j []) ≡ j
    list_long j l = ap length (list_is j l) ∙ (let s : first + j < count c = omega arith in omega (arith, length-drop first (get_or c.inverse (first + j) []), A.shaped.entries (first + j) s))

    right : (i j : ℕ) → i < j → j < many → basis.IsInverse (get_or (map (λ (r : ModRow). r.q) some_rows) j 0) (get_or (map (λ (r : ModRow). r.q) some_rows) i 0) (get_or (get_or (map (drop first) some_lists) j []) i 0)
    right i j l s = from (modulus_is j s) (modulus_is i (omega arith)) (ap (λ es. get_or es i 0) (list_is j s) ∙ get_or-drop first (get_or c.inverse (first + j) []) i 0) (A.moduli.inverses (first + i) (first + j) (omega arith) (omega arith))
      where
        from : {q k e q' k' e' : ℕ} → q ≡ q' → k ≡ k' → e ≡ e' → IsInverse q' k' e' → basis.IsInverse q k e
        from {q} {k} {e} {q'} {k'} {e'} f g h I = record { below = subst (λ x. x < q) (sym h) (subst (λ x. e' < x) (sym f) I.below); one = ap (λ x. (k * x) % q) h ∙ ap (λ x. (x * e') % q) g ∙ ap (λ x. (k' * e') % x) f ∙ I.one }

    pub basis_is : IsBasis (basis_from c first many)
    basis_is = record {
      odd = each_modulus (λ q. q % 2 ≡ 1) (λ r B. B.odd);
      range = each_modulus (λ q. (3 ≤ q) × (q < 2 ^ 62)) (λ r B. (B.low, B.high));
      lists = length-map some_lists (drop first) ∙ lists_long ∙ sym moduli_long;
      entries = λ j l. list_long j (omega (arith, moduli_long));
      right = λ i j l s. right i j l (omega (arith, moduli_long));
    }
