-- What a template of the right shape is filled to has the shape of a table.
use Rattle.std.proofs.Common.{◌≡◌, ℕ, ◌-◌, ◌^◌, ◌*◌, ◌/◌, ◌%◌, ◌==◌, ◌<◌, ◌≤◌, Bool, true, false, List, [], length, map, take, get_or, slice_index, Option, None, Some, refl, sym, ◌∙◌, arith, length-append}
use Rattle.std.specs.Prelude.{if◌then◌else◌, All, MatchOption, unwrap_or}
use Rattle.std.proofs.lemmas.List.Elements.{All-append, All-map}
use Rattle.std.proofs.lemmas.List.{get_or-map, length-map, length-take-le}
use Rattle.std.proofs.Math.Nat.{mod-lt}
use Rattle.algebra.specs.Whole.{below}
use Rattle.algebra.proofs.Sums.{length-below, get_or-below}
use Rattle.moduli_table.specs.Checks.{two_power}
use Rattle.moduli_table.specs.First.{least_below}
use Rattle.moduli_table.specs.Search.{inverse_or_zero, roots_of, IsLeastBase}
use Rattle.moduli_table.proofs.Bases.{finds_least}
use Rattle.moduli_table.proofs.Firsts.{first_is}
use Rattle.table_keys.specs.Shapes.{AreDigits, ArePlainModuli, AreRows, IsDocument, IsSmall, IsSmallRow, IsTemplate, IsTriangle}
use Rattle.table_keys.specs.Templates.{Template}
use Rattle.table_maker.specs.Filled.{inverses_of, moduli_of, row_for, with_rows}
use Rattle.table_maker.specs.Ranges.{IsModulus}

chosen : (b : Bool) (x y : ℕ) → (if b then Some x else None) ≡ Some y → x ≡ y
chosen true x y e = cc
chosen false x y e = absurd (cc)

pub inverse_or_zero-below : (q a : ℕ) → 0 < q → inverse_or_zero q a < q
unfolding inverse_or_zero
inverse_or_zero-below q a positive = go (least_below q (λ x. a * x % q == 1)) refl
  where
    go : (o : Option ℕ) → least_below q (λ x. a * x % q == 1) ≡ o → unwrap_or o 0 < q
    go None e = positive
    go (Some x) e =
        let first = first_is (λ x. if a * x % q == 1 then Some x else None) q x e in
        let same : first.place ≡ x = chosen (a * first.place % q == 1) first.place x first.value in
        rw (← same) first.within

roots-below : (m q : ℕ) (o : Option (ℕ × ℕ)) (A : Type 0) → 0 < q → MatchOption o A (λ roots. (g : ℕ) × IsLeastBase m q g roots)
    → ((unwrap_or o (0, 0)).0 < q) × ((unwrap_or o (0, 0)).1 < q)
roots-below m q None A positive found = (positive, positive)
roots-below m q (Some roots) A positive found =
    rw found.1.roots_are (mod-lt (found.0 ^ ((q - 1) / (2 * m))) positive, mod-lt (found.0 ^ ((q - 1) / two_power m)) positive)

pub row_for-small : (m p q : ℕ) → 0 < p → p ≤ 131071 → IsModulus q → IsSmallRow (row_for m p q)
unfolding row_for
row_for-small m p q low high modulus =
    let roots = roots-below m q (roots_of m q) _ (omega (arith, modulus.low)) (finds_least m q) in
    record {
      q = omega (arith, modulus.high);
      zeta = omega (arith, modulus.high, roots.0);
      psi = omega (arith, modulus.high, roots.1);
      plain_inverse = omega (arith, inverse_or_zero-below p q low);
    }

moduli-ranges : (most : ℕ) (moduli : List ℕ) → ArePlainModuli most moduli → All IsModulus moduli
moduli-ranges most moduli are = λ k d within.
    let size = are.size k d within in
    record { odd = are.odd k d within; low = size.0; high = omega (arith, size.1) }

pub all_ranges : (t : Template) → IsTemplate t → All IsModulus (moduli_of t)
all_ranges t is = All-append IsModulus t.chain t.special (moduli-ranges 32 t.chain is.chain) (moduli-ranges 16 t.special is.special)

-- the inverses modulo modulus j
abbrev list_at : List ℕ → ℕ → List ℕ
list_at moduli j = map (inverse_or_zero (slice_index moduli j)) (take j moduli)

list_at-small : (moduli : List ℕ) → All IsModulus moduli → (j : ℕ) → j < length moduli → All IsSmall (list_at moduli j)
list_at-small moduli ranges j within =
    let q = slice_index moduli j in
    let range : IsModulus q = ranges j 0 within in
    All-map IsSmall (inverse_or_zero q) (take j moduli) (λ k d l. omega (arith, range.low, range.high, inverse_or_zero-below q (get_or (take j moduli) k d) (omega (arith, range.low))))

pub inverses-triangle : (moduli : List ℕ) → All IsModulus moduli → IsTriangle (length moduli) (inverses_of moduli)
unfolding inverses_of
inverses-triangle moduli ranges = record {
  count = long;
  small = All-map (λ row. All IsSmall row) (list_at moduli) (below n)
      (λ k d l. let at : get_or (below n) k d ≡ k = get_or-below n k d (omega (arith, l, length-below n)) in
      rw at (list_at-small moduli ranges k (omega (arith, l, length-below n))));
  rows = λ j l. let within : j < n = omega (arith, l, long) in
      rw (get_or-map (list_at moduli) (below n) j 0 [] (omega (arith, within, length-below n)), get_or-below n j 0 within, length-map)
      (length-take-le j moduli (omega (arith, within)));
}
  where
    n : ℕ
    n = length moduli

    long : length (map (list_at moduli) (below n)) ≡ n
    long = length-map (below n) (list_at moduli) ∙ length-below n

rows-shape : (m p most : ℕ) (moduli : List ℕ) → 0 < p → p ≤ 131071 → ArePlainModuli most moduli → AreRows most (map (row_for m p) moduli)
rows-shape m p most moduli low high are = record {
  count = rw (length-map moduli (row_for m p)) are.count;
  small = All-map IsSmallRow (row_for m p) moduli (λ k d l. row_for-small m p _ low high (moduli-ranges most moduli are k d l));
}

triangle-count : (n k : ℕ) (rows : List (List ℕ)) → n ≡ k → IsTriangle n rows → IsTriangle k rows
triangle-count n k rows e is = rw (← e) is

digits-count : (n k : ℕ) (digits : List ℕ) → n ≡ k → AreDigits n digits → AreDigits k digits
digits-count n k digits e are = rw (← e) are

pub with_rows-shape : (t : Template) → IsTemplate t → IsDocument (with_rows t)
unfolding with_rows
with_rows-shape t is =
    let chain : length (map (row_for t.m t.p) t.chain) ≡ length t.chain = length-map t.chain (row_for t.m t.p) in
    let special : length (map (row_for t.m t.p) t.special) ≡ length t.special = length-map t.special (row_for t.m t.p) in
    let positive : 0 < t.p = omega (arith, is.p.0) in
    record {
      m = is.m;
      p = is.p;
      factor = is.factor;
      dual = is.dual;
      generators = is.generators;
      moduli = record {
        weight = is.weight;
        digits = digits-count _ _ t.digits (sym chain) is.digits;
        chain = rows-shape t.m t.p 32 t.chain positive is.p.1 is.chain;
        special = rows-shape t.m t.p 16 t.special positive is.p.1 is.special;
        inverse = triangle-count _ _ (inverses_of (moduli_of t)) (omega (arith, chain, special, length-append t.chain t.special)) (inverses-triangle (moduli_of t) (all_ranges t is));
      };
    }
