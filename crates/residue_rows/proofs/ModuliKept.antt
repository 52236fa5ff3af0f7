-- The moduli of accepted tables that a polynomial keeps.
use Rattle.std.specs.Prelude.{◌≡◌, ◌⊎◌, ℕ, ◌+◌, ◌-◌, ◌*◌, ◌/◌, ◌%◌, ◌^◌, ◌<◌, ◌≤◌, Bool, true, false, if◌then◌else◌, All, AllPairs, List, [], ◌++◌, length, get_or, take, refl}
use Rattle.std.proofs.Common.{sym, ◌∙◌, ap, subst, subst₂, arith, inl, inr, div-add-mod', append-nil}
use Rattle.std.proofs.lemmas.Bool.{cases_lt}
use Rattle.std.proofs.lemmas.List.{length-map, length-append, length-take, get_or_default, get_or-map, get_or-take, get_or_append_left, get_or-append_right}
use Rattle.std.proofs.lemmas.List.Elements.{All-map, All-weaker, All-from_get_or}
use Rattle.algebra.specs.Divisor.{HasInverse}
use Rattle.algebra.specs.Whole.{AreInvertible}
use Rattle.moduli_table.specs.declared.rows.ModRow.{ModRow}
use Rattle.moduli_table.specs.Chain.{Chain, no_row, modulus_at, entry_at}
use Rattle.moduli_table.specs.Accepted.{IsInverse, IsAcceptedRow}
use Rattle.moduli_table.proofs.Omega.{are_roots}
use Rattle.residue_rows.specs.Kept.{RingSetting, IsSetting, rows_kept, moduli_kept, root_of}
use Rattle.residue_rows.specs.ValueLaws.{IsAcceptedRoot}
use Rattle.residue_rows.specs.KeptLaws.{AreModuli}

-- where element i of the first n of a list and, or not, a further list stands in both lists
module _ {X : Type 0} (xs ys : List X) (n : ℕ) (within : n ≤ length xs) where
  abbrev kept : Bool → List X
  kept more = take n xs ++ (if more then ys else [])

  first_long : length (take n xs) ≡ n
  first_long = omega (arith, length-take n xs)

  -- the place in both lists
  record Stands (more : Bool) (i : ℕ) : Type 0 where
    at : ℕ
    low : at < length (xs ++ ys)
    same : (d : X) → get_or (kept more) i d ≡ get_or (xs ++ ys) at d
    near : i < n → at ≡ i
    far : n ≤ i → at ≡ length xs + (i - n)

  stands_first : (more : Bool) (i : ℕ) → i < n → Stands more i
  stands_first more i l = record {
    at = i;
    low = omega (arith, length-append xs ys);
    same = λ d. get_or_append_left (take n xs) (if more then ys else []) d i (omega (arith, first_long)) ∙ get_or-take n xs i d l ∙ sym (get_or_append_left xs ys d i (omega arith));
    near = λ k. refl;
    far = λ k. absurd (omega arith);
  }

  stands_rest : (more : Bool) (i : ℕ) → n ≤ i → i < length (kept more) → Stands more i
  stands_rest true i k l = record {
    at = length xs + (i - n);
    low = omega (arith, length-append xs ys, length-append (take n xs) ys, first_long);
    same = λ d. get_or-append_right (take n xs) ys n i d first_long k ∙ sym (get_or-append_right xs ys (length xs) (length xs + (i - n)) d refl (omega arith) ∙ ap (λ z. get_or ys z d) (let e : length xs + (i - n) - length xs ≡ i - n = omega arith in e));
    near = λ s. absurd (omega arith);
    far = λ s. refl;
  }
  stands_rest false i k l = absurd (omega (arith, ap length (append-nil (take n xs)), first_long))

  stands : (more : Bool) (i : ℕ) → i < length (kept more) → Stands more i
  stands more i l = go (cases_lt i n)
    where
      go : (i < n) ⊎ (n ≤ i) → Stands more i
      go (inl s) = stands_first more i s
      go (inr s) = stands_rest more i s l

  -- what holds of each element holds of those kept
  pub all_kept : (P : X → Type 0) (more : Bool) → All P (xs ++ ys) → All P (kept more)
  all_kept P more h k d l = let s = stands more k l in subst P (sym (s.same d)) (h s.at d s.low)

  -- and the same of pairs
  pub pairs_kept : (R : X → X → Type 0) (more : Bool) → AllPairs R (xs ++ ys) → AllPairs R (kept more)
  pairs_kept R more h i j d l k = go (stands more i (omega arith)) (stands more j k) (cases_lt i n) (cases_lt j n)
    where
      go : Stands more i → Stands more j → (i < n) ⊎ (n ≤ i) → (j < n) ⊎ (n ≤ j) → R (get_or (kept more) i d) (get_or (kept more) j d)
      go s t u v = subst₂ R (sym (s.same d)) (sym (t.same d)) (h s.at t.at d (order u v) t.low)
        where
          order : (i < n) ⊎ (n ≤ i) → (j < n) ⊎ (n ≤ j) → s.at < t.at
          order (inl p) (inl q) = omega (arith, s.near p, t.near q)
          order (inl p) (inr q) = omega (arith, s.near p, t.far q)
          order (inr p) (inl q) = absurd (omega arith)
          order (inr p) (inr q) = omega (arith, s.far p, t.far q)

-- an inverse in numbers
inverse_is : (q k e : ℕ) → IsInverse q k e → HasInverse q k
inverse_is q k e h = (e, k * e / q, go (k * e / q) (k * e % q) (div-add-mod' (k * e) q) h.one)
  where
    go : (t s : ℕ) → t * q + s ≡ k * e → s ≡ 1 → k * e ≡ q * t + 1
    go t s f g = omega (arith, f, g)

module _ (t : RingSetting) (S : IsSetting t) where
  abbrev c : Chain
  c = t.moduli

  rows_accepted : All (IsAcceptedRow c.m) (c.chain ++ c.special)
  rows_accepted = All-from_get_or (IsAcceptedRow c.m) (c.chain ++ c.special) no_row (λ i l. S.accepted.moduli.rows i (omega (arith, length-append c.chain c.special)))

  rows_invertible : AllPairs (λ r s. HasInverse s.q r.q) (c.chain ++ c.special)
  rows_invertible i j d l k = subst₂ (λ r s. HasInverse s.q r.q) (get_or_default rows i no_row d (omega arith)) (get_or_default rows j no_row d k) (inverse_is (modulus_at c j) (modulus_at c i) (entry_at c i j) (S.accepted.moduli.inverses i j l (omega (arith, length-append c.chain c.special))))
    where
      rows : List ModRow
      rows = c.chain ++ c.special

  accepted_root : (r : ModRow) → IsAcceptedRow c.m r → IsAcceptedRoot c.m (root_of r)
  accepted_root r A = record { some = S.accepted.shaped.m_low; above = A.low; one_more = A.residue; is_root = (are_roots c.m r S.accepted.shaped.m_low A).pair.is_root }

  module _ (chain_rows : ℕ) (special : Bool) (fits : chain_rows ≤ length t.moduli.chain) where
    rows_in : All (IsAcceptedRow c.m) (rows_kept t chain_rows special)
    rows_in = all_kept c.chain c.special chain_rows fits (IsAcceptedRow c.m) special rows_accepted

    -- what holds of the modulus of each row
    each_modulus : (P : ℕ → Type 0) → ((r : ModRow) → IsAcceptedRow c.m r → P r.q) → All P (moduli_kept t chain_rows special)
    each_modulus P h = All-map P (λ r. r.q) (rows_kept t chain_rows special) (All-weaker (IsAcceptedRow c.m) (λ r. P r.q) h (rows_kept t chain_rows special) rows_in)

    pub roots_are : All (λ r. IsAcceptedRoot c.m (root_of r)) (rows_kept t chain_rows special)
    roots_are = All-weaker (IsAcceptedRow c.m) (λ r. IsAcceptedRoot c.m (root_of r)) accepted_root (rows_kept t chain_rows special) rows_in

    invertible : AreInvertible (moduli_kept t chain_rows special)
    invertible i j d l k = subst₂ (λ q r. HasInverse r q) (sym (at i (omega arith))) (sym (at j k)) (pairs_kept c.chain c.special chain_rows fits (λ r s. HasInverse s.q r.q) special rows_invertible i j no_row l (omega (arith, long)))
      where
        long : length (moduli_kept t chain_rows special) ≡ length (rows_kept t chain_rows special)
        long = length-map (rows_kept t chain_rows special) (λ r. r.q)

        at : (i : ℕ) → i < length (moduli_kept t chain_rows special) → get_or (moduli_kept t chain_rows special) i d ≡ (get_or (rows_kept t chain_rows special) i no_row).q
        at i l = get_or-map (λ r. r.q) (rows_kept t chain_rows special) i no_row d (omega (arith, long))

    pub moduli_are : AreModuli t chain_rows special
    moduli_are = record {
      odd = each_modulus (λ q. q % 2 ≡ 1) (λ r A. A.odd);
      some = each_modulus (λ q. 0 < q) (λ r A. let l = A.low in omega arith);
      range = each_modulus (λ q. (3 ≤ q) × (q < 2 ^ 62)) (λ r A. (A.low, A.high));
      invertible = invertible;
      roots = roots_are;
    }
