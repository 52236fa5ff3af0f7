-- What is done to the values at the units is done to the polynomial.
use Rattle.std.proofs.Common.{◌≡◌, refl, true, false, IsTrue, if◌then◌else◌, le_trans, ℕ, zero, suc, ◌+◌, ◌-◌, ◌*◌, ◌%◌, ◌<◌, ◌≤◌, Bool, List, [], ◌∷◌, ◌++◌, length, map, take, drop, get_or, arith, ap, ap₂, sym, ◌∙◌, subst, subst₂, ℤ}
use Rattle.std.proofs.lemmas.List.{map-append, take-map, drop-map}
use Rattle.algebra.specs.Divisor.{UnitModulo, units}
use Rattle.algebra.specs.Whole.{residue}
use Rattle.cyclotomic.specs.Cyclotomic.{degree}
use Rattle.moduli_table.specs.declared.rows.ModRow.{ModRow}
use Rattle.moduli_table.specs.Chain.{no_row}
use Rattle.residue_rows.specs.Rows.{AreRows, rows_of, R_each, both, each, multiple_each, substituted_each}
use Rattle.residue_rows.specs.Values.{values_of}
use Rattle.residue_rows.specs.ValueLaws.{pointwise}
use Rattle.residue_rows.specs.Kept.{RingSetting, Residues, IsSetting, IsKept, AreAlike, rows_kept, moduli_kept, moduli_of, ring_of, with_rows, root_of, values_each, interpolated_each, polynomial_values}
use Rattle.residue_rows.proofs.KeptValues.{AreRoots}
use Rattle.residue_rows.proofs.ModuliKept.{roots_are, moduli_are}
use Rattle.residue_rows.proofs.KeptCuts.{interpolated_each-cut, cut_in}
use Rattle.residue_rows.proofs.RowsResidues.{residues_law}
use Rattle.residue_rows.proofs.ValuesEach.{interpolated_in, values_in, each_forth, each_back, each-sum, each-product, each-difference, each-negative, each-multiple, each-substituted, sum_in, product_in, difference_in, negative_in, multiple_in, substituted_in}
use Rattle.double_crt.specs.Held.{moduli_in, entries_in, AreHeld, IsHeld, polynomial_of}
use Rattle.double_crt.specs.ModuloRows.{ModuloRow, empty_row, IsAlike, added, subtracted, multiplied, negative, scaled_by, permuted}
use Rattle.double_crt.specs.Restricted.{restricted}
use Rattle.double_crt.specs.Places.{ArePlaces}
use Rattle.double_crt.proofs.HeldSteps.{rows_long, entries_long, modulus_or, long_or, entry_is, row_modulus, modulus_at, interpolated_long}
use Rattle.double_crt.proofs.ListSteps.{written}

-- a list of rows that is made row by row
pub both_made : (f : ℕ → List ℕ → List ℕ → List ℕ) (rows others new : List ModuloRow) → length others ≡ length rows → length new ≡ length rows → ((k : ℕ) → k < length rows → get_or new k empty_row ≡ record { q = (get_or rows k empty_row).q; entries = f (get_or rows k empty_row).q (get_or rows k empty_row).entries (get_or others k empty_row).entries }) → (moduli_in new ≡ moduli_in rows) × (entries_in new ≡ both f (moduli_in rows) (entries_in rows) (entries_in others))
unfolding both
both_made f [] others [] e g h = (refl, refl)
both_made f [] others (x ∷ new) e g h = absurd (omega (arith, g))
both_made f (a ∷ rows) others [] e g h = absurd (omega (arith, g))
both_made f (a ∷ rows) [] (x ∷ new) e g h = absurd (omega (arith, e))
both_made f (a ∷ rows) (b ∷ others) (x ∷ new) e g h =
    let rest = both_made f rows others new (omega (arith, e)) (omega (arith, g)) (λ k l. h (suc k) (omega arith)) in
    (ap₂ (λ q qs. q ∷ qs) (ap (λ (r : ModuloRow). r.q) (h 0 (omega arith))) rest.0, ap₂ (λ v vs. v ∷ vs) (ap (λ (r : ModuloRow). r.entries) (h 0 (omega arith))) rest.1)

pub each_made : (f : ℕ → List ℕ → List ℕ) (rows new : List ModuloRow) → length new ≡ length rows → ((k : ℕ) → k < length rows → get_or new k empty_row ≡ record { q = (get_or rows k empty_row).q; entries = f (get_or rows k empty_row).q (get_or rows k empty_row).entries }) → (moduli_in new ≡ moduli_in rows) × (entries_in new ≡ each f (moduli_in rows) (entries_in rows))
unfolding each
each_made f [] [] g h = (refl, refl)
each_made f [] (x ∷ new) g h = absurd (omega (arith, g))
each_made f (a ∷ rows) [] g h = absurd (omega (arith, g))
each_made f (a ∷ rows) (x ∷ new) g h =
    let rest = each_made f rows new (omega (arith, g)) (λ k l. h (suc k) (omega arith)) in
    (ap₂ (λ q qs. q ∷ qs) (ap (λ (r : ModuloRow). r.q) (h 0 (omega arith))) rest.0, ap₂ (λ v vs. v ∷ vs) (ap (λ (r : ModuloRow). r.entries) (h 0 (omega arith))) rest.1)

-- what is held is kept
pub held_kept : (t : RingSetting) (n : ℕ) (b : Bool) (rows : List ModuloRow) → IsHeld t n b rows → IsKept (polynomial_of t n b rows)
held_kept t n b rows H = record {
  setting = H.setting;
  chain_fits = H.fits;
  rows_in = interpolated_in t.moduli.m (rows_kept t n b) (roots_are t H.setting n b H.fits) (entries_in rows) H.held.entries;
}

pub seen_kept : (t : RingSetting) (n : ℕ) (b : Bool) (rows : List ModuloRow) (a : Residues) → polynomial_of t n b rows ≡ a → IsHeld t n b rows → IsKept a
seen_kept t n b rows a e H = subst IsKept e (held_kept t n b rows H)

-- rows that are written over, and the polynomial that they become
pub record Becomes (t : RingSetting) (n : ℕ) (b : Bool) (rows : List ModuloRow) (target : Residues) : Type 0 where
  pub held : IsHeld t n b rows
  pub is : polynomial_of t n b rows ≡ target
  pub kept : IsKept (polynomial_of t n b rows)

module _ (t : RingSetting) (n : ℕ) (b : Bool) (rows : List ModuloRow) (H : IsHeld t n b rows) where
  abbrev m : ℕ
  m = t.moduli.m

  abbrev qs : List ℕ
  qs = moduli_kept t n b

  abbrev I : List (List ℕ) → List (List ℕ)
  I vs = interpolated_each t.moduli.m (rows_kept t n b) vs

  roots : AreRoots m (rows_kept t n b)
  roots = roots_are t H.setting n b H.fits

  -- new entries for the same moduli
  becomes : (len : ℕ) (new : List ModuloRow) (vs target : List (List ℕ)) (a : Residues) → length new ≡ len → moduli_in new ≡ moduli_in rows → entries_in new ≡ vs → AreRows m qs vs → I vs ≡ target → with_rows (polynomial_of t n b rows) target ≡ a → Becomes t n b (take len (new ++ drop (length new) rows)) a
  becomes len new vs target a l e f h g s = record { held = held; is = ap (polynomial_of t n b) w ∙ ap (λ vs. with_rows (polynomial_of t n b rows) (I vs)) f ∙ ap (with_rows (polynomial_of t n b rows)) g ∙ s; kept = held_kept t n b (take len (new ++ drop (length new) rows)) held }
    where
      w : take len (new ++ drop (length new) rows) ≡ new
      w = written len new rows l

      held : IsHeld t n b (take len (new ++ drop (length new) rows))
      held = subst (IsHeld t n b) (sym w) (record { setting = H.setting; fits = H.fits; held = record { moduli = e ∙ H.held.moduli; entries = subst (AreRows m qs) (sym f) h } })

  -- a polynomial with the same tables and moduli
  module _ (t' : RingSetting) (n' : ℕ) (b' : Bool) (others : List ModuloRow) (a c : Residues) (seen : polynomial_of t n b rows ≡ a) (other : polynomial_of t' n' b' others ≡ c) (K : IsHeld t' n' b' others) (s : AreAlike a c) where
    same_tables : t' ≡ t
    same_tables = ap (λ (r : Residues). r.tables) other ∙ s.tables ∙ sym (ap (λ (r : Residues). r.tables) seen)

    same_rows : n' ≡ n
    same_rows = ap (λ (r : Residues). r.chain_rows) other ∙ s.chain_rows ∙ sym (ap (λ (r : Residues). r.chain_rows) seen)

    same_special : b' ≡ b
    same_special = ap (λ (r : Residues). r.special) other ∙ s.special ∙ sym (ap (λ (r : Residues). r.special) seen)

    pub other_held : IsHeld t n b others
    other_held = subst (λ b. IsHeld t n b others) same_special (subst (λ n. IsHeld t n b' others) same_rows (subst (λ t. IsHeld t n' b' others) same_tables K))

    other_is : I (entries_in others) ≡ c.rows
    other_is = sym (ap (λ b. (polynomial_of t n b others).rows) same_special) ∙ sym (ap (λ n. (polynomial_of t n b' others).rows) same_rows) ∙ sym (ap (λ t. (polynomial_of t n' b' others).rows) same_tables) ∙ ap (λ (r : Residues). r.rows) other

    pub other_long : length others ≡ length rows
    other_long = rows_long t n b others other_held.held ∙ sym (rows_long t n b rows H.held)

    pub alike_at : (k : ℕ) → k < length rows → IsAlike (get_or rows k empty_row) (get_or others k empty_row)
    alike_at k l = let l' : k < length others = omega (arith, other_long) in record {
      modulus = modulus_or t n b others other_held.held k l' ∙ sym (modulus_or t n b rows H.held k l);
      long = long_or t n b others other_held.held k l' ∙ sym (long_or t n b rows H.held k l);
    }

    -- f of both rows at each modulus, which is an operation of the ring
    module _ (f : ℕ → List ℕ → List ℕ → List ℕ) (F : ℕ → List ℕ → List (List ℕ) → List (List ℕ) → List (List ℕ)) (rows_are : AreRows m qs (both f qs (entries_in rows) (entries_in others))) (F_is : I (both f qs (entries_in rows) (entries_in others)) ≡ F m qs (I (entries_in rows)) (I (entries_in others))) (len : ℕ) (new : List ModuloRow) (l : length new ≡ len) (l' : length new ≡ length rows) (h : (k : ℕ) → k < length rows → get_or new k empty_row ≡ record { q = (get_or rows k empty_row).q; entries = f (get_or rows k empty_row).q (get_or rows k empty_row).entries (get_or others k empty_row).entries }) where
      both_becomes : Becomes t n b (take len (new ++ drop (length new) rows)) (with_rows a (F a.tables.moduli.m (moduli_of a) a.rows c.rows))
      both_becomes = becomes len new (both f qs (entries_in rows) (entries_in others)) (F m qs (I (entries_in rows)) c.rows) (with_rows a (F a.tables.moduli.m (moduli_of a) a.rows c.rows)) l made.0 (made.1 ∙ ap (λ qs. both f qs (entries_in rows) (entries_in others)) H.held.moduli) rows_are (F_is ∙ ap (F m qs (I (entries_in rows))) other_is) (ap (λ (a : Residues). with_rows a (F a.tables.moduli.m (moduli_of a) a.rows c.rows)) seen)
        where
          made : (moduli_in new ≡ moduli_in rows) × (entries_in new ≡ both f (moduli_in rows) (entries_in rows) (entries_in others))
          made = both_made f rows others new other_long l' h

    module _ (front back new : List ModuloRow) (front_is : front ≡ rows) (back_is : back ≡ others) (len : ℕ) (l : length new ≡ len) (l' : length new ≡ length front) where
      -- what holds of the rows that were lent
      lent : (f : ModuloRow → ModuloRow → ModuloRow) → ((k : ℕ) → k < length front → get_or new k empty_row ≡ f (get_or front k empty_row) (get_or back k empty_row)) → (k : ℕ) → k < length rows → get_or new k empty_row ≡ f (get_or rows k empty_row) (get_or others k empty_row)
      lent f = subst₂ (λ (front back : List ModuloRow). (k : ℕ) → k < length front → get_or new k empty_row ≡ f (get_or front k empty_row) (get_or back k empty_row)) front_is back_is

      pub sum_becomes : ((k : ℕ) → k < length front → get_or new k empty_row ≡ added (get_or front k empty_row) (get_or back k empty_row)) → Becomes t n b (take len (new ++ drop (length new) rows)) (with_rows a ((ring_of a).add a.rows c.rows))
      sum_becomes h = both_becomes (λ q. pointwise (λ x y. (x + y) % q)) (λ m qs. (R_each m qs).add) (sum_in m (rows_kept t n b) roots (entries_in rows) (entries_in others) H.held.entries other_held.held.entries) (each-sum m (rows_kept t n b) roots (entries_in rows) (entries_in others) H.held.entries other_held.held.entries) len new l (l' ∙ ap length front_is) (lent added h)

      pub difference_becomes : ((k : ℕ) → k < length front → get_or new k empty_row ≡ subtracted (get_or front k empty_row) (get_or back k empty_row)) → Becomes t n b (take len (new ++ drop (length new) rows)) (with_rows a ((ring_of a).add a.rows ((ring_of a).neg c.rows)))
      difference_becomes h = both_becomes (λ q. pointwise (λ x y. (x + (q - y)) % q)) (λ m qs v w. (R_each m qs).add v ((R_each m qs).neg w)) (difference_in m (rows_kept t n b) roots (entries_in rows) (entries_in others) H.held.entries other_held.held.entries) (each-difference m (rows_kept t n b) roots (entries_in rows) (entries_in others) H.held.entries other_held.held.entries) len new l (l' ∙ ap length front_is) (lent subtracted h)

      pub product_becomes : ((k : ℕ) → k < length front → get_or new k empty_row ≡ multiplied (get_or front k empty_row) (get_or back k empty_row)) → Becomes t n b (take len (new ++ drop (length new) rows)) (with_rows a ((ring_of a).mul a.rows c.rows))
      product_becomes h = both_becomes (λ q. pointwise (λ x y. (x * y) % q)) (λ m qs. (R_each m qs).mul) (product_in m (rows_kept t n b) roots (entries_in rows) (entries_in others) H.held.entries other_held.held.entries) (each-product m (rows_kept t n b) roots (entries_in rows) (entries_in others) H.held.entries other_held.held.entries) len new l (l' ∙ ap length front_is) (lent multiplied h)

  -- f of the row at each modulus
  module _ (a : Residues) (seen : polynomial_of t n b rows ≡ a) (front new : List ModuloRow) (front_is : front ≡ rows) (len : ℕ) (l : length new ≡ len) (l' : length new ≡ length front) where
    each_becomes : (f : ℕ → List ℕ → List ℕ) (F : ℕ → List ℕ → List (List ℕ) → List (List ℕ)) → AreRows m qs (each f qs (entries_in rows)) → I (each f qs (entries_in rows)) ≡ F m qs (I (entries_in rows)) → ((k : ℕ) → k < length front → get_or new k empty_row ≡ record { q = (get_or front k empty_row).q; entries = f (get_or front k empty_row).q (get_or front k empty_row).entries }) → Becomes t n b (take len (new ++ drop (length new) rows)) (with_rows a (F a.tables.moduli.m (moduli_of a) a.rows))
    each_becomes f F rows_are F_is h = becomes len new (each f qs (entries_in rows)) (F m qs (I (entries_in rows))) (with_rows a (F a.tables.moduli.m (moduli_of a) a.rows)) l made.0 (made.1 ∙ ap (λ qs. each f qs (entries_in rows)) H.held.moduli) rows_are F_is (ap (λ (a : Residues). with_rows a (F a.tables.moduli.m (moduli_of a) a.rows)) seen)
      where
        made : (moduli_in new ≡ moduli_in rows) × (entries_in new ≡ each f (moduli_in rows) (entries_in rows))
        made = each_made f rows new (l' ∙ ap length front_is) (subst (λ (front : List ModuloRow). (k : ℕ) → k < length front → get_or new k empty_row ≡ record { q = (get_or front k empty_row).q; entries = f (get_or front k empty_row).q (get_or front k empty_row).entries }) front_is h)

    pub negative_becomes : ((k : ℕ) → k < length front → get_or new k empty_row ≡ negative (get_or front k empty_row)) → Becomes t n b (take len (new ++ drop (length new) rows)) (with_rows a ((ring_of a).neg a.rows))
    negative_becomes = each_becomes (λ q. map (λ x. (q - x) % q)) (λ m qs. (R_each m qs).neg) (negative_in m (rows_kept t n b) roots (entries_in rows) H.held.entries) (each-negative m (rows_kept t n b) roots (entries_in rows) H.held.entries)

    pub multiple_becomes : (k : ℤ) → ((i : ℕ) → i < length front → get_or new i empty_row ≡ scaled_by k (get_or front i empty_row)) → Becomes t n b (take len (new ++ drop (length new) rows)) (with_rows a (multiple_each (moduli_of a) k a.rows))
    multiple_becomes k = each_becomes (λ q. map (λ x. (residue q k * x) % q)) (λ m qs. multiple_each qs k) (multiple_in m (rows_kept t n b) roots k (entries_in rows) H.held.entries) (each-multiple m (rows_kept t n b) roots k (entries_in rows) H.held.entries)

  -- the values at the units, and how many rows there are
  pub values_are : values_each m (rows_kept t n b) (I (entries_in rows)) ≡ entries_in rows
  values_are = each_forth m (rows_kept t n b) roots (entries_in rows) H.held.entries

  pub rows_many : length (I (entries_in rows)) ≡ length rows
  rows_many = interpolated_long m (rows_kept t n b) (entries_in rows) (entries_long t n b rows H.held) ∙ sym (rows_long t n b rows H.held)

  -- one value
  pub value_is : (a : Residues) → polynomial_of t n b rows ≡ a → (i u : ℕ) (row : ModuloRow) → i < length rows → row ≡ get_or rows i row → get_or row.entries u 0 ≡ get_or (get_or (polynomial_values a) i []) u 0
  value_is a e i u row l f = ap (λ v. get_or v u 0) (sym (entry_is t n b rows H.held i row l f) ∙ ap (λ vs. get_or vs i []) (sym values_are)) ∙ ap (λ (a : Residues). get_or (get_or (polynomial_values a) i []) u 0) e

  pub value_modulus : (a : Residues) → polynomial_of t n b rows ≡ a → (i : ℕ) (row : ModuloRow) → i < length rows → row ≡ get_or rows i row → row.q ≡ get_or (moduli_of a) i 0
  value_modulus a e i row l f = row_modulus t n b rows H.held i row l f ∙ sym (modulus_at t n b i 0 (omega (arith, rows_long t n b rows H.held))) ∙ ap (λ (a : Residues). get_or (moduli_of a) i 0) e

-- the same where the tables and the moduli are named otherwise
becomes_there : (t t' : RingSetting) (n n' : ℕ) (b b' : Bool) (rows : List ModuloRow) (a : Residues) → t' ≡ t → n' ≡ n → b' ≡ b → Becomes t n b rows a → Becomes t' n' b' rows a
becomes_there t t' n n' b b' rows a e f g B = subst (λ t. Becomes t n' b' rows a) (sym e) (subst (λ n. Becomes t n b' rows a) (sym f) (subst (λ b. Becomes t n b rows a) (sym g) B))

-- other rows that take the values of a polynomial at other units
module _ (t : RingSetting) (n : ℕ) (b : Bool) (rows : List ModuloRow) (H : IsHeld t n b rows) (t' : RingSetting) (n' : ℕ) (b' : Bool) (others : List ModuloRow) (a c : Residues) (seen : polynomial_of t n b rows ≡ a) (other : polynomial_of t' n' b' others ≡ c) (K : IsHeld t' n' b' others) (s : AreAlike a c) where
  held_other : IsHeld t n b others
  held_other = other_held t n b rows H t' n' b' others a c seen other K s

  module _ (k : ℕ) (places us : List ℕ) (P : ArePlaces a.tables.moduli.m places) (positive : 0 < k) (unit : UnitModulo a.tables.moduli.m k) (us_are : us ≡ units a.tables.moduli.m) where
    pub moved_becomes : (front new : List ModuloRow) (len : ℕ) → front ≡ rows → length new ≡ len → length new ≡ length others → ((i : ℕ) → i < length front → get_or new i empty_row ≡ permuted (λ j. get_or places ((j * k) % length places) 0) (get_or front i empty_row) us) → Becomes t' n' b' (take len (new ++ drop (length new) others)) (with_rows a (substituted_each a.tables.moduli.m (moduli_of a) k a.rows))
    moved_becomes front new len e l l' h = becomes_there t t' n n' b b' (take len (new ++ drop (length new) others)) (with_rows a (substituted_each a.tables.moduli.m (moduli_of a) k a.rows)) (same_tables t n b rows H t' n' b' others a c seen other K s) (same_rows t n b rows H t' n' b' others a c seen other K s) (same_special t n b rows H t' n' b' others a c seen other K s) (becomes t n b others held_other len new (each moved (moduli_kept t n b) (entries_in rows)) (substituted_each t.moduli.m (moduli_kept t n b) k (interpolated_each t.moduli.m (rows_kept t n b) (entries_in rows))) (with_rows a (substituted_each a.tables.moduli.m (moduli_of a) k a.rows)) l (made.0 ∙ H.held.moduli ∙ sym held_other.held.moduli) (made.1 ∙ ap (λ qs. each moved qs (entries_in rows)) H.held.moduli) (substituted_in t.moduli.m (rows_kept t n b) (roots t n b rows H) k places known (entries_in rows) H.held.entries) (each-substituted t.moduli.m (rows_kept t n b) (roots t n b rows H) k places known positive (subst (λ m. UnitModulo m k) (sym same_m) unit) (entries_in rows) H.held.entries) (ap (λ (a : Residues). with_rows a (substituted_each a.tables.moduli.m (moduli_of a) k a.rows)) seen))
      where
        same_m : t.moduli.m ≡ a.tables.moduli.m
        same_m = ap (λ (r : Residues). r.tables.moduli.m) seen

        known : (u : ℕ) → u < length (units t.moduli.m) → get_or places (get_or (units t.moduli.m) u 0) 0 ≡ u
        known = subst (λ m. (u : ℕ) → u < length (units m) → get_or places (get_or (units m) u 0) 0 ≡ u) (sym same_m) P.right

        moved : ℕ → List ℕ → List ℕ
        moved q row = map (λ j. get_or row (get_or places ((j * k) % t.moduli.m) 0) 0) (units t.moduli.m)

        made : (moduli_in new ≡ moduli_in rows) × (entries_in new ≡ each moved (moduli_in rows) (entries_in rows))
        made = each_made moved rows new (l' ∙ other_long t n b rows H t' n' b' others a c seen other K s) (subst (λ (front : List ModuloRow). (i : ℕ) → i < length front → get_or new i empty_row ≡ permuted (λ j. get_or places ((j * k) % t.moduli.m) 0) (get_or front i empty_row) (units t.moduli.m)) e (λ i s. h i s ∙ ap₂ (λ m us. permuted (λ j. get_or places ((j * k) % m) 0) (get_or front i empty_row) us) (P.long ∙ sym same_m) (us_are ∙ ap units (sym same_m))))

-- a list of values that is made row by row
pub values_made : (m : ℕ) (rs : List ModRow) (rows new : List ModuloRow) → length rows ≡ length rs → length new ≡ length rows → ((k : ℕ) → k < length rows → get_or new k empty_row ≡ record { q = (get_or rows k empty_row).q; entries = values_of m (root_of (get_or rs k no_row)) (get_or rows k empty_row).entries }) → (moduli_in new ≡ moduli_in rows) × (entries_in new ≡ values_each m rs (entries_in rows))
unfolding values_each
values_made m [] [] [] e g h = (refl, refl)
values_made m [] [] (x ∷ new) e g h = absurd (omega (arith, g))
values_made m [] (a ∷ rows) new e g h = absurd (omega (arith, e))
values_made m (r ∷ rs) [] new e g h = absurd (omega (arith, e))
values_made m (r ∷ rs) (a ∷ rows) [] e g h = absurd (omega (arith, g))
values_made m (r ∷ rs) (a ∷ rows) (x ∷ new) e g h =
    let rest = values_made m rs rows new (omega (arith, e)) (omega (arith, g)) (λ k l. h (suc k) (omega arith)) in
    (ap₂ (λ q qs. q ∷ qs) (ap (λ (r : ModuloRow). r.q) (h 0 (omega arith))) rest.0, ap₂ (λ v vs. v ∷ vs) (ap (λ (r : ModuloRow). r.entries) (h 0 (omega arith))) rest.1)

-- coefficients that are taken to values
module _ (t : RingSetting) (n : ℕ) (b : Bool) (S : IsSetting t) (fits : n ≤ length t.moduli.chain) (rows : List ModuloRow) (A : AreHeld t n b rows) where
  pub valued_becomes : (front new : List ModuloRow) (len : ℕ) → front ≡ rows → length new ≡ len → length new ≡ length front → ((k : ℕ) → k < length front → get_or new k empty_row ≡ record { q = (get_or front k empty_row).q; entries = values_of t.moduli.m (root_of (get_or (rows_kept t n b) k no_row)) (get_or front k empty_row).entries }) → Becomes t n b (take len (new ++ drop (length new) rows)) (record { tables = t; chain_rows = n; special = b; rows = entries_in rows })
  valued_becomes front new len e l l' h = record { held = held; is = ap (polynomial_of t n b) w ∙ ap (λ rows. record { tables = t; chain_rows = n; special = b; rows = rows }) (ap (interpolated_each t.moduli.m (rows_kept t n b)) made.1 ∙ each_back t.moduli.m (rows_kept t n b) are_roots (entries_in rows) A.entries); kept = held_kept t n b (take len (new ++ drop (length new) rows)) held }
    where
      are_roots : AreRoots t.moduli.m (rows_kept t n b)
      are_roots = roots_are t S n b fits

      made : (moduli_in new ≡ moduli_in rows) × (entries_in new ≡ values_each t.moduli.m (rows_kept t n b) (entries_in rows))
      made = values_made t.moduli.m (rows_kept t n b) rows new (rows_long t n b rows A) (l' ∙ ap length e) (subst (λ (front : List ModuloRow). (k : ℕ) → k < length front → get_or new k empty_row ≡ record { q = (get_or front k empty_row).q; entries = values_of t.moduli.m (root_of (get_or (rows_kept t n b) k no_row)) (get_or front k empty_row).entries }) e h)

      w : take len (new ++ drop (length new) rows) ≡ new
      w = written len new rows l

      held : IsHeld t n b (take len (new ++ drop (length new) rows))
      held = subst (IsHeld t n b) (sym w) (record { setting = S; fits = fits; held = record { moduli = made.0 ∙ A.moduli; entries = subst (AreRows t.moduli.m (moduli_kept t n b)) (sym made.1) (values_in t.moduli.m (rows_kept t n b) are_roots (entries_in rows) A.entries) } })

-- whole coefficients are held
pub small_held : (t : RingSetting) (n : ℕ) (b : Bool) → IsSetting t → n ≤ length t.moduli.chain → (coeffs : List ℤ) → length coeffs ≡ degree t.moduli.m → AreRows t.moduli.m (moduli_kept t n b) (rows_of (moduli_kept t n b) coeffs)
small_held t n b S fits coeffs l = (residues_law t.moduli.m (moduli_kept t n b) (let p = S.accepted.shaped.m_low in omega arith) (moduli_are t S n b fits).some).held coeffs l

-- values that are given
pub given_values : (t : RingSetting) (n : ℕ) (b : Bool) (rows : List ModuloRow) (vs : List (List ℕ)) → IsHeld t n b rows → entries_in rows ≡ vs → polynomial_values (polynomial_of t n b rows) ≡ vs
given_values t n b rows vs H e = values_are t n b rows H ∙ e

-- rows of coefficients that were taken to values, where the tables are named three times
pub taken_becomes : (t t1 t2 t3 : RingSetting) (n : ℕ) (b : Bool) → t1 ≡ t → t2 ≡ t → t3 ≡ t → IsSetting t1 → n ≤ length t.moduli.chain → (rows : List ModuloRow) (vs : List (List ℕ)) → moduli_in rows ≡ moduli_kept t1 n b → entries_in rows ≡ vs → AreRows t.moduli.m (moduli_kept t n b) vs → (front new : List ModuloRow) (len : ℕ) → front ≡ rows → length new ≡ len → length new ≡ length front → ((k : ℕ) → k < length front → get_or new k empty_row ≡ record { q = (get_or front k empty_row).q; entries = values_of t2.moduli.m (root_of (get_or (rows_kept t2 n b) k no_row)) (get_or front k empty_row).entries }) → Becomes t3 n b (take len (new ++ drop (length new) rows)) (record { tables = t; chain_rows = n; special = b; rows = vs })
taken_becomes t t1 t2 t3 n b e1 e2 e3 S fits rows vs moduli entries h front new len e l l' at = becomes_there t t3 n n b b (take len (new ++ drop (length new) rows)) (polynomial vs) e3 refl refl (subst (λ vs. Becomes t n b (take len (new ++ drop (length new) rows)) (polynomial vs)) entries (valued_becomes t n b (subst IsSetting e1 S) fits rows held front new len e l l' (subst Valued e2 at)))
  where
    polynomial : List (List ℕ) → Residues
    polynomial vs = record { tables = t; chain_rows = n; special = b; rows = vs }

    held : AreHeld t n b rows
    held = record { moduli = moduli ∙ ap (λ t. moduli_kept t n b) e1; entries = subst (AreRows t.moduli.m (moduli_kept t n b)) (sym entries) h }

    Valued : RingSetting → Type 0
    Valued t = (k : ℕ) → k < length front → get_or new k empty_row ≡ record { q = (get_or front k empty_row).q; entries = values_of t.moduli.m (root_of (get_or (rows_kept t n b) k no_row)) (get_or front k empty_row).entries }

-- the first rows, and the later ones or none
abbrev stay : {X : Type 0} → ℕ → ℕ → Bool → List X → List X
stay n f s xs = take f xs ++ (if s then drop n xs else [])

map-stay : {X Y : Type 0} (g : X → Y) (n f : ℕ) (s : Bool) (xs : List X) → map g (stay n f s xs) ≡ stay n f s (map g xs)
map-stay g n f true xs = map-append g (take f xs) (drop n xs) ∙ ap₂ (λ x y. x ++ y) (sym (take-map g f xs)) (sym (drop-map g n xs))
map-stay g n f false xs = map-append g (take f xs) [] ∙ ap (λ x. x ++ []) (sym (take-map g f xs))

take_first : {X : Type 0} (k n : ℕ) (xs ys : List X) → k ≤ n → n ≤ length xs → take k (take n xs ++ ys) ≡ take k xs
take_first zero n xs ys l h = refl
take_first (suc k) zero xs ys l h = absurd (omega arith)
take_first (suc k) (suc n) [] ys l h = absurd (omega (arith, h))
take_first (suc k) (suc n) (x ∷ xs) ys l h = ap (λ z. x ∷ z) (take_first k n xs ys (omega arith) (omega (arith, h)))

drop_first : {X : Type 0} (n : ℕ) (xs ys : List X) → n ≤ length xs → drop n (take n xs ++ ys) ≡ ys
drop_first zero xs ys h = refl
drop_first (suc n) [] ys h = absurd (omega (arith, h))
drop_first (suc n) (x ∷ xs) ys h = drop_first n xs ys (omega (arith, h))

stays : {X : Type 0} (xs ys : List X) (n f : ℕ) (b s : Bool) → n ≤ length xs → f ≤ n → (IsTrue s → IsTrue b) → stay n f s (take n xs ++ (if b then ys else [])) ≡ take f xs ++ (if s then ys else [])
stays xs ys n f b false h l there = ap (λ z. z ++ []) (take_first f n xs (if b then ys else []) l h)
stays xs ys n f b true h l there = ap₂ (λ x y. x ++ y) (take_first f n xs (if b then ys else []) l h) (drop_first n xs (if b then ys else []) h ∙ ap (λ b. if b then ys else []) (there refl))

-- fewer rows
module _ (t : RingSetting) (n : ℕ) (b : Bool) (rows : List ModuloRow) (H : IsHeld t n b rows) (a : Residues) (seen : polynomial_of t n b rows ≡ a) (f : ℕ) (s : Bool) (fewer : f ≤ a.chain_rows) (there : IsTrue s → IsTrue a.special) where
  fewer_in : f ≤ n
  fewer_in = omega (arith, fewer, ap (λ (a : Residues). a.chain_rows) seen)

  there_in : IsTrue s → IsTrue b
  there_in i = subst IsTrue (sym (ap (λ (a : Residues). a.special) seen)) (there i)

  pub fewer_becomes : (t' : RingSetting) → t' ≡ t → (front new : List ModuloRow) → front ≡ rows → new ≡ take f front ++ (if s then drop n front else []) → Becomes t' f s new (restricted a f s)
  fewer_becomes t' e front new g h = becomes_there t t' f f s s new (restricted a f s) e refl refl (record { held = held; is = ap (λ rows. record { tables = t; chain_rows = f; special = s; rows = rows }) (ap (interpolated_each t.moduli.m (rows_kept t f s)) entries ∙ interpolated_each-cut t n f b s H.fits fewer_in there_in (entries_in rows) H.held.entries) ∙ ap (λ (a : Residues). restricted a f s) seen; kept = held_kept t f s new held })
    where
      new_is : new ≡ stay n f s rows
      new_is = h ∙ ap (stay n f s) g

      entries : entries_in new ≡ stay n f s (entries_in rows)
      entries = ap entries_in new_is ∙ map-stay (λ (r : ModuloRow). r.entries) n f s rows

      moduli : moduli_in new ≡ moduli_kept t f s
      moduli = ap moduli_in new_is ∙ map-stay (λ (r : ModuloRow). r.q) n f s rows ∙ ap (stay n f s) H.held.moduli ∙ sym (map-stay (λ (r : ModRow). r.q) n f s (rows_kept t n b)) ∙ ap (map (λ (r : ModRow). r.q)) (stays t.moduli.chain t.moduli.special n f b s H.fits fewer_in there_in)

      held : IsHeld t f s new
      held = record { setting = H.setting; fits = le_trans fewer_in H.fits; held = record { moduli = moduli; entries = subst (AreRows t.moduli.m (moduli_kept t f s)) (sym entries) (cut_in t n f b s H.fits fewer_in there_in (entries_in rows) H.held.entries) } }

-- rows of values that are given, where the tables are named three times
pub given_held : (t t1 t3 : RingSetting) (n : ℕ) (b : Bool) → t1 ≡ t → t3 ≡ t → IsSetting t1 → n ≤ length t.moduli.chain → (rows : List ModuloRow) (vs : List (List ℕ)) → moduli_in rows ≡ moduli_kept t1 n b → entries_in rows ≡ vs → AreRows t.moduli.m (moduli_kept t n b) vs → IsHeld t3 n b rows
given_held t t1 t3 n b e1 e3 S fits rows vs moduli entries h = subst (λ t. IsHeld t n b rows) (sym e3) (record { setting = subst IsSetting e1 S; fits = fits; held = record { moduli = moduli ∙ ap (λ t. moduli_kept t n b) e1; entries = subst (AreRows t.moduli.m (moduli_kept t n b)) (sym entries) h } })
