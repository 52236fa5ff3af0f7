-- Rows of residues as a ring: R modulo each of the moduli.
use Rattle.std.specs.Prelude.{◌≡◌, ℕ, suc, ◌<◌, nat_lt, Bool, true, ◌&&◌, eqb, IsTrue, All, List, [], ◌∷◌, map, length, get_or, ℤ, refl}
use Rattle.std.proofs.Common.{arith, ap₂, subst, eq-eqb, eqb-true, lt-ltb, ltb-true}
use Rattle.std.proofs.lemmas.Bool.{and_parts, and_from}
use Rattle.algebra.specs.Ring.{Ops, HeldLaws, residues}
use Rattle.algebra.specs.Hom.{Preserves}
use Rattle.algebra.specs.Poly.{all_held, row_held, IsMonic}
use Rattle.algebra.specs.Whole.{residue}
use Rattle.algebra.proofs.HeldLists.{laws_along, all_from, all_to}
use Rattle.algebra.proofs.HeldQuotients.{held_quotient_laws}
use Rattle.algebra.proofs.Maps.{map_degree_of, map_monic}
use Rattle.algebra.proofs.Residues.{residue_laws}
use Rattle.algebra.proofs.WholeResidues.{residue_lt, residue_preserves}
use Rattle.cyclotomic.specs.Cyclotomic.{phi, degree}
use Rattle.cyclotomic.proofs.PhiLaws.{phi_is_monic}
use Rattle.residue_rows.specs.Rows.{phi_modulo, R_modulo, AreRows, are_rows, each, both, R_each}
use Rattle.residue_rows.specs.RowLaws.{TestDecides, RowsAreRing}

-- ---- the test
pub row_parts : (n q : ℕ) (row : List ℕ) → IsTrue (row_held (λ c. nat_lt c q) n row) → (length row ≡ n) × All (λ c. c < q) row
row_parts n q row h = (eqb-true (length row) n (parts h).0, λ k d l. ltb-true (get_or row k d) q (all_to (λ c. nat_lt c q) row (parts h).1 k d l))
  where
    parts : IsTrue (row_held (λ c. nat_lt c q) n row) → IsTrue (eqb (length row) n) × IsTrue (all_held (λ c. nat_lt c q) row)
    parts h = and_parts (eqb (length row) n) (all_held (λ c. nat_lt c q) row) h

pub small_held : (q : ℕ) (row : List ℕ) → All (λ c. c < q) row → IsTrue (all_held (λ c. nat_lt c q) row)
small_held q row h = all_from (λ c. nat_lt c q) row (λ k d l. lt-ltb (get_or row k d) q (h k d l))

pub row_from : (n q : ℕ) (row : List ℕ) → (length row ≡ n) × All (λ c. c < q) row → IsTrue (row_held (λ c. nat_lt c q) n row)
row_from n q row h = and_from (eqb (length row) n) (all_held (λ c. nat_lt c q) row) (eq-eqb (length row) n h.0) (small_held q row h.1)

pub rows_parts : (m : ℕ) (qs : List ℕ) (rows : List (List ℕ)) → IsTrue (are_rows m qs rows) → AreRows m qs rows
unfolding are_rows
rows_parts m [] [] h = tt
rows_parts m [] (row ∷ rows) h = absurd (cc)
rows_parts m (q ∷ qs) [] h = absurd (cc)
rows_parts m (q ∷ qs) (row ∷ rows) h = (row_parts (degree m) q row (and_parts (row_held (λ c. nat_lt c q) (degree m) row) (are_rows m qs rows) h).0, rows_parts m qs rows (and_parts (row_held (λ c. nat_lt c q) (degree m) row) (are_rows m qs rows) h).1)

pub rows_from : (m : ℕ) (qs : List ℕ) (rows : List (List ℕ)) → AreRows m qs rows → IsTrue (are_rows m qs rows)
unfolding are_rows
rows_from m [] [] h = refl
rows_from m [] (row ∷ rows) h = absurd h
rows_from m (q ∷ qs) [] h = absurd h
rows_from m (q ∷ qs) (row ∷ rows) h = and_from (row_held (λ c. nat_lt c q) (degree m) row) (are_rows m qs rows) (row_from (degree m) q row h.0) (rows_from m qs rows h.1)

pub test_decides : TestDecides
test_decides m qs rows = (rows_parts m qs rows, rows_from m qs rows)

-- ---- pairs of held elements
abbrev pair_held : {C D : Type 0} → (C → Bool) → (D → Bool) → C × D → Bool
pair_held h k x = h x.0 && k x.1

abbrev pair_ops : {C D : Type 0} → Ops C → Ops D → Ops (C × D)
pair_ops o p = record { zero = (o.zero, p.zero); one = (o.one, p.one); add = λ a b. (o.add a.0 b.0, p.add a.1 b.1); mul = λ a b. (o.mul a.0 b.0, p.mul a.1 b.1); neg = λ a. (o.neg a.0, p.neg a.1) }

module _ {C D : Type 0} {h : C → Bool} {k : D → Bool} {o : Ops C} {p : Ops D} (L : HeldLaws h o) (M : HeldLaws k p) where
  abbrev In : C × D → Type 0
  In a = IsTrue (pair_held h k a)

  both_parts : (a : C × D) → In a → IsTrue (h a.0) × IsTrue (k a.1)
  both_parts a i = and_parts (h a.0) (k a.1) i

  pair : {a b : C} {c d : D} → a ≡ b → c ≡ d → ◌≡◌ {A = C × D} (a, c) (b, d)
  pair e f = ap₂ (λ x y. (x, y)) e f

  pub pair_laws : HeldLaws (pair_held h k) (pair_ops o p)
  pair_laws = record {
    zero_held = and_from (h o.zero) (k p.zero) L.zero_held M.zero_held;
    one_held = and_from (h o.one) (k p.one) L.one_held M.one_held;
    add_held = λ a b i j. and_from (h (o.add a.0 b.0)) (k (p.add a.1 b.1)) (L.add_held a.0 b.0 (both_parts a i).0 (both_parts b j).0) (M.add_held a.1 b.1 (both_parts a i).1 (both_parts b j).1);
    mul_held = λ a b i j. and_from (h (o.mul a.0 b.0)) (k (p.mul a.1 b.1)) (L.mul_held a.0 b.0 (both_parts a i).0 (both_parts b j).0) (M.mul_held a.1 b.1 (both_parts a i).1 (both_parts b j).1);
    neg_held = λ a i. and_from (h (o.neg a.0)) (k (p.neg a.1)) (L.neg_held a.0 (both_parts a i).0) (M.neg_held a.1 (both_parts a i).1);
    add_assoc = λ a b c i j l. pair (L.add_assoc a.0 b.0 c.0 (both_parts a i).0 (both_parts b j).0 (both_parts c l).0) (M.add_assoc a.1 b.1 c.1 (both_parts a i).1 (both_parts b j).1 (both_parts c l).1);
    add_comm = λ a b i j. pair (L.add_comm a.0 b.0 (both_parts a i).0 (both_parts b j).0) (M.add_comm a.1 b.1 (both_parts a i).1 (both_parts b j).1);
    zero_add = λ a i. pair (L.zero_add a.0 (both_parts a i).0) (M.zero_add a.1 (both_parts a i).1);
    neg_add = λ a i. pair (L.neg_add a.0 (both_parts a i).0) (M.neg_add a.1 (both_parts a i).1);
    mul_assoc = λ a b c i j l. pair (L.mul_assoc a.0 b.0 c.0 (both_parts a i).0 (both_parts b j).0 (both_parts c l).0) (M.mul_assoc a.1 b.1 c.1 (both_parts a i).1 (both_parts b j).1 (both_parts c l).1);
    mul_comm = λ a b i j. pair (L.mul_comm a.0 b.0 (both_parts a i).0 (both_parts b j).0) (M.mul_comm a.1 b.1 (both_parts a i).1 (both_parts b j).1);
    one_mul = λ a i. pair (L.one_mul a.0 (both_parts a i).0) (M.one_mul a.1 (both_parts a i).1);
    add_mul = λ a b c i j l. pair (L.add_mul a.0 b.0 c.0 (both_parts a i).0 (both_parts b j).0 (both_parts c l).0) (M.add_mul a.1 b.1 c.1 (both_parts a i).1 (both_parts b j).1 (both_parts c l).1);
  }

-- ---- one modulus
module _ (m q : ℕ) (some : 0 < m) (positive : 0 < q) where
  pub phi_modulo_held : IsTrue (all_held (λ c. nat_lt c q) (phi_modulo m q))
  phi_modulo_held = residues_held (phi m)
    where
      residues_held : (f : List ℤ) → IsTrue (all_held (λ c. nat_lt c q) (map (residue q) f))
      residues_held [] = refl
      residues_held (z ∷ f) = and_from (nat_lt (residue q z) q) (all_held (λ c. nat_lt c q) (map (residue q) f)) (lt-ltb (residue q z) q (residue_lt q positive z)) (residues_held f)

  pub phi_modulo_monic : IsMonic (residues q) (phi_modulo m q)
  phi_modulo_monic = map_monic (residue_preserves q positive) (phi m) (phi_is_monic m some)

  -- R modulo q; for q = 1 all rows are equal, and 0 is 1
  pub row_laws : HeldLaws (row_held (λ c. nat_lt c q) (degree m)) (R_modulo m q)
  row_laws = subst (λ n. HeldLaws (row_held (λ c. nat_lt c q) n) (R_modulo m q)) (map_degree_of (residue_preserves q positive) (phi m)) (held_quotient_laws (residue_laws q positive) (phi_modulo m q) phi_modulo_held phi_modulo_monic)

-- ---- all moduli
-- no modulus: one element
abbrev alone : Ops (Unit {0})
alone = record { zero = tt; one = tt; add = λ a b. tt; mul = λ a b. tt; neg = λ a. tt }

pub each_ring : (m : ℕ) (qs : List ℕ) → 0 < m → All (λ q. 0 < q) qs → HeldLaws (are_rows m qs) (R_each m qs)
unfolding are_rows each both
each_ring m [] some positive = laws_along alone_laws alone_keeps (λ a h. refl) split
  where
    alone_laws : HeldLaws (λ a. true) alone
    alone_laws = record { zero_held = refl; one_held = refl; add_held = λ a b h k. refl; mul_held = λ a b h k. refl; neg_held = λ a h. refl; add_assoc = λ a b c h k l. refl; add_comm = λ a b h k. refl; zero_add = λ a h. refl; neg_add = λ a h. refl; mul_assoc = λ a b c h k l. refl; mul_comm = λ a b h k. refl; one_mul = λ a h. refl; add_mul = λ a b c h k l. refl }

    alone_keeps : Preserves alone (R_each m []) (λ a. [])
    alone_keeps = record { keeps_zero = refl; keeps_one = refl; keeps_add = λ a b. refl; keeps_mul = λ a b. refl; keeps_neg = λ a. refl }

    split : (b : List (List ℕ)) → IsTrue (are_rows m [] b) → (a : Unit {0}) × IsTrue true × ([] ≡ b)
    split [] h = (tt, refl, refl)
    split (row ∷ rows) h = absurd (cc)
each_ring m (q ∷ qs) some positive = laws_along (pair_laws (row_laws m q some (positive 0 0 (omega arith))) (each_ring m qs some (λ k d l. positive (suc k) d (omega arith)))) cons_keeps (λ a h. h) split
  where
    cons_keeps : Preserves (pair_ops (R_modulo m q) (R_each m qs)) (R_each m (q ∷ qs)) (λ x. x.0 ∷ x.1)
    cons_keeps = record { keeps_zero = refl; keeps_one = refl; keeps_add = λ a b. refl; keeps_mul = λ a b. refl; keeps_neg = λ a. refl }

    split : (b : List (List ℕ)) → IsTrue (are_rows m (q ∷ qs) b) → (a : List ℕ × List (List ℕ)) × IsTrue (pair_held (row_held (λ c. nat_lt c q) (degree m)) (are_rows m qs) a) × (a.0 ∷ a.1 ≡ b)
    split [] h = absurd (cc)
    split (row ∷ rows) h = ((row, rows), h, refl)

pub rows_are_ring : RowsAreRing
rows_are_ring = each_ring
