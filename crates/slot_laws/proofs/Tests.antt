-- The tests of a table say whether its checks pass.
use Rattle.std.specs.Prelude.{◌≡◌, ℕ, zero, suc, ◌<◌, ◌≤◌, Bool, true, false, not, eqb, IsTrue, ◌↔◌, List, [], ◌∷◌, map, length, get_or, refl}
use Rattle.std.proofs.Common.{sym, ◌∙◌, ap, ap₂, arith, eqb-true, eq-eqb}
use Rattle.std.proofs.lemmas.Bool.{and_parts, and_from}
use Rattle.std.proofs.lemmas.List.{length-map, get_or-map}
use Rattle.algebra.specs.Whole.{below}
use Rattle.algebra.proofs.Sums.{length-below, get_or-below}
use Rattle.hyper_cube.specs.Torus.{Torus, slot_count, index, first_place}
use Rattle.ext_field.specs.Element.{Extension, IsExtension, degree}
use Rattle.slot_laws.specs.Slots.{slot_of, eps}
use Rattle.slot_laws.specs.Checks.{IsSlotCube, IsPacking, same_row, unit_slot, is_phi_factor, is_idempotent_at, bad_slot, is_annihilated, is_complete}
use Rattle.slot_laws.specs.SlotLaws.{ChecksDecide}

same_row_to : (a b : List ℕ) → IsTrue (same_row a b) → a ≡ b
same_row_to [] [] h = refl
same_row_to [] (y ∷ b) h = absurd cc
same_row_to (x ∷ a) [] h = absurd cc
same_row_to (x ∷ a) (y ∷ b) h = ap₂ (λ u v. u ∷ v) (eqb-true x y (and_parts (eqb x y) (same_row a b) h).0) (same_row_to a b (and_parts (eqb x y) (same_row a b) h).1)

same_row_own : (a : List ℕ) → IsTrue (same_row a a)
same_row_own [] = refl
same_row_own (x ∷ a) = and_from (eqb x x) (same_row a a) (eq-eqb x x refl) (same_row_own a)

pub same_row_is : (a b : List ℕ) → IsTrue (same_row a b) ↔ (a ≡ b)
same_row_is a b = (same_row_to a b, λ e. ap (same_row a) (sym e) ∙ same_row_own a)

-- the first place is at most the length, no test before it passes, and the one at it does
first_le : (bs : List Bool) → first_place bs ≤ length bs
first_le [] = omega arith
first_le (true ∷ bs) = omega arith
first_le (false ∷ bs) = omega (arith, first_le bs)

before_first : (bs : List Bool) (j : ℕ) → j < first_place bs → get_or bs j false ≡ false
before_first [] j l = refl
before_first (true ∷ bs) j l = absurd (omega (arith, l))
before_first (false ∷ bs) zero l = refl
before_first (false ∷ bs) (suc j) l = before_first bs j (omega (arith, l))

at_first : (bs : List Bool) → first_place bs < length bs → get_or bs (first_place bs) false ≡ true
at_first [] l = absurd (omega (arith, l))
at_first (true ∷ bs) l = refl
at_first (false ∷ bs) l = at_first bs (omega (arith, l))

not_false : (b : Bool) → not b ≡ false → b ≡ true
not_false true e = refl
not_false false e = sym e

not_true : (b : Bool) → not b ≡ true → b ≡ true → ⊥
not_true true e h = cc
not_true false e h = cc

module _ (f : Extension) (c : Torus) where
  tests : List Bool
  tests = map (λ j. not (is_idempotent_at f c j)) (below (slot_count c))

  long : length tests ≡ slot_count c
  unfolding tests
  long = length-map (below (slot_count c)) (λ j. not (is_idempotent_at f c j)) ∙ length-below (slot_count c)

  test_at : (j : ℕ) → j < slot_count c → get_or tests j false ≡ not (is_idempotent_at f c j)
  unfolding tests
  test_at j l = get_or-map (λ j. not (is_idempotent_at f c j)) (below (slot_count c)) j 0 false (omega (arith, l, length-below (slot_count c))) ∙ ap (λ j. not (is_idempotent_at f c j)) (get_or-below (slot_count c) j 0 l)

  -- the two sides of the check at j
  own : ℕ → List ℕ
  own j = slot_of f c (eps f c) (index c.dimensions j)

  pub checks_decide : ChecksDecide f c
  unfolding is_phi_factor bad_slot is_annihilated is_complete tests own
  checks_decide = record {
    phi_factor = same_row_is _ _;
    low = omega (arith, first_le tests, long);
    before = λ j l. same_row_to (own j) (unit_slot f c j) (not_false (is_idempotent_at f c j) (sym (test_at j (omega (arith, l, first_le tests, long))) ∙ before_first tests j l));
    bad = λ l e. not_true (is_idempotent_at f c (first_place tests)) (sym (test_at (first_place tests) l) ∙ at_first tests (omega (arith, l, long))) ((same_row_is (own (first_place tests)) (unit_slot f c (first_place tests))).1 e);
    annihilated = same_row_is _ _;
    complete = same_row_is _ _;
  }

  -- a table whose tests pass is a packing
  pub packing_from : IsExtension f → IsSlotCube c → f.p ≡ c.p → degree f ≡ c.d → IsTrue (is_phi_factor f c) → bad_slot f c ≡ slot_count c → IsTrue (is_annihilated f c) → IsTrue (is_complete f c) → IsPacking f c
  packing_from E C p_is d_is phi_holds none_bad annihilates completes = record {
    extension = E;
    cube = C;
    same_p = p_is;
    same_d = d_is;
    phi_factor = checks_decide.phi_factor.0 phi_holds;
    idempotent = λ j l. checks_decide.before j (omega (arith, l, none_bad));
    annihilated = checks_decide.annihilated.0 annihilates;
    complete = checks_decide.complete.0 completes;
  }
