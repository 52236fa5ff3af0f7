-- The slots of polynomials keep the operations of R.
use Rattle.std.specs.Prelude.{◌≡◌, ℕ, ◌*◌, ◌/◌, ◌%◌, ◌^◌, ◌<◌, List, [], ◌∷◌, map, get_or, ℤ, pos, refl}
use Rattle.std.proofs.Common.{sym, ◌∙◌, ap, ap₂, subst, arith}
use Rattle.std.proofs.lemmas.Nat.{div_below}
use Rattle.algebra.specs.Ring.{whole_numbers}
use Rattle.algebra.specs.Divisor.{UnitModulo}
use Rattle.algebra.specs.Power.{power, less}
use Rattle.algebra.specs.Poly.{times, at_power}
use Rattle.algebra.specs.Whole.{residue, balanced}
use Rattle.algebra.proofs.Balanced.{balanced_is}
use Rattle.algebra.proofs.HeldPowers.{held_power-mul}
use Rattle.algebra.proofs.WholeResidues.{same_residue}
use Rattle.cyclotomic.specs.Cyclotomic.{R, fold, substituted}
use Rattle.hyper_cube.specs.Torus.{Torus, slot_count, T_of, index, located}
use Rattle.ext_field.specs.Element.{Extension, IsMonicFactor, IsElement, elements, eta, frob_times}
use Rattle.slot_array.specs.Arrays.{slot, array}
use Rattle.slot_array.specs.Instructions as instructions
use Rattle.slot_laws.specs.Slots.{balanced_row, slot_of, slots}
use Rattle.slot_laws.specs.Checks.{IsPacking, residue_row}
use Rattle.slot_laws.specs.SlotLaws.{PowersOfEta, SlotsSee, SlotsKeep, SlotsMove, PlaintextsKeep}
use Rattle.slot_laws.proofs.WholeValue.{value, laws, value_in, value-plus, value-negated, value-times, value-at_power, value_one, value_residues, eta_in, power_in, p_positive, frob_times_power}
use Rattle.slot_laws.proofs.Roots.{unit_positive, power_m, value_fold, power_root, power_same}
use Rattle.slot_laws.proofs.Places.{m_high, located_is, T_unit, product_unit, array_same, get_array, length-array, slot_array}

-- the balanced residue has the same residue
pub residues_balanced : (p : ℕ) → 0 < p → (a : List ℤ) → map (residue p) (balanced_row p a) ≡ map (residue p) a
residues_balanced p q [] = refl
residues_balanced p q (z ∷ a) = ap₂ (λ x y. x ∷ y) (sym (same_residue p q z (balanced p z) (balanced_is p q z).same)) (residues_balanced p q a)

module _ (f : Extension) (c : Torus) (P : IsPacking f c) where
  abbrev pub F : IsMonicFactor f
  F = P.extension.factor

  pub d_positive : 0 < c.d
  d_positive = omega (arith, P.same_d, F.degree_low)

  pub m_positive : 0 < c.m
  m_positive = omega (arith, P.cube.low)

  pub m_above : 1 < c.m
  m_above = m_high c P.cube d_positive

  pub powers_of_eta : PowersOfEta f c
  powers_of_eta = record {
    root = λ t u. power_root f F c.m m_positive P.phi_factor t (unit_positive c.m t m_above u) u;
    order = power_m f F c.m m_positive P.phi_factor;
    by_residue = power_same f F c.m m_positive P.phi_factor;
  }

  -- the point of the slot at the index e
  abbrev pub point : List ℕ → List ℕ
  point e = power (elements f) (eta f) (T_of c e)

  pub point_in : (e : List ℕ) → IsElement f (point e)
  point_in e = power_in f F (T_of c e)

  abbrev pub at : ℕ → List ℕ
  at k = index c.dimensions k

  pub unit_here : (k : ℕ) → k < slot_count c → UnitModulo c.m (T_of c (at k))
  unit_here k l = T_unit c P.cube d_positive k l

  -- ---- slot by slot
  pub slot-add : (a b : List ℤ) (e : List ℕ) → slot_of f c ((R c.m).add a b) e ≡ (elements f).add (slot_of f c a e) (slot_of f c b e)
  unfolding slot_of
  slot-add a b e = value-plus f F (point e) (point_in e) a b

  pub slot-neg : (a : List ℤ) (e : List ℕ) → slot_of f c ((R c.m).neg a) e ≡ (elements f).neg (slot_of f c a e)
  unfolding slot_of
  slot-neg a e = value-negated f F (point e) (point_in e) a

  pub slot_fold : (a : List ℤ) (k : ℕ) → k < slot_count c → slot_of f c (fold c.m a) (at k) ≡ slot_of f c a (at k)
  unfolding slot_of
  slot_fold a k l = value_fold f F c.m m_positive P.phi_factor (point (at k)) (point_in (at k)) (powers_of_eta.root (T_of c (at k)) (unit_here k l)) a

  pub slot-mul : (a b : List ℤ) (k : ℕ) → k < slot_count c → slot_of f c ((R c.m).mul a b) (at k) ≡ (elements f).mul (slot_of f c a (at k)) (slot_of f c b (at k))
  unfolding slot_of
  slot-mul a b k l = slot_fold (times whole_numbers a b) k l ∙ value-times f F (point (at k)) (point_in (at k)) a b

  pub slot_residues : (a b : List ℤ) (e : List ℕ) → residue_row f c a ≡ residue_row f c b → slot_of f c a e ≡ slot_of f c b e
  unfolding slot_of
  slot_residues a b e same = value_residues f F (point e) a b same

  pub slot_in : (a : List ℤ) (e : List ℕ) → IsElement f (slot_of f c a e)
  unfolding slot_of
  slot_in a e = value_in f F (point e) (point_in e) a

  -- the slot at e of a(X^k) is a at eta^(T(e) k)
  pub slot_substituted : (k : ℕ) (a : List ℤ) → UnitModulo c.m k → (j : ℕ) → j < slot_count c → slot_of f c (substituted c.m k a) (at j) ≡ value f F (power (elements f) (eta f) (T_of c (at j) * k)) a
  unfolding slot_of
  slot_substituted k a u j l =
      slot_fold (at_power whole_numbers k a) j l
      ∙ value-at_power f F (point (at j)) (point_in (at j)) k (unit_positive c.m k m_above u) a
      ∙ ap (λ x. value f F x a) (sym (held_power-mul (laws f F) (eta f) (eta_in f F) (T_of c (at j)) k))

  -- a at eta^n, for a unit n, is a slot of a, mapped
  pub value_located : (n : ℕ) (a : List ℤ) → UnitModulo c.m n → value f F (power (elements f) (eta f) n) a ≡ frob_times f (located c n % c.d) (slot_of f c a (at (located c n / c.d)))
  unfolding slot_of
  value_located n a u =
      ap (λ x. value f F x a) (powers_of_eta.by_residue n (T_of c (at (i / c.d)) * f.p ^ (i % c.d)) (sym (located_is c P.cube d_positive n u).1 ∙ ap (λ p. (T_of c (at (i / c.d)) * p ^ (i % c.d)) % c.m) (sym P.same_p)))
      ∙ sym (frob_times_power f P.extension (i % c.d) (T_of c (at (i / c.d))) (unit_positive c.m (T_of c (at (i / c.d))) m_above (unit_here (i / c.d) in_range)) a)
    where
      i : ℕ
      i = located c n

      in_range : located c n / c.d < slot_count c
      in_range = div_below (located c n) c.d (slot_count c) d_positive (located_is c P.cube d_positive n u).0

  pub located_low : (n : ℕ) → UnitModulo c.m n → located c n / c.d < slot_count c
  located_low n u = div_below (located c n) c.d (slot_count c) d_positive (located_is c P.cube d_positive n u).0

  -- ---- arrays
  pub slots_at : (a : List ℤ) (k : ℕ) → k < slot_count c → slot c (slots f c a) (at k) ≡ slot_of f c a (at k)
  unfolding slots
  slots_at a k l = slot_array c P.cube (slot_of f c a) k l

  pub slots_get : (a : List ℤ) (i : ℕ) → i < slot_count c → get_or (slots f c a) i [] ≡ slot_of f c a (at i)
  unfolding slots
  slots_get a i l = get_array c (slot_of f c a) i [] l

  pub none : (e : List ℕ) → slot_of f c [] e ≡ (elements f).zero
  unfolding slot_of
  none e = refl

  single : (e : List ℕ) → slot_of f c (pos 1 ∷ []) e ≡ (elements f).one
  unfolding slot_of
  single e = value_one f F (point e) (point_in e)

  slots_same : (a : List ℤ) (y : List ℕ → List ℕ) → ((k : ℕ) → k < slot_count c → slot_of f c a (at k) ≡ y (at k)) → slots f c a ≡ array c y
  unfolding slots
  slots_same a y e = array_same c (slot_of f c a) y e

  pub slots_see : SlotsSee f c
  unfolding slots
  slots_see = record {
    is_array = λ a. record { long = length-array c (slot_of f c a); elements = λ k d l. subst (IsElement f) (sym (get_array c (slot_of f c a) k d (omega (arith, l, length-array c (slot_of f c a))))) (slot_in a (at k)) };
    remainder = λ a. slots_same (fold c.m a) (slot_of f c a) (slot_fold a);
    residues = λ a b e. slots_same a (slot_of f c b) (λ k l. slot_residues a b (at k) e);
    balanced = λ a. slots_same (balanced_row f.p a) (slot_of f c a) (λ k l. slot_residues (balanced_row f.p a) a (at k) (residues_balanced f.p (p_positive f F) a));
  }

  pub slots_keep : SlotsKeep f c
  unfolding instructions.add instructions.sub instructions.neg instructions.mul
  slots_keep = record {
    zero = slots_same (R c.m).zero (λ e. (elements f).zero) (λ k l. slot_fold [] k l ∙ none (at k));
    one = slots_same (R c.m).one (λ e. (elements f).one) (λ k l. slot_fold (pos 1 ∷ []) k l ∙ single (at k));
    sum = λ a b. slots_same ((R c.m).add a b) (λ e. (elements f).add (slot c (slots f c a) e) (slot c (slots f c b) e)) (λ k l. slot-add a b (at k) ∙ sym (ap₂ (elements f).add (slots_at a k l) (slots_at b k l)));
    difference = λ a b. slots_same (less (R c.m) a b) (λ e. less (elements f) (slot c (slots f c a) e) (slot c (slots f c b) e)) (λ k l. slot-add a ((R c.m).neg b) (at k) ∙ ap ((elements f).add (slot_of f c a (at k))) (slot-neg b (at k)) ∙ sym (ap₂ (less (elements f)) (slots_at a k l) (slots_at b k l)));
    negative = λ a. slots_same ((R c.m).neg a) (λ e. (elements f).neg (slot c (slots f c a) e)) (λ k l. slot-neg a (at k) ∙ sym (ap (elements f).neg (slots_at a k l)));
    product = λ a b. slots_same ((R c.m).mul a b) (λ e. (elements f).mul (slot c (slots f c a) e) (slot c (slots f c b) e)) (λ k l. slot-mul a b k l ∙ sym (ap₂ (elements f).mul (slots_at a k l) (slots_at b k l)));
  }

  pub slots_move : SlotsMove f c
  unfolding instructions.auto
  slots_move k a u = slots_same (substituted c.m k a) (λ e. let i = located c (T_of c e * k) in frob_times f (i % c.d) (get_or (slots f c a) (i / c.d) [])) (λ j l. slot_substituted k a u j l ∙ value_located (T_of c (at j) * k) a (product_unit c.m (T_of c (at j)) k m_above (unit_here j l) u) ∙ ap (frob_times f (located c (T_of c (at j) * k) % c.d)) (sym (slots_get a (located c (T_of c (at j) * k) / c.d) (located_low (T_of c (at j) * k) (product_unit c.m (T_of c (at j)) k m_above (unit_here j l) u)))))

  pub plaintexts_keep : PlaintextsKeep f c
  plaintexts_keep = record {
    sum = λ a b. slots_see.balanced ((R c.m).add a b) ∙ slots_keep.sum a b;
    difference = λ a b. slots_see.balanced (less (R c.m) a b) ∙ slots_keep.difference a b;
    negative = λ a. slots_see.balanced ((R c.m).neg a) ∙ slots_keep.negative a;
    product = λ a b. slots_see.balanced ((R c.m).mul a b) ∙ slots_keep.product a b;
    moved = λ k a u. slots_see.balanced (substituted c.m k a) ∙ slots_move k a u;
  }
