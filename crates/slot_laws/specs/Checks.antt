-- What is checked of a table before its slots are used, and what is then known of it.
use Rattle.std.specs.Prelude.{◌≡◌, ℕ, ◌*◌, ◌%◌, ◌^◌, ◌<◌, ◌≤◌, Bool, true, false, cond, not, ◌&&◌, eqb, List, [], ◌∷◌, map, ℤ}
use Rattle.algebra.specs.Divisor.{UnitModulo, number_of_units}
use Rattle.algebra.specs.Poly.{sum}
use Rattle.algebra.specs.Whole.{below, residue}
use Rattle.cyclotomic.specs.Cyclotomic.{phi, R, substituted}
use Rattle.hyper_cube.specs.Torus.{Torus, slot_count, T_of, index, place, indices, unit_at, first_place}
use Rattle.ext_field.specs.Element.{Extension, IsExtension, elements, eta, degree}
use Rattle.slot_laws.specs.Slots.{inverse_modulo, whole_value, slot_of, lifted, eps}

-- What the torus is: its indices and the exponents u below d give each unit T(e) * p^u modulo m once.
pub record IsSlotCube (c : Torus) : Type 0 where
  pub low : 3 ≤ c.m
  pub order : c.p ^ c.d % c.m ≡ 1
  pub number_is : c.d * slot_count c ≡ number_of_units c.m
  pub distinct : (i j : ℕ) → i < slot_count c * c.d → j < slot_count c * c.d → unit_at c i ≡ unit_at c j → i ≡ j
  pub every : (k : ℕ) → UnitModulo c.m k → (i : ℕ) × (i < slot_count c * c.d) × (unit_at c i ≡ k % c.m)
  pub units : (i : ℕ) → i < slot_count c * c.d → UnitModulo c.m (unit_at c i)
  pub first : T_of c (index c.dimensions 0) ≡ 1 % c.m
  pub place_is : (k : ℕ) → k < slot_count c → place c.dimensions (index c.dimensions k) ≡ k

-- whether two lists of numbers are equal
abbrev pub same_row : List ℕ → List ℕ → Bool
same_row [] [] = true
same_row [] (y ∷ ys) = false
same_row (x ∷ xs) [] = false
same_row (x ∷ xs) (y ∷ ys) = eqb x y && same_row xs ys

module _ (f : Extension) (c : Torus) where
  -- Phi_m(eta) is 0
  abbrev pub IsPhiFactor : Type 0
  IsPhiFactor = whole_value f c (eta f) (phi c.m) ≡ (elements f).zero

  unfoldable pub is_phi_factor : Bool
  is_phi_factor = same_row (whole_value f c (eta f) (phi c.m)) (elements f).zero

  -- slot j of eps is 1 for j = 0, and 0 for the others
  abbrev pub unit_slot : ℕ → List ℕ
  unit_slot j = cond (eqb j 0) (elements f).one (elements f).zero

  abbrev pub IsIdempotentAt : ℕ → Type 0
  IsIdempotentAt j = slot_of f c (eps f c) (index c.dimensions j) ≡ unit_slot j

  abbrev pub is_idempotent_at : ℕ → Bool
  is_idempotent_at j = same_row (slot_of f c (eps f c) (index c.dimensions j)) (unit_slot j)

  -- the least slot of eps that fails, or the number of slots
  unfoldable pub bad_slot : ℕ
  bad_slot = first_place (map (λ j. not (is_idempotent_at j)) (below (slot_count c)))

  abbrev pub residue_row : List ℤ → List ℕ
  residue_row a = map (residue f.p) a

  -- eps * G is 0 modulo Phi_m and p
  abbrev pub IsAnnihilated : Type 0
  IsAnnihilated = residue_row ((R c.m).mul (eps f c) (lifted f c f.factor)) ≡ residue_row (R c.m).zero

  unfoldable pub is_annihilated : Bool
  is_annihilated = same_row (residue_row ((R c.m).mul (eps f c) (lifted f c f.factor))) (residue_row (R c.m).zero)

  -- the sum over the slots e of eps(X^k), k the inverse of T(e) modulo m
  unfoldable pub eps_sum : List ℤ
  eps_sum = sum (R c.m) (map (λ e. substituted c.m (inverse_modulo c.m (T_of c e)) (eps f c)) (indices c.dimensions))

  -- it is 1 modulo Phi_m and p
  abbrev pub IsComplete : Type 0
  IsComplete = residue_row eps_sum ≡ residue_row (R c.m).one

  unfoldable pub is_complete : Bool
  is_complete = same_row (residue_row eps_sum) (residue_row (R c.m).one)

  -- the table has passed all checks
  pub record IsPacking : Type 0 where
    pub extension : IsExtension f
    pub cube : IsSlotCube c
    pub same_p : f.p ≡ c.p
    pub same_d : degree f ≡ c.d
    pub phi_factor : IsPhiFactor
    pub idempotent : (j : ℕ) → j < slot_count c → IsIdempotentAt j
    pub annihilated : IsAnnihilated
    pub complete : IsComplete
