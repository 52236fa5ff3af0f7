-- A slot as a sum: each coefficient times a remainder of a power of X by G, from a table of those below m.
use Rattle.std.specs.Prelude.{◌≡◌, ℕ, zero, suc, ◌+◌, ◌-◌, ◌*◌, ◌%◌, ◌<◌, List, [], ◌∷◌, map, length, get_or, replicate, ℤ, pos, refl}
use Rattle.std.proofs.Common.{sym, ◌∙◌, ap, ap₂, subst, arith, mod-eq_of_lt, mul_comm}
use Rattle.std.proofs.Math.Nat.{mod-add-mod, add-mod-mod}
use Rattle.std.proofs.lemmas.List.{length-map}
use mathlib.Core.Path.{fun_ext}
use Rattle.algebra.specs.Ring.{whole_numbers, residues}
use Rattle.algebra.specs.Power.{power}
use Rattle.algebra.specs.Range.{total, adds, counts}
use Rattle.algebra.specs.Poly.{coeff, scaled, monomial, remainder}
use Rattle.algebra.specs.Whole.{residue}
use Rattle.algebra.proofs.HeldLists.{held_preserves}
use Rattle.algebra.proofs.HeldPowers.{held_power-mul}
use Rattle.algebra.proofs.HeldQuotients.{held_coeff-plus}
use Rattle.algebra.proofs.Homs.{preserves, keeps_power, keeps_adds}
use Rattle.algebra.proofs.Integers.{whole_ring}
use Rattle.algebra.proofs.Maps.{map_coeff, map_monomial, map_remainder, map_scaled}
use Rattle.algebra.proofs.Over.{over-scaled}
use Rattle.algebra.proofs.Quotients.{remainder-scaled}
use Rattle.algebra.proofs.Residues.{residue_laws}
use Rattle.algebra.proofs.Values as plain
use Rattle.algebra.proofs.WholeResidues.{residue_preserves}
use Rattle.hyper_cube.specs.Torus.{Torus, T_of}
use Rattle.ext_field.specs.Element.{Extension, IsMonicFactor, IsElement, elements, eta, eta_power}
use Rattle.ext_field.specs.Laws.{factor_held}
use Rattle.ext_field.proofs.Rows.{element_held}
use Rattle.slot_laws.specs.Slots.{slot_of}
use Rattle.slot_laws.specs.Checks.{IsPacking}
use Rattle.slot_laws.proofs.WholeValue.{value, constant, constant_keeps, constant_in, laws, value_eta, value_lifted, residues_lifted, whole_factor, whole_factor_monic, eta_in, power_in, p_positive}
use Rattle.slot_laws.proofs.Roots.{E, h, X, inner, power_residue}
use Rattle.slot_laws.proofs.SlotMaps.{F, m_positive, point, point_in}

nothing : (n j : ℕ) → get_or (replicate {A = ℕ} n 0) j 0 ≡ 0
nothing zero j = refl
nothing (suc n) zero = refl
nothing (suc n) (suc j) = nothing n j

scaled_at : (p : ℕ) → 0 < p → (r : ℕ) (y : List ℕ) (j : ℕ) → get_or (scaled (residues p) r y) j 0 ≡ (r * get_or y j 0) % p
scaled_at p l r [] j = sym (ap (λ z. z % p) (none r) ∙ mod-eq_of_lt l)
  where
    none : (r : ℕ) → r * 0 ≡ 0
    none r = omega arith
scaled_at p l r (x ∷ y) zero = refl
scaled_at p l r (x ∷ y) (suc j) = scaled_at p l r y j

-- the terms of a sum may be reduced
pub total_mod : (p n : ℕ) (g : ℕ → ℕ) → total counts n (λ i. g i % p) % p ≡ total counts n g % p
total_mod p zero g = refl
total_mod p (suc n) g = add-mod-mod (total counts n (λ i. g i % p)) (g n) p ∙ sym (mod-add-mod (total counts n (λ i. g i % p)) p (g n)) ∙ ap (λ z. (z + g n) % p) (total_mod p n g) ∙ mod-add-mod (total counts n g) p (g n)

module _ (f : Extension) (M : IsMonicFactor f) where
  -- X^n modulo G is the nth power of X modulo G
  pub eta_power_is : (n : ℕ) → eta_power f n ≡ power (elements f) (eta f) n
  eta_power_is n =
      ap₂ (remainder (residues f.p)) (sym (residues_lifted f.p f.factor (factor_held f M))) (sym (map_monomial (residue_preserves f.p (p_positive f M)) n))
      ∙ sym (map_remainder (residue_preserves f.p (p_positive f M)) (whole_factor f M) (monomial whole_numbers n))
      ∙ sym (value_eta f M (monomial whole_numbers n))
      ∙ sym (inner f M (X f M) (monomial whole_numbers n))
      ∙ ap (λ z. z.0) (plain.value-monomial whole_ring (E f M) (h f M) (X f M) n)
      ∙ keeps_power (held_preserves (laws f M)) (X f M) n

  pub eta_power_in : (n : ℕ) → IsElement f (eta_power f n)
  eta_power_in n = subst (IsElement f) (sym (eta_power_is n)) (power_in f M n)

  total_in : (n : ℕ) (g : ℕ → List ℕ) → ((i : ℕ) → IsElement f (g i)) → IsElement f (total (adds (elements f)) n g)
  total_in zero g k = (laws f M).zero_held
  total_in (suc n) g k = (laws f M).add_held (total (adds (elements f)) n g) (g n) (total_in n g k) (k n)

  -- the coefficients of a sum
  pub total_coefficient : (n : ℕ) (g : ℕ → List ℕ) → ((i : ℕ) → IsElement f (g i)) → (j : ℕ) → get_or (total (adds (elements f)) n g) j 0 ≡ total counts n (λ i. get_or (g i) j 0) % f.p
  unfolding remainder
  total_coefficient zero g k j = nothing (length f.factor - 1) j ∙ sym (mod-eq_of_lt (p_positive f M))
  total_coefficient (suc n) g k j = held_coeff-plus (residue_laws f.p (p_positive f M)) (total (adds (elements f)) n g) (g n) (element_held f (total (adds (elements f)) n g) (total_in n g k)) (element_held f (g n) (k n)) j ∙ ap (λ z. (z + get_or (g n) j 0) % f.p) (total_coefficient n g k j) ∙ mod-add-mod (total counts n (λ i. get_or (g i) j 0)) f.p (get_or (g n) j 0)

  -- a number times an element
  pub constant-mul : (z : ℤ) (y : List ℕ) → IsElement f y → (elements f).mul (constant f M z) y ≡ scaled (residues f.p) (residue f.p z) y
  constant-mul z y i =
      ap ((elements f).mul (constant f M z)) (sym (value_lifted f M y i))
      ∙ sym (over-scaled (laws f M) whole_ring (constant f M) (constant_keeps f M) (constant_in f M) (eta f) (eta_in f M) z b)
      ∙ value_eta f M (scaled whole_numbers z b)
      ∙ ap (map (residue f.p)) (remainder-scaled whole_ring (whole_factor f M) (whole_factor_monic f M) z b)
      ∙ map_scaled (residue_preserves f.p (p_positive f M)) z (remainder whole_numbers (whole_factor f M) b)
      ∙ ap (scaled (residues f.p) (residue f.p z)) (sym (value_eta f M b) ∙ value_lifted f M y i)
    where
      b : List ℤ
      b = map pos y

  -- the value is the sum of the coefficients times powers of the point
  pub value_total : (x : List ℕ) → IsElement f x → (a : List ℤ) → value f M x a ≡ total (adds (elements f)) (length a) (λ i. (elements f).mul (constant f M (coeff whole_numbers a i)) (power (elements f) x i))
  value_total x i a =
      sym (inner f M (x, i) a)
      ∙ ap (λ z. z.0) (plain.value_at_is (E f M) (x, i) (map (h f M).map a))
      ∙ keeps_adds (held_preserves (laws f M)) (length (map (h f M).map a)) (λ j. (E f M).mul (coeff (E f M).ops (map (h f M).map a) j) (power (E f M).ops (x, i) j))
      ∙ ap₂ (total (adds (elements f))) (length-map a (h f M).map) (fun_ext (λ j. ap₂ (elements f).mul (ap (λ z. z.0) (sym (map_coeff (preserves whole_ring (E f M) (h f M)) a j))) (keeps_power (held_preserves (laws f M)) (x, i) j)))

module _ (f : Extension) (c : Torus) (P : IsPacking f c) where
  abbrev G : IsMonicFactor f
  G = F f c P

  -- the powers of X below m are enough
  pub eta_power_residue : (n : ℕ) → eta_power f n ≡ eta_power f (n % c.m)
  eta_power_residue n = eta_power_is f G n ∙ power_residue f G c.m (m_positive f c P) P.phi_factor n ∙ sym (eta_power_is f G (n % c.m))

  -- coefficient i times X^(i T(e) mod m)
  abbrev pub slot_term : List ℤ → List ℕ → ℕ → List ℕ
  slot_term a e i = scaled (residues f.p) (residue f.p (coeff whole_numbers a i)) (eta_power f ((i * T_of c e) % c.m))

  pub slot_total : (a : List ℤ) (e : List ℕ) → slot_of f c a e ≡ total (adds (elements f)) (length a) (slot_term a e)
  unfolding slot_of
  slot_total a e = value_total f G (point f c P e) (point_in f c P e) a ∙ ap (total (adds (elements f)) (length a)) (fun_ext term)
    where
      power_is : (i : ℕ) → power (elements f) (point f c P e) i ≡ eta_power f ((i * T_of c e) % c.m)
      power_is i = sym (held_power-mul (laws f G) (eta f) (eta_in f G) (T_of c e) i) ∙ ap (power (elements f) (eta f)) (mul_comm (T_of c e) i) ∙ sym (eta_power_is f G (i * T_of c e)) ∙ eta_power_residue (i * T_of c e)

      term : (i : ℕ) → (elements f).mul (constant f G (coeff whole_numbers a i)) (power (elements f) (point f c P e) i) ≡ slot_term a e i
      term i = ap ((elements f).mul (constant f G (coeff whole_numbers a i))) (power_is i) ∙ constant-mul f G (coeff whole_numbers a i) (eta_power f ((i * T_of c e) % c.m)) (eta_power_in f G ((i * T_of c e) % c.m))

  -- each coefficient of a slot, as one sum of natural numbers
  pub slot_coefficient : (a : List ℤ) (e : List ℕ) (j : ℕ) → get_or (slot_of f c a e) j 0 ≡ total counts (length a) (λ i. residue f.p (coeff whole_numbers a i) * get_or (eta_power f ((i * T_of c e) % c.m)) j 0) % f.p
  slot_coefficient a e j =
      ap (λ x. get_or x j 0) (slot_total a e)
      ∙ total_coefficient f G (length a) (slot_term a e) (λ i. subst (IsElement f) (constant-mul f G (coeff whole_numbers a i) (eta_power f ((i * T_of c e) % c.m)) (eta_power_in f G ((i * T_of c e) % c.m))) ((laws f G).mul_held (constant f G (coeff whole_numbers a i)) (eta_power f ((i * T_of c e) % c.m)) (constant_in f G (coeff whole_numbers a i)) (eta_power_in f G ((i * T_of c e) % c.m)))) j
      ∙ ap (λ g. total counts (length a) g % f.p) (fun_ext (λ i. scaled_at f.p (p_positive f G) (residue f.p (coeff whole_numbers a i)) (eta_power f ((i * T_of c e) % c.m)) j))
      ∙ total_mod f.p (length a) (λ i. residue f.p (coeff whole_numbers a i) * get_or (eta_power f ((i * T_of c e) % c.m)) j 0)
