-- The indices of a torus and the units at them; arrays by their slots; inverses modulo m.
use Rattle.std.specs.Prelude.{◌≡◌, ℕ, zero, suc, ◌+◌, ◌-◌, ◌*◌, ◌/◌, ◌%◌, ◌^◌, ◌<◌, Bool, true, false, eqb, List, [], ◌∷◌, ◌++◌, map, length, get_or, refl}
use Rattle.std.proofs.Common.{sym, ◌∙◌, ap, ap₂, subst, arith, div-add-mod', mul_comm, mod-lt, mod-eq_of_lt, eqb-true, eq-eqb}
use Rattle.std.proofs.lemmas.List.{length-map, get_or-map, map-append}
use Rattle.std.proofs.lemmas.Nat.{mul-mod_second, div-mul-add, mod-mul-add}
use Rattle.std.proofs.Math.Nat.{mul-add-mod_self_left, pow-zero, mod-mod}
use Rattle.algebra.specs.Divisor.{UnitModulo, HasInverse}
use Rattle.algebra.specs.Whole.{below}
use Rattle.algebra.proofs.Sums.{length-below, get_or-below}
use Rattle.algebra.proofs.Units.{unit_of_inverse, inverse_of_unit, inverse_of_product}
use Rattle.hyper_cube.specs.Torus.{Torus, slot_count, index, indices, T_of, generated, first_place, unit_at, located}
use Rattle.slot_array.specs.Arrays.{slot, array}
use Rattle.slot_laws.specs.Slots.{inverse_modulo}
use Rattle.slot_laws.specs.Checks.{IsSlotCube}
use Rattle.slot_laws.specs.SlotLaws.{InverseLaw}
use Rattle.slot_laws.proofs.WholeValue.{map_twice}
use Rattle.slot_laws.proofs.Roots.{unit_positive}

-- a test that passes somewhere passes at the first place
pub first_found : (bs : List Bool) (i : ℕ) → get_or bs i false ≡ true → (first_place bs < length bs) × (get_or bs (first_place bs) false ≡ true)
first_found [] i e = absurd (cc)
first_found (true ∷ bs) i e = (omega arith, refl)
first_found (false ∷ bs) zero e = absurd (cc)
first_found (false ∷ bs) (suc i) e = (omega (arith, (first_found bs i e).0), (first_found bs i e).1)

-- for a test of the numbers below n
pub first_number : (test : ℕ → Bool) (n i : ℕ) → i < n → test i ≡ true → (first_place (map test (below n)) < n) × (test (first_place (map test (below n))) ≡ true)
first_number test n i l e = (small, sym (at first small) ∙ found.1)
  where
    first : ℕ
    first = first_place (map test (below n))

    at : (j : ℕ) → j < n → get_or (map test (below n)) j false ≡ test j
    at j l = get_or-map test (below n) j 0 false (omega (arith, length-below n)) ∙ ap test (get_or-below n j 0 l)

    found : (first_place (map test (below n)) < length (map test (below n))) × (get_or (map test (below n)) (first_place (map test (below n))) false ≡ true)
    found = first_found (map test (below n)) i (at i l ∙ e)

    small : first_place (map test (below n)) < n
    small = omega (arith, found.0, length-map (below n) test, length-below n)

-- lists over the numbers below n
pub map_below : {X : Type 0} (n : ℕ) (g h : ℕ → X) → ((k : ℕ) → k < n → g k ≡ h k) → map g (below n) ≡ map h (below n)
map_below zero g h e = refl
map_below (suc n) g h e = map-append g (below n) (n ∷ []) ∙ ap₂ (λ y z. y ++ z ∷ []) (map_below n g h (λ k l. e k (omega arith))) (e n (omega arith)) ∙ sym (map-append h (below n) (n ∷ []))

-- ---- inverses modulo n
pub inverse_is : (n a : ℕ) → 1 < n → UnitModulo n a → (inverse_modulo n a < n) × ((a * inverse_modulo n a) % n ≡ 1 % n)
unfolding inverse_modulo
inverse_is n a l u = (found.0, eqb-true ((a * first) % n) (1 % n) found.1)
  where
    first : ℕ
    first = first_place (map (λ u. eqb ((a * u) % n) (1 % n)) (below n))

    inverse : HasInverse n a
    inverse = inverse_of_unit n a (omega arith) (unit_positive n a l u) u

    found : (first_place (map (λ u. eqb ((a * u) % n) (1 % n)) (below n)) < n) × (eqb ((a * first_place (map (λ u. eqb ((a * u) % n) (1 % n)) (below n))) % n) (1 % n) ≡ true)
    found = first_number (λ u. eqb ((a * u) % n) (1 % n)) n (inverse.0 % n) (mod-lt inverse.0 (omega arith)) (eq-eqb ((a * (inverse.0 % n)) % n) (1 % n) (mul-mod_second a inverse.0 n ∙ ap (λ z. z % n) inverse.2 ∙ mul-add-mod_self_left n inverse.1 1))

pub inverse_only : (n a u v : ℕ) → u < n → v < n → (a * u) % n ≡ 1 % n → (a * v) % n ≡ 1 % n → v ≡ u
inverse_only n a u v l h e g =
    sym (mod-eq_of_lt h)
    ∙ ap (λ z. z % n) (sym (once v))
    ∙ sym (mul-mod_second v 1 n)
    ∙ ap (λ z. (v * z) % n) (sym e)
    ∙ mul-mod_second v (a * u) n
    ∙ ap (λ z. z % n) (turn a u v)
    ∙ sym (mul-mod_second u (a * v) n)
    ∙ ap (λ z. (u * z) % n) g
    ∙ mul-mod_second u 1 n
    ∙ ap (λ z. z % n) (once u)
    ∙ mod-eq_of_lt l
  where
    once : (t : ℕ) → t * 1 ≡ t
    once t = omega arith

    turn : (a u v : ℕ) → v * (a * u) ≡ u * (a * v)
    turn a u v = omega arith

pub inverse_law : InverseLaw
inverse_law n a l u = record { low = (inverse_is n a l u).0; product = (inverse_is n a l u).1; only = λ v h e. inverse_only n a (inverse_modulo n a) v (inverse_is n a l u).0 h (inverse_is n a l u).1 e }

pub inverse_unit : (n a : ℕ) → 1 < n → UnitModulo n a → UnitModulo n (inverse_modulo n a)
inverse_unit n a l u = unit_of_inverse n (inverse_modulo n a) (a, (a * inverse_modulo n a) / n, mul_comm (inverse_modulo n a) a ∙ sym (div-add-mod' (a * inverse_modulo n a) n) ∙ ap₂ (λ y z. y + z) (mul_comm ((a * inverse_modulo n a) / n) n) ((inverse_is n a l u).1 ∙ mod-eq_of_lt l))

pub product_unit : (n a b : ℕ) → 1 < n → UnitModulo n a → UnitModulo n b → UnitModulo n (a * b)
product_unit n a b l u v = unit_of_inverse n (a * b) (inverse_of_product n a b (inverse_of_unit n a (omega arith) (unit_positive n a l u) u) (inverse_of_unit n b (omega arith) (unit_positive n b l v) v))

-- ---- the units of a torus
pub place_lt : (k n u d : ℕ) → k < n → u < d → k * d + u < n * d
place_lt k n u d l h = at (n - suc k) (omega arith)
  where
    at : (r : ℕ) → n ≡ suc k + r → k * d + u < n * d
    at r e = omega (arith, ap (λ z. z * d) e)

module _ (c : Torus) (C : IsSlotCube c) (d_low : 0 < c.d) where
  pub m_high : 1 < c.m
  m_high = omega (arith, C.low)

  pub located_is : (k : ℕ) → UnitModulo c.m k → (located c k < slot_count c * c.d) × (unit_at c (located c k) ≡ k % c.m)
  unfolding located
  located_is k u = (found.0, eqb-true (unit_at c (located c k)) (k % c.m) found.1)
    where
      place_of : (i : ℕ) × (i < slot_count c * c.d) × (unit_at c i ≡ k % c.m)
      place_of = C.every k u

      found : (located c k < slot_count c * c.d) × (eqb (unit_at c (located c k)) (k % c.m) ≡ true)
      found = first_number (λ i. eqb (unit_at c i) (k % c.m)) (slot_count c * c.d) place_of.0 place_of.1 (eq-eqb (unit_at c place_of.0) (k % c.m) place_of.2)

  -- T of the index with number k stands at k d
  pub unit_at_index : (k u : ℕ) → u < c.d → unit_at c (k * c.d + u) ≡ (T_of c (index c.dimensions k) * c.p ^ u) % c.m
  unit_at_index k u l = ap₂ (λ i j. (T_of c (index c.dimensions i) * c.p ^ j) % c.m) (div-mul-add k c.d u l) (mod-mul-add k c.d u l)

  pub T_unit : (k : ℕ) → k < slot_count c → UnitModulo c.m (T_of c (index c.dimensions k))
  T_unit k l = subst (UnitModulo c.m) (unit_at_index k 0 d_low ∙ ap (λ z. z % c.m) (ap (λ z. T_of c (index c.dimensions k) * z) (pow-zero c.p) ∙ once (T_of c (index c.dimensions k))) ∙ mod-mod (generated c.dimensions (index c.dimensions k)) c.m) (C.units (k * c.d + 0) (place_lt k (slot_count c) 0 c.d l d_low))
    where
      once : (t : ℕ) → t * 1 ≡ t
      once t = omega arith

-- ---- arrays by their slots
module _ (c : Torus) where
  pub array_same : (y z : List ℕ → List ℕ) → ((k : ℕ) → k < slot_count c → y (index c.dimensions k) ≡ z (index c.dimensions k)) → array c y ≡ array c z
  array_same y z e = map_twice y (index c.dimensions) (below (slot_count c)) ∙ map_below (slot_count c) (λ k. y (index c.dimensions k)) (λ k. z (index c.dimensions k)) e ∙ sym (map_twice z (index c.dimensions) (below (slot_count c)))

  pub get_array : (y : List ℕ → List ℕ) (k : ℕ) (none : List ℕ) → k < slot_count c → get_or (array c y) k none ≡ y (index c.dimensions k)
  get_array y k none l = ap (λ a. get_or a k none) (map_twice y (index c.dimensions) (below (slot_count c))) ∙ get_or-map (λ k. y (index c.dimensions k)) (below (slot_count c)) k 0 none (omega (arith, length-below (slot_count c))) ∙ ap (λ k. y (index c.dimensions k)) (get_or-below (slot_count c) k 0 l)

  pub length-array : (y : List ℕ → List ℕ) → length (array c y) ≡ slot_count c
  length-array y = length-map (indices c.dimensions) y ∙ length-map (below (slot_count c)) (index c.dimensions) ∙ length-below (slot_count c)

  pub slot_array : IsSlotCube c → (y : List ℕ → List ℕ) (k : ℕ) → k < slot_count c → slot c (array c y) (index c.dimensions k) ≡ y (index c.dimensions k)
  slot_array C y k l = ap (λ i. get_or (array c y) i []) (C.place_is k l) ∙ get_array y k [] l
