-- The units modulo m and their places.
use Rattle.std.proofs.Common.{◌≡◌, ◌≢◌, set, inl, inr, ℕ, ◌+◌, ◌*◌, ◌%◌, ◌<◌, ◌≤◌, List, length, get_or, All, arith, ap, sym, ◌∙◌, mod-lt, le_of_lt, subst}
use Rattle.std.proofs.lemmas.Bool.{cases_eq}
use Rattle.std.proofs.lemmas.List.{get_or-set_same, get_or-set_other}
use Rattle.std.proofs.lemmas.List.Elements.{All-from_get_or}
use Rattle.algebra.specs.Divisor.{UnitModulo, units}
use Rattle.algebra.proofs.Units.{unit_of_inverse, inverse_of_unit, inverse_of_product, residue_of_unit}
use Rattle.algebra.proofs.UnitList.{unit_at, unit_lt, unit_is, unit_place, units_ascend, length-units}
use Rattle.cyclotomic.specs.Cyclotomic.{degree}
use Rattle.cyclotomic.proofs.PhiLaws.{degree_is_units}
use Rattle.hyper_cube.proofs.Axed.{units_at_most}
use Rattle.hyper_cube.proofs.Located.{unit_positive}
use Rattle.double_crt.specs.Places.{ArePlaces}

pub units_long : (m : ℕ) → 0 < m → length (units m) ≡ degree m
units_long m p = length-units m ∙ sym (degree_is_units m p)

pub degree_most : (m : ℕ) → 0 < m → degree m ≤ m
degree_most m p = omega (arith, degree_is_units m p, units_at_most m m)

pub units_below : (m : ℕ) → 1 < m → All (λ j. j < m) (units m)
units_below m p = All-from_get_or (λ j. j < m) (units m) 0 (λ i l. unit_lt m i p l)

-- a product of units is a unit
product_unit : (m j k : ℕ) → 1 < m → UnitModulo m j → UnitModulo m k → UnitModulo m ((j * k) % m)
product_unit m j k p u v = residue_of_unit m (j * k) (unit_of_inverse m (j * k) (inverse_of_product m j k (inverse_of_unit m j (omega arith) (unit_positive m j p u) u) (inverse_of_unit m k (omega arith) (unit_positive m k p v) v)))

-- the place of a product of units
pub places_in : (m k : ℕ) (places : List ℕ) → 1 < m → UnitModulo m k → ArePlaces m places → All (λ j. get_or places ((j * k) % m) 0 < length (units m)) (units m)
places_in m k places p v P = All-from_get_or (λ j. get_or places ((j * k) % m) 0 < length (units m)) (units m) 0 (λ i l. go i (product_unit m (unit_at m i) k p (unit_is m i (omega arith) l) v))
  where
    stands : (x : ℕ) → (i : ℕ) × (i < length (units m)) × (unit_at m i ≡ x) → get_or places x 0 < length (units m)
    stands x (i, l, e) = let f : get_or places x 0 ≡ i = ap (λ z. get_or places z 0) (sym e) ∙ P.right i l in omega arith

    go : (i : ℕ) → UnitModulo m ((unit_at m i * k) % m) → get_or places ((unit_at m i * k) % m) 0 < length (units m)
    go i u = let x : ℕ = (unit_at m i * k) % m in stands x (unit_place m x (omega arith) (unit_positive m x p u) (le_of_lt (mod-lt (unit_at m i * k) (omega arith))) u)

-- each unit is below m, and they are few
pub unit_in : (us : List ℕ) (m i : ℕ) → 1 < m → us ≡ units m → i < length us → get_or us i 0 < m
unit_in us m i p e = subst (λ us. i < length us → get_or us i 0 < m) (sym e) (unit_lt m i p)

pub units_few : (us : List ℕ) (m : ℕ) → us ≡ units m → length us ≤ m
units_few us m e = omega (arith, ap length e, length-units m, units_at_most m m)

-- one more unit has its place written
pub places_more : (us places : List ℕ) (i : ℕ) → 1 < length places → us ≡ units (length places) → i < length us → ((k : ℕ) → k < i → get_or places (get_or us k 0) 0 ≡ k) → (k : ℕ) → k < i + 1 → get_or (set places (get_or us i 0) i) (get_or us k 0) 0 ≡ k
places_more us places i p e l h k s = elim (cases_eq k i) [
  | inl f ↦ ap (λ z. get_or (set places (get_or us i 0) i) (get_or us z 0) 0) f ∙ get_or-set_same places (get_or us i 0) i 0 (unit_in us (length places) i p e l) ∙ sym f
  | inr f ↦ let t : k < i = omega (arith, f) in get_or-set_other places (get_or us i 0) (get_or us k 0) i 0 (apart t) ∙ h k t
]
  where
    apart : k < i → get_or us k 0 ≢ get_or us i 0
    apart t = subst (λ us. i < length us → get_or us k 0 ≢ get_or us i 0) (sym e) (λ n f. omega (arith, units_ascend (length places) k i t n)) l
