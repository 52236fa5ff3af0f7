-- What the tables of a cube say of its torus.
use Rattle.std.specs.Prelude.{◌≡◌, ℕ, zero, suc, ◌+◌, ◌-◌, ◌*◌, ◌/◌, ◌%◌, ◌<◌, ◌≤◌, Bool, true, false, cond, List, [], ◌∷◌, length, get_or, set, drop}
use Rattle.std.proofs.Common.{arith, sym, ◌∙◌, ap, ap₂, subst, div-add-mod'}
use Rattle.std.proofs.Math.Nat.{div-mul-le_self, mod-le}
use Rattle.std.proofs.lemmas.List.{get_or-map, length-map}
use Rattle.std.proofs.lemmas.Grind.{get_or_default_zero}
use Rattle.algebra.specs.Range.{total, counts}
use Rattle.algebra.specs.Divisor.{UnitModulo, is_unit, number_of_units}
use Rattle.algebra.proofs.Units.{unit_of_inverse}
use Rattle.mod_ring.specs.Zq.{modulus_of}
use Rattle.hyper_cube.specs.Torus.{Torus, Dimension, count, place, index, slot_count, size, T_of, IsLocated, located}
use Rattle.hyper_cube.specs.Checks.{IsCube, place_count}
use Rattle.hyper_cube.specs.Axes.{dimensions_held}
use Rattle.hyper_cube.specs.Kept.{torus_of, AreTables}
use Rattle.hyper_cube.specs.declared.tables.Axis.{Axis}
use Rattle.hyper_cube.specs.declared.cubes.Cube.TheInside.{Inside}
use Rattle.hyper_cube.proofs.Indices.{no_dimension, ArePositive, count_positive, positive_rest, length-index, get_or-index, place_index, place-set, index_in, place_in, index-set}
use Rattle.hyper_cube.proofs.Shapes.{shape_positive, size_positive, T_inverse, slot_fits}
use Rattle.hyper_cube.proofs.Located.{located_in, located_pair}

-- ---- a cube is small
pub units_at_most : (m n : ℕ) → total counts n (λ t. cond (is_unit m (suc t)) 1 0) ≤ n
units_at_most m zero = omega arith
units_at_most m (suc n) = omega (arith, units_at_most m n, one (is_unit m (suc n)))
  where
    one : (b : Bool) → cond b 1 0 ≤ 1
    one true = omega arith
    one false = omega arith

counted_small : (m d n : ℕ) → m ≤ 65536 → 1 ≤ d → d * n ≡ number_of_units m → (n * d ≤ 65536) × (n ≤ 65536)
counted_small m zero n h l e = absurd (omega arith)
counted_small m (suc d) n h l e = (omega (arith, e, units_at_most m m), omega (arith, e, units_at_most m m))

pub few_places : (m d n : ℕ) → m ≤ 65536 → 1 ≤ d → d * n ≡ number_of_units m → n * d ≤ 65536
few_places m d n h l e = (counted_small m d n h l e).0

pub few_slots : (m d n : ℕ) → m ≤ 65536 → 1 ≤ d → d * n ≡ number_of_units m → n ≤ 65536
few_slots m d n h l e = (counted_small m d n h l e).1

pub slots_small : (t : Torus) → IsCube t → slot_count t ≤ 65536
slots_small t C = few_slots t.m t.d (slot_count t) C.shape.m_high C.shape.d_low C.counted

pub T_unit : (t : Torus) → IsCube t → (e : List ℕ) → UnitModulo t.m (T_of t e)
T_unit t C e = unit_of_inverse t.m (T_of t e) (T_inverse t C.shape C.order C.powers e)

-- ---- a dimension
abbrev dimension_of_axis : Axis → Dimension
dimension_of_axis axis = record { generator = axis.generator; size = axis.size }

part_positive : (Ds : List Dimension) (i : ℕ) → ArePositive Ds → 0 < count (drop i Ds)
part_positive Ds zero p = count_positive Ds p
part_positive [] (suc i) p = omega arith
part_positive (D ∷ Ds) (suc i) p = part_positive Ds i (positive_rest D Ds p)

module _ (s : Inside) (H : AreTables s) (i : ℕ) (x : Axis) (within : i < length (torus_of s).dimensions) (is : x ≡ get_or s.axes.items i x) where
  in_axes : i < length s.axes.items
  in_axes = let e : length (dimensions_held s.axes.items) ≡ length s.axes.items = length-map s.axes.items dimension_of_axis in omega (arith, e)

  axis_size : x.size ≡ size (torus_of s) i
  axis_size = sym (ap (λ (D : Dimension). D.size) (get_or-map dimension_of_axis s.axes.items i x no_dimension in_axes) ∙ ap (λ (axis : Axis). axis.size) (sym is))

  axis_stride : x.stride ≡ count (drop (suc i) (torus_of s).dimensions)
  axis_stride = ap (λ (axis : Axis). axis.stride) is ∙ sym (get_or-map (λ (axis : Axis). axis.stride) s.axes.items i x 0 in_axes) ∙ H.strides.at i within

  pub size_above : 0 < x.size
  size_above = subst (λ z. 0 < z) (sym axis_size) (size_positive (torus_of s) H.valid.shape i within)

  pub stride_above : 0 < x.stride
  stride_above = subst (λ z. 0 < z) (sym axis_stride) (part_positive (torus_of s).dimensions (suc i) (shape_positive (torus_of s) H.valid.shape))

  pub coordinate_is : (k : ℕ) → k / x.stride % x.size ≡ get_or (index (torus_of s).dimensions k) i 0
  coordinate_is k = ap₂ (λ y z. k / y % z) axis_stride axis_size ∙ sym (get_or-index (torus_of s).dimensions k i within)

  module _ (k v y : ℕ) (below : k < slot_count (torus_of s)) (v_in : v < size (torus_of s) i) (y_is : y ≡ k / x.stride % x.size) where
    moves : place (torus_of s).dimensions (set (index (torus_of s).dimensions k) i v) + y * x.stride ≡ k + v * x.stride
    moves = ap₂ (λ y z. place (torus_of s).dimensions (set (index (torus_of s).dimensions k) i v) + y * z) (y_is ∙ coordinate_is k) axis_stride ∙ place-set (torus_of s).dimensions (index (torus_of s).dimensions k) i v (length-index (torus_of s).dimensions k) within ∙ ap₂ (λ y z. y + v * z) (place_index (torus_of s).dimensions k (shape_positive (torus_of s) H.valid.shape) below) (sym axis_stride)

    taken : y * x.stride ≤ k
    taken = subst (λ z. z * x.stride ≤ k) (sym y_is) (less (k / x.stride % x.size) (k / x.stride) x.stride (mod-le (k / x.stride) x.size) (div-mul-le_self k x.stride))
      where
        less : (a b c : ℕ) {k : ℕ} → a ≤ b → b * c ≤ k → a * c ≤ k
        less a b c l h = omega (arith, h, ap (λ z. z * c) (let e : b ≡ a + (b - a) = omega arith in e))

    pub moved_is : k - y * x.stride + v * x.stride ≡ place (torus_of s).dimensions (set (index (torus_of s).dimensions k) i v)
    moved_is = omega (arith, moves, taken)

    target_in : place (torus_of s).dimensions (set (index (torus_of s).dimensions k) i v) < slot_count (torus_of s)
    target_in = place_in (torus_of s).dimensions (set (index (torus_of s).dimensions k) i v) (index-set (torus_of s).dimensions (index (torus_of s).dimensions k) i v (index_in (torus_of s).dimensions k (shape_positive (torus_of s) H.valid.shape)) within v_in)

    pub moved_in : k - y * x.stride + v * x.stride < slot_count (torus_of s)
    moved_in = subst (λ z. z < slot_count (torus_of s)) (sym moved_is) target_in

    pub moved_small : k - y * x.stride + v * x.stride < 65536
    moved_small = omega (arith, moved_in, slots_small (torus_of s) H.valid)

    pub step_small : v * x.stride < 65536
    step_small = omega (arith, moved_small)

-- ---- the place of a unit
module _ (s : Inside) (H : AreTables s) (k x : ℕ) (k_in : k < modulus_of s.ring) (unit : UnitModulo (modulus_of s.ring) k) (is : x ≡ get_or s.places.items k x) where
  stands : x ≡ located (torus_of s) k
  stands = is ∙ get_or_default_zero s.places.items k x (omega (arith, H.long)) ∙ H.places k k_in unit

  pub slot_in : x / s.d < slot_count (torus_of s)
  slot_in = slot_fits (torus_of s) H.valid.shape x (subst (λ z. z < place_count (torus_of s)) (sym stands) (located_in (torus_of s) H.valid k unit))

  pub pair_is : x / s.d * s.d + x % s.d ≡ located (torus_of s) k
  pair_is = div-add-mod' x s.d ∙ stands

  pub pair_located : IsLocated (torus_of s) k (index (torus_of s).dimensions (x / s.d)) (x % s.d)
  pair_located = subst (λ z. IsLocated (torus_of s) k (index (torus_of s).dimensions (z / s.d)) (z % s.d)) (sym stands) (located_pair (torus_of s) H.valid k unit)

-- ---- the element of a slot
pub element_unit : (s : Inside) (H : AreTables s) (k x : ℕ) → k < slot_count (torus_of s) → x ≡ get_or s.elements.items k x → UnitModulo (modulus_of s.ring) x
element_unit s H k x l e = subst (UnitModulo (modulus_of s.ring)) (sym (e ∙ get_or_default_zero s.elements.items k x (omega (arith, H.elements.long)) ∙ H.elements.at k l)) (T_unit (torus_of s) H.valid (index (torus_of s).dimensions k))
