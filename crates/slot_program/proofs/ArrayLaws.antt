-- What the instructions make of arrays are arrays.
use Rattle.std.proofs.Common.{◌≡◌, ℕ, ◌*◌, ◌/◌, ◌%◌, ◌<◌, ◌≤◌, true, List, [], ◌∷◌, map, get_or, refl, ◌∙◌, subst, arith}
use Rattle.std.specs.List.{All}
use Rattle.std.proofs.lemmas.List.{length-map}
use Rattle.std.proofs.lemmas.List.Elements.{All-nil, All-cons}
use Rattle.algebra.specs.Whole.{below}
use Rattle.algebra.specs.Ring.{HeldLaws}
use Rattle.algebra.specs.Divisor.{UnitModulo, is_unit}
use Rattle.algebra.proofs.Sums.{length-below}
use Rattle.algebra.proofs.Units.{unit_of_test, unit_of_inverse, inverse_of_unit, inverse_of_product}
use Rattle.hyper_cube.specs.Torus.{Torus, slot_count, place, index, indices, size, T_of, located}
use Rattle.hyper_cube.specs.Checks.{IsCube, IsIndex, dimension_count}
use Rattle.hyper_cube.specs.CubeLaws.{IsNumbering}
use Rattle.hyper_cube.proofs.Axed.{T_unit}
use Rattle.hyper_cube.proofs.Located.{unit_positive}
use Rattle.hyper_cube.proofs.Numbering.{is_numbering, stands_once}
use Rattle.std.proofs.Math.Nat.{div-lt_iff_lt-mul}
use Rattle.ext_field.specs.Element.{Extension, IsExtension, IsElement, is_element, elements}
use Rattle.ext_field.specs.Laws.{element_laws}
use Rattle.ext_field.proofs.FrobeniusMap.{times_element}
use Rattle.slot_array.specs.Arrays.{Array, IsArray, slot, array}
use Rattle.slot_array.specs.Instructions.{add, sub, neg, mul, auto, rotate}

all_mapped : (P : List ℕ → Type 0) (h : ℕ → List ℕ) (g : ℕ → List ℕ) (y : List ℕ → List ℕ) (ks : List ℕ) → ((k : ℕ) → h k ≡ y (g k)) → ((k : ℕ) → P (h k)) → All P (map y (map g ks))
all_mapped P h g y [] same each = All-nil P
all_mapped P h g y (k ∷ ks) same each = All-cons P (y (g k)) (map y (map g ks)) (subst P (same k) (each k)) (all_mapped P h g y ks same each)

module _ (f : Extension) (cube : Torus) (ext : IsExtension f) (is : IsCube cube) where
  numbering : IsNumbering cube
  numbering = is_numbering cube is

  laws : HeldLaws (is_element f) (elements f)
  laws = element_laws f ext.factor

  -- an element for each index
  array_is : (y : List ℕ → List ℕ) → ((k : ℕ) → IsIndex cube.dimensions (index cube.dimensions k) → IsElement f (y (index cube.dimensions k))) → IsArray f cube (array cube y)
  array_is y each = record {
    long = length-map (indices cube.dimensions) y ∙ length-map (below (slot_count cube)) (index cube.dimensions) ∙ length-below (slot_count cube);
    elements = all_mapped (IsElement f) (λ k. y (index cube.dimensions k)) (index cube.dimensions) y (below (slot_count cube)) (λ k. refl) (λ k. each k (numbering.index_in k));
  }

  slot_is : (a : Array) (e : List ℕ) → IsArray f cube a → IsIndex cube.dimensions e → IsElement f (slot cube a e)
  slot_is a e held within = held.elements (place cube.dimensions e) [] (rw held.long (numbering.place_in e within))

  pub add_is : (a b : Array) → IsArray f cube a → IsArray f cube b → IsArray f cube (add f cube a b)
  unfolding add
  add_is a b x y = array_is _ (λ k within. laws.add_held _ _ (slot_is a _ x within) (slot_is b _ y within))

  pub sub_is : (a b : Array) → IsArray f cube a → IsArray f cube b → IsArray f cube (sub f cube a b)
  unfolding sub
  sub_is a b x y = array_is _ (λ k within. laws.add_held _ _ (slot_is a _ x within) (laws.neg_held _ (slot_is b _ y within)))

  pub neg_is : (a : Array) → IsArray f cube a → IsArray f cube (neg f cube a)
  unfolding neg
  neg_is a x = array_is _ (λ k within. laws.neg_held _ (slot_is a _ x within))

  pub mul_is : (a b : Array) → IsArray f cube a → IsArray f cube b → IsArray f cube (mul f cube a b)
  unfolding mul
  mul_is a b x y = array_is _ (λ k within. laws.mul_held _ _ (slot_is a _ x within) (slot_is b _ y within))

  pub rotate_is : (i v : ℕ) (a : Array) → i < dimension_count cube → IsArray f cube a → IsArray f cube (rotate f cube i v a)
  unfolding rotate
  rotate_is i v a inside x =
      array_is _ (λ k within.
      let old = numbering.coordinate_in k i inside in
      let positive : 0 < size cube i = omega (arith, old) in
      slot_is a _ x (numbering.set_in (index cube.dimensions k) i _ within inside (below_modulus _ (size cube i) positive)))
    where
      below_modulus : (n m : ℕ) → 0 < m → n % m < m
      below_modulus n m positive = omega arith

  -- the product of two units is a unit
  pub auto_is : (k : ℕ) (a : Array) → 0 < k → is_unit cube.m k ≡ true → IsArray f cube a → IsArray f cube (auto f cube k a)
  unfolding auto
  auto_is k a positive unit x =
      array_is _ (λ j within.
      let i = located cube (T_of cube (index cube.dimensions j) * k) in
      let inside = (stands_once cube is (T_of cube (index cube.dimensions j) * k) (product_unit j)).within in
      times_element f ext.factor (i % cube.d) (get_or a (i / cube.d) [])
      (x.elements (i / cube.d) [] (rw x.long (quotient_in i cube.d (slot_count cube) is.shape.d_low inside))))
    where
      quotient_in : (i d n : ℕ) → 1 ≤ d → i < n * d → i / d < n
      quotient_in i d n positive inside = (div-lt_iff_lt-mul {k = d} {x = i} {y = n} positive).1 inside

      m_positive : 0 < cube.m
      m_positive = omega (arith, is.shape.m_low)

      product_unit : (j : ℕ) → UnitModulo cube.m (T_of cube (index cube.dimensions j) * k)
      product_unit j =
          let T = T_of cube (index cube.dimensions j) in
          let unit_T = T_unit cube is (index cube.dimensions j) in
          let inverse_T = inverse_of_unit cube.m T m_positive (unit_positive cube.m T (omega (arith, is.shape.m_low)) unit_T) unit_T in
          let inverse_k = inverse_of_unit cube.m k m_positive positive (unit_of_test cube.m k m_positive positive unit) in
          unit_of_inverse cube.m (T * k) (inverse_of_product cube.m T k inverse_T inverse_k)
