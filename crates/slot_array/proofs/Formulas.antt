-- What code finds slot by slot is what the instructions' formulas say.
use Rattle.std.proofs.Common.{◌≡◌, ◌≤◌, All, length, ℕ, ◌+◌, ◌-◌, ◌*◌, ◌/◌, ◌%◌, ◌<◌, List, [], get_or, set, refl, zero, suc, ◌∷◌, subst, mod-lt, ap, ap₂, sym, ◌∙◌, arith}
use Rattle.std.specs.Prelude.{eqb, map, IfOk, Result, Ok, Err}
use Rattle.std.proofs.lemmas.List.{map-append, get_or_default}
use Rattle.std.proofs.lemmas.Nat.{div-mul-add, mod-mul-add}
use Rattle.std.proofs.Math.Nat.{mod-mod}
use Rattle.algebra.specs.Divisor.{UnitModulo, HasInverse}
use Rattle.algebra.specs.Power.{less}
use Rattle.algebra.specs.Whole.{below}
use Rattle.algebra.proofs.Units.{unit_of_inverse, inverse_of_unit, inverse_of_product, residue_of_unit}
use Rattle.hyper_cube.specs.Torus.{Torus, first_place, index, place, slot_count, size, T_of, unit_at, located}
use Rattle.hyper_cube.specs.Checks.{IsCube, dimension_count}
use Rattle.hyper_cube.proofs.Located.{unit_positive}
use Rattle.hyper_cube.proofs.Shapes.{m_positive, m_above, size_positive}
use Rattle.hyper_cube.proofs.Numbering.{is_numbering}
use Rattle.ext_field.specs.Element.{Extension, IsElement, elements, frob_times}
use Rattle.slot_array.specs.Arrays.{Array, IsArray}
use Rattle.slot_array.specs.Instructions.{add, sub, neg, mul, auto, rotate}
use Rattle.slot_array.proofs.Filled.{filled, all_more, slot_is, array_is, array_from}

-- only the residue of k counts
pub located_residue : (c : Torus) (k : ℕ) → located c (k % c.m) ≡ located c k
unfolding located
located_residue c k = ap (λ r. first_place (map (λ i. eqb (unit_at c i) r) (below (slot_count c * c.d)))) (mod-mod k c.m)

-- the product of two units, reduced, is a unit
pub product_unit : (c : Torus) → IsCube c → (a k : ℕ) → UnitModulo c.m a → UnitModulo c.m k → UnitModulo c.m ((a * k) % c.m)
product_unit c C a k ha hk = residue_of_unit c.m (a * k) (unit_of_inverse c.m (a * k) (inverse_of_product c.m a k (inverse a ha) (inverse k hk)))
  where
    inverse : (b : ℕ) → UnitModulo c.m b → HasInverse c.m b
    inverse b h = inverse_of_unit c.m b (m_positive c C.shape) (unit_positive c.m b (m_above c C.shape) h) h

-- slot k of an automorphism's result
abbrev pub image_at : Extension → Torus → Array → ℕ → ℕ → List ℕ
image_at f c a u k = let i = located c (T_of c (index c.dimensions k) * u) in frob_times f (i % c.d) (get_or a (i / c.d) [])

-- slot k of a rotation's result
abbrev pub turned_at : Torus → Array → ℕ → ℕ → ℕ → List ℕ
turned_at c a i v k = get_or a (place c.dimensions (set (index c.dimensions k) i ((get_or (index c.dimensions k) i 0 + (size c i - v % size c i)) % size c i))) []

-- slot k of what the instructions make slot by slot
abbrev pub sum_at : Extension → Array → Array → ℕ → List ℕ
sum_at f a b k = (elements f).add (get_or a k []) (get_or b k [])

abbrev pub difference_at : Extension → Array → Array → ℕ → List ℕ
difference_at f a b k = less (elements f) (get_or a k []) (get_or b k [])

abbrev pub product_at : Extension → Array → Array → ℕ → List ℕ
product_at f a b k = (elements f).mul (get_or a k []) (get_or b k [])

abbrev pub negative_at : Extension → Array → ℕ → List ℕ
negative_at f a k = (elements f).neg (get_or a k [])

-- what code reads at slot i of an array
pub read_is : (a xs : Array) (i n : ℕ) (u : List ℕ) → xs ≡ a → length a ≡ n → i < n → u ≡ get_or xs i u → u ≡ get_or a i []
read_is a xs i n u xs_is long l u_is = u_is ∙ ap (λ y. get_or y i u) xs_is ∙ get_or_default a i u [] (omega (arith, long, l))

-- the same with the modulus as code holds it
pub reduced_unit : (c : Torus) → IsCube c → (a k m : ℕ) → m ≡ c.m → UnitModulo c.m a → UnitModulo c.m k → UnitModulo c.m ((a * k) % m)
reduced_unit c C a k m m_is ha hk = subst (λ n. UnitModulo c.m ((a * k) % n)) (sym m_is) (product_unit c C a k ha hk)

pub reduced_place : (c : Torus) (a k m : ℕ) → m ≡ c.m → located c ((a * k) % m) ≡ located c ((a * k) % c.m)
reduced_place c a k m m_is = ap (λ n. located c ((a * k) % n)) m_is

-- the elements of a rotation's result are those of the array
turned_elements : (f : Extension) (c : Torus) → IsCube c → (a : Array) → IsArray f c a → (i v : ℕ) → i < dimension_count c → (n : ℕ) → All (λ x. IsElement f x) (filled (turned_at c a i v) n)
turned_elements f c C a A i v l zero = λ k d m. absurd (omega arith)
turned_elements f c C a A i v l (suc n) = all_more f (turned_at c a i v n) (filled (turned_at c a i v) n) (filled (turned_at c a i v) (suc n)) (turned_elements f c C a A i v l n) (A.elements (place c.dimensions e) [] (omega (arith, A.long, within))) (map-append (turned_at c a i v) (below n) (n ∷ []))
  where
    to : ℕ
    to = (get_or (index c.dimensions n) i 0 + (size c i - v % size c i)) % size c i

    e : List ℕ
    e = set (index c.dimensions n) i to

    within : place c.dimensions e < slot_count c
    within = (is_numbering c C).set_place_in (index c.dimensions n) i to ((is_numbering c C).index_in n) l (mod-lt (get_or (index c.dimensions n) i 0 + (size c i - v % size c i)) (size_positive c C.shape i l))

module _ (f : Extension) (c : Torus) (C : IsCube c) (n : ℕ) (m : ℕ) (low : m ≤ n) (high : n ≤ m) (m_is : m ≡ slot_count c) (y : Array) where
  n_is : n ≡ slot_count c
  n_is = omega (arith, low, high, m_is)

  pub sums_are : (a b : Array) → y ≡ filled (sum_at f a b) n → y ≡ add f c a b
  unfolding add
  sums_are a b y_is = array_is c C _ (sum_at f a b) (λ k l. ap₂ (elements f).add (slot_is c C a k l) (slot_is c C b k l)) n y n_is y_is

  pub differences_are : (a b : Array) → y ≡ filled (difference_at f a b) n → y ≡ sub f c a b
  unfolding sub
  differences_are a b y_is = array_is c C _ (difference_at f a b) (λ k l. ap₂ (less (elements f)) (slot_is c C a k l) (slot_is c C b k l)) n y n_is y_is

  pub products_are : (a b : Array) → y ≡ filled (product_at f a b) n → y ≡ mul f c a b
  unfolding mul
  products_are a b y_is = array_is c C _ (product_at f a b) (λ k l. ap₂ (elements f).mul (slot_is c C a k l) (slot_is c C b k l)) n y n_is y_is

  pub negatives_are : (a : Array) → y ≡ filled (negative_at f a) n → y ≡ neg f c a
  unfolding neg
  negatives_are a y_is = array_is c C _ (negative_at f a) (λ k l. ap (elements f).neg (slot_is c C a k l)) n y n_is y_is

  pub images_are : (a : Array) (u : ℕ) → y ≡ filled (image_at f c a u) n → y ≡ auto f c u a
  unfolding auto
  images_are a u y_is = array_is c C _ (image_at f c a u) (λ k l. refl) n y n_is y_is

  pub turns_are : (a : Array) (i v : ℕ) → y ≡ filled (turned_at c a i v) n → y ≡ rotate f c i v a
  unfolding rotate
  turns_are a i v y_is = array_is c C _ (turned_at c a i v) (λ k l. refl) n y n_is y_is

  pub array_filled : (F : ℕ → List ℕ) → y ≡ filled F n → All (λ a. IsElement f a) y → IsArray f c y
  array_filled F y_is h = array_from f c F n y n_is y_is h

  pub turned_array : (a : Array) → IsArray f c a → (i v : ℕ) → i < dimension_count c → y ≡ filled (turned_at c a i v) n → IsArray f c y
  turned_array a A i v l y_is = array_filled (turned_at c a i v) y_is (subst (All (λ x. IsElement f x)) (sym y_is) (turned_elements f c C a A i v l n))

-- what an automorphism's step finds
module _ (f : Extension) (c : Torus) (a : Array) (u i t p q : ℕ) (t_is : t ≡ T_of c (index c.dimensions i)) (power_in : q < c.d) (place_is : p * c.d + q ≡ located c ((t * u) % c.m)) where
  stands : located c (T_of c (index c.dimensions i) * u) ≡ p * c.d + q
  stands = ap (λ s. located c (s * u)) (sym t_is) ∙ sym (located_residue c (t * u)) ∙ sym place_is

  pub image_step : (v x : List ℕ) → v ≡ get_or a p [] → x ≡ frob_times f q v → x ≡ image_at f c a u i
  image_step v x v_is x_is = x_is ∙ ap₂ (frob_times f) (sym (ap (λ s. s % c.d) stands ∙ mod-mul-add p c.d q power_in)) (v_is ∙ ap (λ k. get_or a k []) (sym (ap (λ s. s / c.d) stands ∙ div-mul-add p c.d q power_in)))

-- what a rotation's step finds
pub turned_step : (c : Torus) (a : Array) (d v i s x y : ℕ) (r : List ℕ) → s ≡ size c d → x ≡ get_or (index c.dimensions i) d 0 → y ≡ place c.dimensions (set (index c.dimensions i) d ((x + (s - v % s)) % s)) → r ≡ get_or a y [] → r ≡ turned_at c a d v i
turned_step c a d v i s x y r s_is x_is y_is r_is = r_is ∙ ap (λ k. get_or a k []) (y_is ∙ ap₂ (λ w z. place c.dimensions (set (index c.dimensions i) d ((w + (z - v % z)) % z))) x_is s_is)

-- a size is above 0
pub size_above : (c : Torus) → IsCube c → (i s : ℕ) → i < dimension_count c → s ≡ size c i → 0 < s
size_above c C i s l s_is = omega (arith, s_is, size_positive c C.shape i l)

-- what holds of each result in place of what is told of it
pub if_ok_along : {X E : Type 0} (r : Result X E) (P Q : X → Type 0) → ((x : X) → P x → Q x) → IfOk r P → IfOk r Q
if_ok_along (Ok x) P Q h k = h x k
if_ok_along (Err e) P Q h k = k

-- the first operand
pub first_operand : (f : Extension) (c : Torus) (args : List Array) (n : ℕ) (x : Array) → All (λ a. IsArray f c a) args → length args ≡ n → 0 < n → x ≡ get_or args 0 x → IsArray f c x
first_operand f c args n x h long l x_is = subst (IsArray f c) (sym x_is) (h 0 x (omega (arith, long, l)))
