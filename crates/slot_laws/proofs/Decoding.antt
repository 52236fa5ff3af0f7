-- The slots of an encoded array are its elements.
use Rattle.std.specs.Prelude.{◌≡◌, ℕ, zero, suc, ◌+◌, ◌*◌, ◌/◌, ◌%◌, ◌^◌, ◌<◌, ◌≢◌, cond, List, [], ◌∷◌, map, length, get_or, ℤ, refl}
use Rattle.std.proofs.Common.{sym, ◌∙◌, ap, ap₂, subst, arith, mod-lt, ne_eqb}
use Rattle.std.proofs.lemmas.List.{ext_get_or}
use Rattle.std.proofs.lemmas.Nat.{div-mul-add, mul-mod_first, mul-mod_second}
use Rattle.std.proofs.Math.Nat.{mod-mod, pow-zero}
use Rattle.algebra.specs.Ring.{CommRing, whole_numbers}
use Rattle.algebra.specs.Divisor.{UnitModulo}
use Rattle.algebra.specs.Power.{power}
use Rattle.algebra.specs.Poly.{sum, times}
use Rattle.algebra.specs.Range.{adds}
use Rattle.algebra.specs.Whole.{below}
use Rattle.algebra.proofs.Basic.{mul_zero, mul_one}
use Rattle.algebra.specs.HeldRing.{Held}
use Rattle.algebra.proofs.Held.{same_held, held_ring}
use Rattle.algebra.proofs.HeldLists.{held_preserves}
use Rattle.algebra.proofs.Maps.{map_sum}
use Rattle.algebra.proofs.Ranges.{total_single, add_laws}
use Rattle.algebra.proofs.Sums.{sum_below}
use Rattle.cyclotomic.specs.Cyclotomic.{R}
use Rattle.hyper_cube.specs.Torus.{Torus, slot_count, T_of, index, indices, unit_at, located}
use Rattle.ext_field.specs.Element.{Extension, IsMonicFactor, is_element, IsElement, elements, eta, frob_times}
use Rattle.slot_array.specs.Arrays.{Array, IsArray, slot, array}
use Rattle.slot_laws.specs.Slots.{inverse_modulo, slot_of, slots, lifted, eps, placed, encode}
use Rattle.slot_laws.specs.Checks.{unit_slot, IsPacking}
use Rattle.slot_laws.proofs.WholeValue.{map_twice, value, laws, value_in, value-times, value_lifted, power_in, power_one, frob_times_power, p_positive}
use Rattle.slot_laws.proofs.Roots.{value_fold}
use Rattle.slot_laws.proofs.Places.{inverse_is, inverse_unit, product_unit, located_is, unit_at_index, place_lt, get_array, length-array, array_same}
use Rattle.slot_laws.proofs.SlotMaps.{residues_balanced, F, d_positive, m_positive, m_above, at, unit_here, powers_of_eta, slot_fold, slot-add, slot_in, slot_residues, slot_substituted, value_located, located_low, none}

module _ (f : Extension) (M : IsMonicFactor f) where
  abbrev E : CommRing
  E = held_ring (laws f M)

  -- a sum with one term that is not 0
  pub sum_single : (n k : ℕ) (g : ℕ → List ℕ) → ((j : ℕ) → IsElement f (g j)) → k < n → ((j : ℕ) → j < n → j ≢ k → g j ≡ (elements f).zero) → sum (elements f) (map g (below n)) ≡ g k
  sum_single n k g g_in l h = sym (map_sum (held_preserves (laws f M)) (map held (below n)) ∙ ap (sum (elements f)) (map_twice (λ z. z.0) held (below n))) ∙ ap (λ z. z.0) (sum_below E n held ∙ total_single (adds E.ops) (add_laws E) n k held l (λ j m d. same_held (is_element f) (h j m d)))
    where
      held : ℕ → Held (is_element f)
      held j = (g j, g_in j)

  pub mul_none : (x : List ℕ) → IsElement f x → (elements f).mul x (elements f).zero ≡ (elements f).zero
  mul_none x h = ap (λ z. z.0) (mul_zero E (x, h))

  pub mul_single : (x : List ℕ) → IsElement f x → (elements f).mul x (elements f).one ≡ x
  mul_single x h = ap (λ z. z.0) (mul_one E (x, h))

module _ (f : Extension) (c : Torus) (P : IsPacking f c) where
  abbrev G : IsMonicFactor f
  G = F f c P

  abbrev i_at : ℕ → List ℕ
  i_at = at f c P

  -- the inverse of T at the index with number j
  abbrev pub inverse_at : ℕ → ℕ
  inverse_at j = inverse_modulo c.m (T_of c (i_at j))

  pub inverse_at_is : (j : ℕ) → j < slot_count c → (T_of c (i_at j) * inverse_at j) % c.m ≡ 1 % c.m
  inverse_at_is j l = (inverse_is c.m (T_of c (i_at j)) (m_above f c P) (unit_here f c P j l)).1

  pub inverse_at_unit : (j : ℕ) → j < slot_count c → UnitModulo c.m (inverse_at j)
  inverse_at_unit j l = inverse_unit c.m (T_of c (i_at j)) (m_above f c P) (unit_here f c P j l)

  pub slot_sum : (k : ℕ) → k < slot_count c → (xs : List (List ℤ)) → slot_of f c (sum (R c.m) xs) (i_at k) ≡ sum (elements f) (map (λ a. slot_of f c a (i_at k)) xs)
  slot_sum k l [] = slot_fold f c P [] k l ∙ none f c P (i_at k)
  slot_sum k l (a ∷ xs) = slot-add f c P a (sum (R c.m) xs) (i_at k) ∙ ap ((elements f).add (slot_of f c a (i_at k))) (slot_sum k l xs)

  -- the value of a product with eps at eta^n, for a unit n
  value_product : (n : ℕ) → UnitModulo c.m n → (y : List ℤ) → value f G (power (elements f) (eta f) n) ((R c.m).mul y (eps f c)) ≡ (elements f).mul (value f G (power (elements f) (eta f) n) y) (value f G (power (elements f) (eta f) n) (eps f c))
  value_product n u y = value_fold f G c.m (m_positive f c P) P.phi_factor (power (elements f) (eta f) n) (power_in f G n) ((powers_of_eta f c P).root n u) (times whole_numbers y (eps f c)) ∙ value-times f G (power (elements f) (eta f) n) (power_in f G n) y (eps f c)

  frob_none : (u : ℕ) → frob_times f u (elements f).zero ≡ (elements f).zero
  frob_none u = frob_times_power f P.extension u 1 (omega arith) []

  -- eps is 0 at each unit that does not stand below d
  eps_other : (n : ℕ) → UnitModulo c.m n → 0 < located c n / c.d → value f G (power (elements f) (eta f) n) (eps f c) ≡ (elements f).zero
  eps_other n u l = value_located f c P n (eps f c) u ∙ ap (frob_times f (located c n % c.d)) (P.idempotent (located c n / c.d) (located_low f c P n u) ∙ off (located c n / c.d) l) ∙ frob_none (located c n % c.d)
    where
      off : (j : ℕ) → 0 < j → unit_slot f c j ≡ (elements f).zero
      off zero l = absurd (omega arith)
      off (suc j) l = ap (λ b. cond b (elements f).one (elements f).zero) (ne_eqb (suc j) 0 (λ e. omega (arith, e)))

  -- a unit that stands below d is a power of p
  low_power : (n : ℕ) → UnitModulo c.m n → located c n / c.d ≡ 0 → n % c.m ≡ c.p ^ (located c n % c.d) % c.m
  low_power n u e = sym (located_is c P.cube (d_positive f c P) n u).1 ∙ ap (λ j. (T_of c (i_at j) * c.p ^ (located c n % c.d)) % c.m) e ∙ ap (λ t. (t * c.p ^ (located c n % c.d)) % c.m) P.cube.first ∙ mul-mod_first 1 (c.p ^ (located c n % c.d)) c.m ∙ ap (λ z. z % c.m) (once (c.p ^ (located c n % c.d)))
    where
      once : (t : ℕ) → 1 * t ≡ t
      once t = omega arith

  -- so the quotient of T at different indices does not
  apart : (j k : ℕ) → j < slot_count c → k < slot_count c → j ≢ k → 0 < located c (T_of c (i_at k) * inverse_at j) / c.d
  apart j k l h ne = go (located c (T_of c (i_at k) * inverse_at j) / c.d) refl
    where
      u : UnitModulo c.m (T_of c (i_at k) * inverse_at j)
      u = product_unit c.m (T_of c (i_at k)) (inverse_at j) (m_above f c P) (unit_here f c P k h) (inverse_at_unit j l)

      s : ℕ
      s = located c (T_of c (i_at k) * inverse_at j) % c.d

      equal : located c (T_of c (i_at k) * inverse_at j) / c.d ≡ 0 → ⊥
      equal e = ne (sym (div-mul-add j c.d s low) ∙ ap (λ i. i / c.d) (sym (P.cube.distinct (k * c.d + 0) (j * c.d + s) (place_lt k (slot_count c) 0 c.d h (d_positive f c P)) (place_lt j (slot_count c) s c.d l low) same)) ∙ div-mul-add k c.d 0 (d_positive f c P))
        where
          low : s < c.d
          low = mod-lt (located c (T_of c (i_at k) * inverse_at j)) (d_positive f c P)

          T : ℕ → ℕ
          T i = T_of c (i_at i)

          once : (t : ℕ) → t * 1 ≡ t
          once t = omega arith

          regroup : (a b i : ℕ) → a * (b * i) ≡ b * (a * i)
          regroup a b i = omega arith

          same : unit_at c (k * c.d + 0) ≡ unit_at c (j * c.d + s)
          same =
              unit_at_index c P.cube (d_positive f c P) k 0 (d_positive f c P)
              ∙ ap (λ z. (T k * z) % c.m) (pow-zero c.p)
              ∙ sym (mul-mod_second (T k) 1 c.m)
              ∙ ap (λ z. (T k * z) % c.m) (sym (inverse_at_is j l))
              ∙ mul-mod_second (T k) (T j * inverse_at j) c.m
              ∙ ap (λ z. z % c.m) (regroup (T k) (T j) (inverse_at j))
              ∙ sym (mul-mod_second (T j) (T k * inverse_at j) c.m)
              ∙ ap (λ z. (T j * z) % c.m) (low_power (T k * inverse_at j) u e)
              ∙ mul-mod_second (T j) (c.p ^ s) c.m
              ∙ sym (unit_at_index c P.cube (d_positive f c P) j s low)

      go : (q : ℕ) → located c (T_of c (i_at k) * inverse_at j) / c.d ≡ q → 0 < located c (T_of c (i_at k) * inverse_at j) / c.d
      go zero e = absurd (equal e)
      go (suc q) e = omega (arith, e)

  -- slot k of what is placed at j
  placed_other : (y : List ℤ) (j k : ℕ) → j < slot_count c → k < slot_count c → j ≢ k → slot_of f c (placed f c y (i_at j)) (i_at k) ≡ (elements f).zero
  placed_other y j k l h ne =
      slot_substituted f c P (inverse_at j) ((R c.m).mul y (eps f c)) (inverse_at_unit j l) k h
      ∙ value_product n u y
      ∙ ap ((elements f).mul (value f G (power (elements f) (eta f) n) y)) (eps_other n u (apart j k l h ne))
      ∙ mul_none f G (value f G (power (elements f) (eta f) n) y) (value_in f G (power (elements f) (eta f) n) (power_in f G n) y)
    where
      n : ℕ
      n = T_of c (i_at k) * inverse_at j

      u : UnitModulo c.m (T_of c (i_at k) * inverse_at j)
      u = product_unit c.m (T_of c (i_at k)) (inverse_at j) (m_above f c P) (unit_here f c P k h) (inverse_at_unit j l)

  eta_power : (n : ℕ) → n % c.m ≡ 1 % c.m → power (elements f) (eta f) n ≡ eta f
  eta_power n e = (powers_of_eta f c P).by_residue n 1 e ∙ power_one f G

  eps_one : 0 < slot_count c → value f G (eta f) (eps f c) ≡ (elements f).one
  unfolding slot_of
  eps_one l = ap (λ x. value f G x (eps f c)) (sym (eta_power (T_of c (i_at 0)) (ap (λ t. t % c.m) P.cube.first ∙ mod-mod 1 c.m))) ∙ P.idempotent 0 l

  placed_own : (x : List ℕ) → IsElement f x → (k : ℕ) → k < slot_count c → slot_of f c (placed f c (lifted f c x) (i_at k)) (i_at k) ≡ x
  placed_own x h k l =
      slot_substituted f c P (inverse_at k) ((R c.m).mul (lifted f c x) (eps f c)) (inverse_at_unit k l) k l
      ∙ value_product n u (lifted f c x)
      ∙ ap₂ (elements f).mul (ap (λ y. value f G y (lifted f c x)) (eta_power n (inverse_at_is k l)) ∙ value_lifted f G x h) (ap (λ y. value f G y (eps f c)) (eta_power n (inverse_at_is k l)) ∙ eps_one (omega (arith, l)))
      ∙ mul_single f G x h
    where
      n : ℕ
      n = T_of c (i_at k) * inverse_at k

      u : UnitModulo c.m (T_of c (i_at k) * inverse_at k)
      u = product_unit c.m (T_of c (i_at k)) (inverse_at k) (m_above f c P) (unit_here f c P k l) (inverse_at_unit k l)

  -- an element of an array
  pub element_of : (x : Array) → IsArray f c x → (k : ℕ) → k < slot_count c → IsElement f (slot c x (i_at k))
  element_of x A k l = subst (λ i. IsElement f (get_or x i [])) (sym (P.cube.place_is k l)) (A.elements k [] (omega (arith, A.long)))

  pub slot_encoded : (x : Array) → IsArray f c x → (k : ℕ) → k < slot_count c → slot_of f c (encode f c x) (i_at k) ≡ slot c x (i_at k)
  unfolding encode
  slot_encoded x A k l =
      slot_residues f c P (encode f c x) (sum (R c.m) (map (λ e. placed f c (lifted f c (slot c x e)) e) (indices c.dimensions))) (i_at k) (residues_balanced f.p (p_positive f G) (sum (R c.m) (map (λ e. placed f c (lifted f c (slot c x e)) e) (indices c.dimensions))))
      ∙ slot_sum k l (map (λ e. placed f c (lifted f c (slot c x e)) e) (indices c.dimensions))
      ∙ ap (sum (elements f)) (map_twice (λ a. slot_of f c a (i_at k)) (λ e. placed f c (lifted f c (slot c x e)) e) (indices c.dimensions) ∙ map_twice (λ e. slot_of f c (placed f c (lifted f c (slot c x e)) e) (i_at k)) (index c.dimensions) (below (slot_count c)))
      ∙ sum_single f G (slot_count c) k (λ j. slot_of f c (placed f c (lifted f c (slot c x (i_at j))) (i_at j)) (i_at k)) (λ j. slot_in f c P (placed f c (lifted f c (slot c x (i_at j))) (i_at j)) (i_at k)) l (λ j m d. placed_other (lifted f c (slot c x (i_at j))) j k m l d)
      ∙ placed_own (slot c x (i_at k)) (element_of x A k l) k l

  pub array_own : (x : Array) → length x ≡ slot_count c → array c (slot c x) ≡ x
  array_own x e = ext_get_or [] (array c (slot c x)) x (length-array c (slot c x) ∙ sym e) (λ i l. get_array c (slot c x) i [] (omega (arith, l, length-array c (slot c x))) ∙ ap (λ k. get_or x k []) (P.cube.place_is i (omega (arith, l, length-array c (slot c x)))))

  pub encode_back : (x : Array) → IsArray f c x → slots f c (encode f c x) ≡ x
  unfolding slots
  encode_back x A = array_same c (slot_of f c (encode f c x)) (slot c x) (slot_encoded x A) ∙ array_own x A.long
