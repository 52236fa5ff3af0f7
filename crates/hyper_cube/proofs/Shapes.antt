-- Powers and inverses modulo m; and that the products of a torus are units.
use Rattle.std.specs.Prelude.{◌≡◌, ℕ, zero, suc, ◌+◌, ◌-◌, ◌*◌, ◌/◌, ◌%◌, ◌^◌, ◌<◌, List, [], ◌∷◌, length, get_or}
use Rattle.std.proofs.Common.{arith, sym, ◌∙◌, ap, ap₂, subst, mod-eq_of_lt, mod-lt, pow-suc, div-add-mod', mul_comm}
use Rattle.std.proofs.lemmas.Nat.{pow-add, mul-mod_first, div-mul-add, mod-mul-add}
use Rattle.std.proofs.Math.Nat.{div-lt_iff_lt-mul, pow-zero, mul-add-mod_self_left}
use Rattle.algebra.specs.Divisor.{HasInverse, UnitModulo}
use Rattle.algebra.proofs.Units.{inverse_of_product, unit_of_inverse}
use Rattle.algebra.proofs.Chinese.{inverse_of_residue}
use Rattle.hyper_cube.specs.Torus.{Torus, Dimension, generated, index, slot_count, dimension, size, T_of, unit_at}
use Rattle.hyper_cube.specs.Checks.{IsShape, HasOrder, IsPower, ArePowers, dimension_count, place_count, wrapped}
use Rattle.hyper_cube.proofs.Indices.{ArePositive, count_positive, generated_first}

-- ---- inverses
inverse_of_one : (m : ℕ) → HasInverse m 1
inverse_of_one m = (1, 0, omega arith)

pub inverse_of_power : (m a k : ℕ) → HasInverse m a → HasInverse m (a ^ k)
inverse_of_power m a zero h = subst (HasInverse m) (sym (pow-zero a)) (inverse_of_one m)
inverse_of_power m a (suc k) h = subst (HasInverse m) (sym (pow-suc a k)) (inverse_of_product m (a ^ k) a (inverse_of_power m a k h) h)

inverse_of_factor : (m a b : ℕ) → HasInverse m (a * b) → HasInverse m a
inverse_of_factor m a b h = (b * h.0, h.1, omega (arith, h.2))

-- a power above 0 has an inverse: so has the base
inverse_of_base : (m a k : ℕ) → 0 < k → HasInverse m (a ^ k) → HasInverse m a
inverse_of_base m a zero l h = absurd (omega arith)
inverse_of_base m a (suc k) l h = inverse_of_factor m a (a ^ k) (subst (HasInverse m) (pow-suc a k ∙ mul_comm (a ^ k) a) h)

pub inverse_of_same : (m a b : ℕ) → 1 < m → a % m ≡ b % m → HasInverse m a → HasInverse m b
inverse_of_same m a b l e h = inverse_of_residue m b h.0 l (sym (mul-mod_first b h.0 m) ∙ ap (λ z. (z * h.0) % m) (sym e) ∙ mul-mod_first a h.0 m ∙ ap (λ z. z % m) h.2 ∙ mul-add-mod_self_left m h.1 1 ∙ mod-eq_of_lt l)

pub inverse_positive : (m a : ℕ) → HasInverse m a → 0 < a
inverse_positive m zero h = absurd (omega (arith, h.2))
inverse_positive m (suc a) h = omega arith

-- ---- powers of a number of an order
module _ (m p d : ℕ) (order : p ^ d % m ≡ 1 % m) where
  power_of_multiple : (q : ℕ) → p ^ (q * d) % m ≡ 1 % m
  power_of_multiple zero = ap (λ z. p ^ z % m) (let e : 0 * d ≡ 0 = omega arith in e) ∙ ap (λ z. z % m) (pow-zero p)
  power_of_multiple (suc q) = ap (λ z. p ^ z % m) turn ∙ ap (λ z. z % m) (pow-add p (q * d) d) ∙ sym (mul-mod_first (p ^ (q * d)) (p ^ d) m) ∙ ap (λ z. (z * p ^ d) % m) (power_of_multiple q) ∙ mul-mod_first 1 (p ^ d) m ∙ ap (λ z. z % m) (let e : 1 * p ^ d ≡ p ^ d = omega arith in e) ∙ order
    where
      turn : suc q * d ≡ q * d + d
      turn = omega arith

  pub power_reduced : (j : ℕ) → p ^ j % m ≡ p ^ (j % d) % m
  power_reduced j = ap (λ z. p ^ z % m) (sym (div-add-mod' j d)) ∙ ap (λ z. z % m) (pow-add p (j / d * d) (j % d)) ∙ sym (mul-mod_first (p ^ (j / d * d)) (p ^ (j % d)) m) ∙ ap (λ z. (z * p ^ (j % d)) % m) (power_of_multiple (j / d)) ∙ mul-mod_first 1 (p ^ (j % d)) m ∙ ap (λ z. z % m) (let e : 1 * p ^ (j % d) ≡ p ^ (j % d) = omega arith in e)

-- ---- a torus of the right shape
module _ (c : Torus) (S : IsShape c) where
  pub shape_positive : ArePositive c.dimensions
  shape_positive = λ i d l. (S.sizes i d l).0

  pub m_positive : 0 < c.m
  m_positive = omega (arith, S.m_low)

  pub m_above : 1 < c.m
  m_above = omega (arith, S.m_low)

  pub d_positive : 0 < c.d
  d_positive = omega (arith, S.d_low)

  pub slots_positive : 0 < slot_count c
  slots_positive = count_positive c.dimensions shape_positive

  pub size_positive : (i : ℕ) → i < dimension_count c → 0 < size c i
  size_positive i l = (S.sizes i _ l).0

  pub order_one : HasOrder c → c.p ^ c.d % c.m ≡ 1 % c.m
  order_one h = h ∙ sym (mod-eq_of_lt m_above)

  -- the product at slot 0
  pub T_first : T_of c (index c.dimensions 0) ≡ 1
  T_first = ap (λ z. z % c.m) (generated_first c.dimensions shape_positive) ∙ mod-eq_of_lt m_above

  -- a power of p has an exponent below d
  pub power_below : HasOrder c → (i : ℕ) → IsPower c i → (j : ℕ) × (j < c.d) × (wrapped c i ≡ c.p ^ j % c.m)
  power_below h i w = (w.0 % c.d, mod-lt w.0 d_positive, w.1 ∙ power_reduced c.m c.p c.d (order_one h) w.0)

  -- places are pairs of a slot and a power
  pub place_fits : (s u : ℕ) → s < slot_count c → u < c.d → s * c.d + u < place_count c
  place_fits s u l k = fits s (slot_count c) c.d u l k
    where
      fits : (i s c r : ℕ) → i < s → r < c → i * c + r < s * c
      fits i s c r l m = go (s - suc i) (omega arith)
        where
          go : (t : ℕ) → s ≡ suc i + t → i * c + r < s * c
          go t e = omega (arith, m, ap (λ z. z * c) e)

  pub place_slot : (s u : ℕ) → u < c.d → (s * c.d + u) / c.d ≡ s
  place_slot s u l = div-mul-add s c.d u l

  pub place_power : (s u : ℕ) → u < c.d → (s * c.d + u) % c.d ≡ u
  place_power s u l = mod-mul-add s c.d u l

  pub slot_fits : (i : ℕ) → i < place_count c → i / c.d < slot_count c
  slot_fits i l = (div-lt_iff_lt-mul d_positive).1 l

  pub power_fits : (i : ℕ) → i % c.d < c.d
  power_fits i = mod-lt i d_positive

  pub unit_at_place : (s u : ℕ) → u < c.d → unit_at c (s * c.d + u) ≡ (T_of c (index c.dimensions s) * c.p ^ u) % c.m
  unit_at_place s u l = ap₂ (λ s u. (T_of c (index c.dimensions s) * c.p ^ u) % c.m) (place_slot s u l) (place_power s u l)

  pub unit_at_below : (i : ℕ) → unit_at c i < c.m
  unit_at_below i = mod-lt _ m_positive

  -- ---- the products are units
  module _ (order : HasOrder c) (powers : ArePowers c (dimension_count c)) where
    pub p_inverse : HasInverse c.m c.p
    p_inverse = inverse_of_base c.m c.p c.d d_positive (inverse_of_same c.m 1 (c.p ^ c.d) m_above (sym (order_one order)) (inverse_of_one c.m))

    pub generator_inverse : (i : ℕ) → i < dimension_count c → HasInverse c.m (dimension c i).generator
    generator_inverse i l = inverse_of_base c.m (dimension c i).generator (size c i) (size_positive i l) (inverse_of_same c.m (c.p ^ (powers i l).0) ((dimension c i).generator ^ size c i) m_above (sym (powers i l).1) (inverse_of_power c.m c.p (powers i l).0 p_inverse))

    generated_inverse : (Ds : List Dimension) (e : List ℕ) → ((i : ℕ) → i < length Ds → HasInverse c.m (get_or Ds i (record { generator = 1; size = 1 })).generator) → HasInverse c.m (generated Ds e)
    generated_inverse [] e h = inverse_of_one c.m
    generated_inverse (D ∷ Ds) [] h = inverse_of_one c.m
    generated_inverse (D ∷ Ds) (i ∷ e) h = inverse_of_product c.m (D.generator ^ i) (generated Ds e) (inverse_of_power c.m D.generator i (h 0 (omega arith))) (generated_inverse Ds e (λ i l. h (suc i) (omega arith)))

    pub T_inverse : (e : List ℕ) → HasInverse c.m (T_of c e)
    T_inverse e = inverse_of_same c.m (generated c.dimensions e) (T_of c e) m_above (sym (mod-mod' (generated c.dimensions e))) (generated_inverse c.dimensions e generator_inverse)
      where
        mod-mod' : (a : ℕ) → a % c.m % c.m ≡ a % c.m
        mod-mod' a = mod-eq_of_lt (mod-lt a m_positive)

    pub unit_at_inverse : (i : ℕ) → HasInverse c.m (unit_at c i)
    unit_at_inverse i = inverse_of_same c.m (T_of c (index c.dimensions (i / c.d)) * c.p ^ (i % c.d)) (unit_at c i) m_above (sym (mod-eq_of_lt (unit_at_below i))) (inverse_of_product c.m (T_of c (index c.dimensions (i / c.d))) (c.p ^ (i % c.d)) (T_inverse (index c.dimensions (i / c.d))) (inverse_of_power c.m c.p (i % c.d) p_inverse))

    pub unit_at_unit : (i : ℕ) → UnitModulo c.m (unit_at c i)
    unit_at_unit i = unit_of_inverse c.m (unit_at c i) (unit_at_inverse i)
