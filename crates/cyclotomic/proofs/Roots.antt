-- Roots of unity without a field: differences of powers have inverses, and the transform is turned back.
use Rattle.std.specs.Prelude.{◌≡◌, ℕ, ◌+◌ as ◌+ₙ◌, ◌-◌ as ◌-ₙ◌, ◌*◌ as ◌*ₙ◌, ◌/◌, ◌%◌, ◌<◌, ◌≢◌, ◌⊎◌, refl, ◌≤◌}
use Rattle.std.proofs.Common.{eq-eqb, div-add-mod', mod-lt, sym, ◌∙◌, ap, ap₂, subst, inl, inr, arith, mul_comm}
use Rattle.std.proofs.lemmas.Bool.{cases_order, cases_lt}
use Rattle.algebra.specs.Ring.{CommRing}
use Rattle.algebra.specs.Range.{total, adds}
use Rattle.algebra.specs.Power.{less, power, geometric, number, Divides, IsUnit}
use Rattle.algebra.proofs.Basic.{mul_zero}
use Rattle.algebra.specs.Divisor.{HasInverse}
use Rattle.algebra.proofs.Divisors.{divisor_of_test, larger_no, Dvd_positive, Dvd_le}
use Rattle.algebra.proofs.Units.{unit_cancels}
use Rattle.algebra.proofs.Euclid.{Euclid, euclid}
use Rattle.algebra.proofs.Ranges.{total_cong, total_exchange, total_single, total-mul, mul-total, add_laws}
use Rattle.algebra.proofs.Powers.{power-add, power-mul, power-product, power_one, power_divides, geometric_is, geometric_one, unit_of_divisor, unit_product, unit_cancel}
use Rattle.algebra.specs.Expression.{◌:*◌, ◌:-◌, minus, :0, :1}
use Rattle.algebra.proofs.Solver.{solve1, solve2, solve3}
use Rattle.cyclotomic.specs.Roots.{IsRoot, transform}

module _ (R : CommRing) where
  open R use {add as ◌+◌, mul as ◌*◌, neg as neg, zero as 𝟘, one as 𝟙}

  infixl 70 ◌+◌
  infixl 70 ◌-◌
  infixl 75 ◌*◌
  abbrev ◌-◌ : R.Carrier → R.Carrier → R.Carrier
  a - b = less R.ops a b

  abbrev pow : R.Carrier → ℕ → R.Carrier
  pow x n = power R.ops x n

  abbrev Unit_of : R.Carrier → Type 0
  Unit_of a = IsUnit R.ops a

  -- powers of one root are again of the root one
  pub root_power : (w : R.Carrier) (m k : ℕ) → pow w m ≡ 𝟙 → pow (pow w k) m ≡ 𝟙
  root_power w m k e = sym (power-mul R w k m) ∙ ap (pow w) (mul_comm k m) ∙ power-mul R w m k ∙ ap (λ z. pow z k) e ∙ power_one R k

  -- a multiple of m in the exponent falls away
  pub root-shift : (w : R.Carrier) (m v g : ℕ) → pow w m ≡ 𝟙 → pow w (m *ₙ v +ₙ g) ≡ pow w g
  root-shift w m v g e = power-add R w (m *ₙ v) g ∙ ap (λ z. z * pow w g) (power-mul R w m v ∙ ap (λ z. pow z v) e ∙ power_one R v) ∙ R.one_mul (pow w g)

  -- the test at the divisors of m is a test at every number below m
  pub root_differences : (w : R.Carrier) (m : ℕ) → IsRoot R.ops w m → (k : ℕ) → 0 < k → k < m → Unit_of (pow w k - 𝟙)
  root_differences w m h k p l = unit_of_divisor R (pow w k - 𝟙) (pow w E.g - 𝟙) (subst (λ z. Divides R.ops (pow w k - 𝟙) (z - 𝟙)) same (power_divides R w k E.u)) (h.at_divisors E.g positive below (E.of_b, E.divides_b))
    where
      E : Euclid k m
      E = euclid k m p (omega arith)

      positive : 0 < E.g
      positive = Dvd_positive E.g k p (E.of_a, E.divides_a)

      below : E.g < m
      below = omega (arith, Dvd_le E.g k p (E.of_a, E.divides_a))

      same : pow w (k *ₙ E.u) ≡ pow w E.g
      same = ap (pow w) (mul_comm k E.u ∙ E.sum ∙ ap (λ z. z +ₙ E.g) (mul_comm E.v m)) ∙ root-shift w m E.v E.g h.root

  module _ (w v : R.Carrier) (inverse : w * v ≡ 𝟙) where
    pub powers_inverse : (k : ℕ) → pow w k * pow v k ≡ 𝟙
    powers_inverse k = sym (power-product R w v k) ∙ ap (λ z. pow z k) inverse ∙ power_one R k

    pub power_unit : (k : ℕ) → Unit_of (pow w k)
    power_unit k = (pow v k, sym (powers_inverse k))

    -- the inverse of a root is one
    pub inverse_root : (m : ℕ) → pow w m ≡ 𝟙 → pow v m ≡ 𝟙
    inverse_root m e = sym (R.one_mul (pow v m)) ∙ ap (λ z. z * pow v m) (sym e) ∙ powers_inverse m

    -- w^(j + t) v^j = w^t
    pub power_quotient : (j t : ℕ) → pow w (j +ₙ t) * pow v j ≡ pow w t
    power_quotient j t = ap (λ z. z * pow v j) (power-add R w j t) ∙ solve3 R (λ a b c. a :* b :* c) (λ a b c. a :* c :* b) refl (pow w j) (pow w t) (pow v j) ∙ ap (λ z. z * pow w t) (powers_inverse j) ∙ R.one_mul (pow w t)

    -- v^t - 1 has an inverse where w^t - 1 has
    pub inverse_difference : (t : ℕ) → Unit_of (pow w t - 𝟙) → Unit_of (pow v t - 𝟙)
    inverse_difference t u = unit_of_divisor R (pow v t - 𝟙) (pow w t - 𝟙) (neg (pow w t), solve1 R (λ a. a :- :1) (λ a. minus (:1 :- a)) refl (pow w t) ∙ ap (λ z. neg (z - pow w t)) (sym (powers_inverse t)) ∙ solve2 R (λ a b. minus (a :* b :- a)) (λ a b. (b :- :1) :* minus a) refl (pow w t) (pow v t)) u

  -- two powers of a root whose exponents differ by less than m differ by an element with an inverse
  pub root_apart : (w v : R.Carrier) (m : ℕ) → w * v ≡ 𝟙 → IsRoot R.ops w m → (i j : ℕ) → j < i → i < j +ₙ m → Unit_of (pow w i - pow w j)
  root_apart w v m e h i j k l = subst Unit_of whole (unit_product R (pow w j) (pow w (i -ₙ j) - 𝟙) (power_unit w v e j) (root_differences w m h (i -ₙ j) (omega arith) (omega arith)))
    where
      fill : i ≡ j +ₙ (i -ₙ j)
      fill = omega arith

      whole : pow w j * (pow w (i -ₙ j) - 𝟙) ≡ pow w i - pow w j
      whole = solve2 R (λ a b. a :* (b :- :1)) (λ a b. a :* b :- a) refl (pow w j) (pow w (i -ₙ j)) ∙ ap (λ z. z - pow w j) (sym (power-add R w j (i -ₙ j)) ∙ sym (ap (pow w) fill))

  -- a power of a root with a unit as its exponent is a root
  pub unit_root : (w : R.Carrier) (m j : ℕ) → 0 < m → HasInverse m j → IsRoot R.ops w m → IsRoot R.ops (pow w j) m
  unit_root w m j p unit h = record { root = root_power w m j h.root; at_divisors = λ k q l d. subst (λ z. Unit_of (z - 𝟙)) (sym (reduce k)) (root_differences w m h ((j *ₙ k) % m) (positive k q l) (mod-lt (j *ₙ k) p)) }
    where
      reduce : (k : ℕ) → pow (pow w j) k ≡ pow w ((j *ₙ k) % m)
      reduce k = sym (power-mul R w j k) ∙ ap (pow w) (sym (div-add-mod' (j *ₙ k) m) ∙ ap (λ z. z +ₙ (j *ₙ k) % m) (mul_comm ((j *ₙ k) / m) m)) ∙ root-shift w m ((j *ₙ k) / m) ((j *ₙ k) % m) h.root

      positive : (k : ℕ) → 0 < k → k < m → 0 < (j *ₙ k) % m
      positive k q l = go (cases_lt 0 ((j *ₙ k) % m))
        where
          go : (0 < (j *ₙ k) % m) ⊎ ((j *ₙ k) % m ≤ 0) → 0 < (j *ₙ k) % m
          go (inl s) = s
          go (inr s) = absurd (larger_no m k q l (unit_cancels m j k unit (divisor_of_test m (j *ₙ k) (eq-eqb ((j *ₙ k) % m) 0 (omega arith)))))

  -- the sum of the powers of another root is 0
  pub root_sum : (r : R.Carrier) (m : ℕ) → pow r m ≡ 𝟙 → Unit_of (r - 𝟙) → geometric R.ops r m ≡ 𝟘
  root_sum r m e u = unit_cancel R (r - 𝟙) (geometric R.ops r m) 𝟘 u (geometric_is R r m ∙ ap (λ z. z - 𝟙) e ∙ solve1 R (λ a. :1 :- :1) (λ a. (a :- :1) :* :0) refl r)

  module _ (w v : R.Carrier) (m : ℕ) (inverse : w * v ≡ 𝟙) (root : pow w m ≡ 𝟙) (differ : (t : ℕ) → 0 < t → t < m → Unit_of (pow w t - 𝟙)) where
    -- the sum over j < m of w^(j i) v^(k j)
    abbrev inner : ℕ → ℕ → R.Carrier
    inner i k = total (adds R.ops) m (λ j. pow w (j *ₙ i) * pow v (k *ₙ j))

    inner_geometric : (i k : ℕ) → inner i k ≡ geometric R.ops (pow w i * pow v k) m
    inner_geometric i k = total_cong (adds R.ops) (add_laws R) m (λ j. pow w (j *ₙ i) * pow v (k *ₙ j)) (λ j. pow (pow w i * pow v k) j) (λ j l. ap₂ (λ y z. y * z) (ap (pow w) (mul_comm j i) ∙ power-mul R w i j) (power-mul R v k j) ∙ sym (power-product R (pow w i) (pow v k) j))

    ratio_root : (i k : ℕ) → pow (pow w i * pow v k) m ≡ 𝟙
    ratio_root i k = power-product R (pow w i) (pow v k) m ∙ ap₂ (λ y z. y * z) (root_power w m i root) (root_power v m k (inverse_root w v inverse m root)) ∙ R.one_mul 𝟙

    ratio_differs : (i k : ℕ) → i < m → k < m → (i < k) ⊎ (k < i) → Unit_of (pow w i * pow v k - 𝟙)
    ratio_differs i k l n (inr s) = subst (λ z. Unit_of (z - 𝟙)) (sym (power_quotient w v inverse k (i -ₙ k)) ∙ ap (λ z. pow w z * pow v k) (let e : k +ₙ (i -ₙ k) ≡ i = omega arith in e)) (differ (i -ₙ k) (omega arith) (omega arith))
    ratio_differs i k l n (inl s) = subst (λ z. Unit_of (z - 𝟙)) (sym (power_quotient v w (R.mul_comm v w ∙ inverse) i (k -ₙ i)) ∙ ap (λ z. pow v z * pow w i) (let e : i +ₙ (k -ₙ i) ≡ k = omega arith in e) ∙ R.mul_comm (pow v k) (pow w i)) (inverse_difference w v inverse (k -ₙ i) (differ (k -ₙ i) (omega arith) (omega arith)))

    inner_other : (i k : ℕ) → i < m → k < m → i ≢ k → inner i k ≡ 𝟘
    inner_other i k l n d = inner_geometric i k ∙ root_sum (pow w i * pow v k) m (ratio_root i k) (ratio_differs i k l n (go (cases_order i k)))
      where
        go : (i ≡ k) ⊎ ((i < k) ⊎ (k < i)) → (i < k) ⊎ (k < i)
        go (inl e) = absurd (d e)
        go (inr s) = s

    inner_own : (k : ℕ) → inner k k ≡ number R.ops m
    inner_own k = inner_geometric k k ∙ ap (λ z. geometric R.ops z m) (powers_inverse w v inverse k) ∙ geometric_one R m

    -- the transform by the inverse root turns the transform back, up to the number m
    pub transform_back : (a : ℕ → R.Carrier) (k : ℕ) → k < m → transform R.ops v m (transform R.ops w m a) k ≡ a k * number R.ops m
    transform_back a k l =
        total_cong (adds R.ops) (add_laws R) m (λ j. transform R.ops w m a j * pow v (k *ₙ j)) (λ j. total (adds R.ops) m (λ i. term i j)) (λ j q. total-mul R m (λ i. a i * pow w (j *ₙ i)) (pow v (k *ₙ j)))
        ∙ total_exchange (adds R.ops) (add_laws R) m m (λ j i. term i j)
        ∙ total_cong (adds R.ops) (add_laws R) m (λ i. total (adds R.ops) m (term i)) (λ i. a i * inner i k) (λ i q. total_cong (adds R.ops) (add_laws R) m (term i) (λ j. a i * (pow w (j *ₙ i) * pow v (k *ₙ j))) (λ j p. R.mul_assoc (a i) (pow w (j *ₙ i)) (pow v (k *ₙ j))) ∙ sym (mul-total R m (λ j. pow w (j *ₙ i) * pow v (k *ₙ j)) (a i)))
        ∙ total_single (adds R.ops) (add_laws R) m k (λ i. a i * inner i k) l (λ i q d. ap (λ z. a i * z) (inner_other i k q l d) ∙ mul_zero R (a i))
        ∙ ap (λ z. a k * z) (inner_own k)
      where
        term : ℕ → ℕ → R.Carrier
        term i j = a i * pow w (j *ₙ i) * pow v (k *ₙ j)

  -- and the other way round
  pub transform_forth : (w v : R.Carrier) (m : ℕ) → w * v ≡ 𝟙 → IsRoot R.ops w m → (b : ℕ → R.Carrier) (j : ℕ) → j < m → transform R.ops w m (transform R.ops v m b) j ≡ b j * number R.ops m
  transform_forth w v m e h b j l = transform_back v w m (R.mul_comm v w ∙ e) (inverse_root w v e m h.root) (λ t p q. inverse_difference w v e t (root_differences w m h t p q)) b j l
