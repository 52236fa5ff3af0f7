-- A cyclotomic family in any ring with an element x and monic elements: each product over divisors divides,
-- so that the family goes on, and there is only one.
use Rattle.std.specs.Prelude.{◌≡◌, ℕ, zero, suc, ◌+◌ as ◌+ₙ◌, ◌-◌ as ◌-ₙ◌, ◌*◌ as ◌*ₙ◌, ◌<◌, ◌≤◌, ◌⊎◌, true, false, cond, refl}
use Rattle.std.proofs.Common.{sym, ◌∙◌, ap, ap₂, subst, inl, inr, arith, eq-or-lt_of_le, zero-lt-suc, mul_comm, mul-pos}
use Rattle.algebra.specs.Ring.{CommRing}
use Rattle.algebra.specs.Range.{total, muls}
use Rattle.algebra.specs.Power.{less, power, geometric, number, Divides, Meets}
use Rattle.algebra.specs.Divisor.{Dvd, is_divisor}
use Rattle.algebra.proofs.Basic.{mul_one}
use Rattle.algebra.proofs.Divisors.{divisor_cases, divisor_yes, divisor_no, larger_no, Dvd_refl, Dvd_trans, Dvd_positive, Dvd_le}
use Rattle.algebra.proofs.Euclid.{Euclid, euclid}
use Rattle.algebra.proofs.Ranges.{total_cong, total_units, total-op, total_split, mul_laws}
use Rattle.algebra.proofs.Powers.{Divides_trans, Meets_sym, Meets_product, number-mul, product_divides, divides_other, power-mul, geometric_is, power_divides, meets_in_number}
use Rattle.algebra.specs.Expression.{◌:*◌, ◌:+◌, :0, :1}
use Rattle.algebra.proofs.Solver.{solve2}
use Rattle.cyclotomic.specs.Family.{part, over_divisors, IsProductAt}

-- what is asked of the monic elements
pub record Monics (P : CommRing) (x : P.Carrier) : Type 1 where
  pub IsMonic : P.Carrier → Type 0
  pub monic_one : IsMonic P.one
  pub monic_mul : (a b : P.Carrier) → IsMonic a → IsMonic b → IsMonic (P.mul a b)
  pub monic_power : (n : ℕ) → 0 < n → IsMonic (less P.ops (power P.ops x n) P.one)
  pub cancel : (g h k : P.Carrier) → IsMonic g → P.mul g h ≡ P.mul g k → h ≡ k
  pub exact : (g f : P.Carrier) (n : ℕ) → IsMonic g → IsMonic f → 0 < n → Divides P.ops g (P.mul (number P.ops n) f) → Divides P.ops g f
  pub monic_factor : (g h : P.Carrier) → IsMonic g → IsMonic (P.mul g h) → IsMonic h

module _ (P : CommRing) where
  open P use {add as ◌+◌, mul as ◌*◌, zero as 𝟘, one as 𝟙}

  infixl 70 ◌+◌
  infixl 75 ◌*◌
  -- a and b meet in a number above 0
  abbrev pub Coprime : P.Carrier → P.Carrier → Type 0
  Coprime a b = (n : ℕ) × (0 < n) × Meets P.ops a b (number P.ops n)

  pub Coprime_sym : (a b : P.Carrier) → Coprime a b → Coprime b a
  Coprime_sym a b c = (c.0, c.1, Meets_sym P a b (number P.ops c.0) c.2)

  pub Coprime_one : (b : P.Carrier) → Coprime 𝟙 b
  Coprime_one b = (1, zero-lt-suc 0, (𝟙, 𝟘, solve2 P (λ b c. :0 :+ :1) (λ b c. :1 :* :1 :+ :0 :* b) refl b b))

  pub Coprime_product : (a b c : P.Carrier) → Coprime a c → Coprime b c → Coprime (a * b) c
  Coprime_product a b c l r = (l.0 *ₙ r.0, mul-pos l.1 r.1, subst (Meets P.ops (a * b) c) (sym (number-mul P l.0 r.0)) (Meets_product P a b c (number P.ops l.0) (number P.ops r.0) l.2 r.2))

module _ (P : CommRing) (x : P.Carrier) (phi : ℕ → P.Carrier) where
  open P use {mul as ◌*◌, one as 𝟙}

  infixl 75 ◌*◌
  abbrev at : ℕ → ℕ → P.Carrier
  at m i = part P.ops phi m i

  pub part_yes : (m i : ℕ) → Dvd (suc i) m → at m i ≡ phi (suc i)
  part_yes m i d = ap (λ b. cond b (phi (suc i)) 𝟙) (divisor_yes (suc i) m d)

  pub part_no : (m i : ℕ) → (Dvd (suc i) m → ⊥) → at m i ≡ 𝟙
  part_no m i d = ap (λ b. cond b (phi (suc i)) 𝟙) (divisor_no (suc i) m d)

  -- what holds of phi at the divisors, and of one, holds of each part
  pub by_part : (Q : P.Carrier → Type 0) (m i : ℕ) → (Dvd (suc i) m → Q (phi (suc i))) → Q 𝟙 → Q (at m i)
  by_part Q m i yes_case no_case = go (divisor_cases (suc i) m)
    where
      go : ((is_divisor (suc i) m ≡ true) × Dvd (suc i) m) ⊎ ((is_divisor (suc i) m ≡ false) × (Dvd (suc i) m → ⊥)) → Q (at m i)
      go (inl (t, d)) = subst Q (sym (part_yes m i d)) (yes_case d)
      go (inr (f, n)) = subst Q (sym (part_no m i n)) no_case

  -- the last part at m is phi m
  pub own_part : (k : ℕ) → at (suc k) k ≡ phi (suc k)
  own_part k = part_yes (suc k) k (Dvd_refl (suc k))

  -- a member divides its power of x less one
  pub member_divides : (k : ℕ) → IsProductAt P.ops x phi (suc k) → Divides P.ops (phi (suc k)) (less P.ops (power P.ops x (suc k)) 𝟙)
  member_divides k law = (over_divisors P.ops phi (suc k) k, sym law ∙ ap (λ z. over_divisors P.ops phi (suc k) k * z) (own_part k) ∙ P.mul_comm (over_divisors P.ops phi (suc k) k) (phi (suc k)))

  -- numbers above g give no part at g
  pub no_more : (g n : ℕ) → 0 < g → over_divisors P.ops phi g (g +ₙ n) ≡ over_divisors P.ops phi g g
  no_more g n p = total_split (muls P.ops) (mul_laws P) g n (at g) ∙ ap (λ z. over_divisors P.ops phi g g * z) (total_units (muls P.ops) (mul_laws P) n (λ i. at g (g +ₙ i)) (λ i l. part_no g (g +ₙ i) (larger_no (suc (g +ₙ i)) g p (omega arith)))) ∙ mul_one P (over_divisors P.ops phi g g)

module _ (P : CommRing) (x : P.Carrier) (M : Monics P x) (phi : ℕ → P.Carrier) where
  open P use {mul as ◌*◌, one as 𝟙}

  infixl 75 ◌*◌
  abbrev minus : ℕ → P.Carrier
  minus m = less P.ops (power P.ops x m) 𝟙

  abbrev upto : ℕ → ℕ → P.Carrier
  upto m n = over_divisors P.ops phi m n

  -- a family up to n
  pub record Good (n : ℕ) : Type 0 where
    pub law : (k : ℕ) → k < n → IsProductAt P.ops x phi (suc k)
    pub monic : (k : ℕ) → k < n → M.IsMonic (phi (suc k))

  -- phi m divides 1 + x^g + .. + x^(m - g), for a divisor g of m below m
  phi_divides_geometric : (n k g j : ℕ) → Good n → k < n → 0 < g → g < suc k → suc k ≡ g *ₙ j → Divides P.ops (phi (suc k)) (geometric P.ops (power P.ops x g) j)
  phi_divides_geometric n k g j G l p less_g e = (total (muls P.ops) k rest, M.cancel (minus g) (geometric P.ops (power P.ops x g) j) (phi (suc k) * total (muls P.ops) k rest) (M.monic_power g p) (geometric_is P (power P.ops x g) j ∙ ap (λ z. less P.ops z 𝟙) (sym (power-mul P x g j)) ∙ ap minus (sym e) ∙ sym (G.law k l) ∙ split ∙ ap₂ (λ y z. y * z) smaller last))
    where
      g_divides : Dvd g (suc k)
      g_divides = (j, e ∙ mul_comm g j)

      rest : ℕ → P.Carrier
      rest i = cond (is_divisor (suc i) g) 𝟙 (part P.ops phi (suc k) i)

      -- the part at m is the part at g, or what is left
      parts : (i : ℕ) → part P.ops phi (suc k) i ≡ part P.ops phi g i * rest i
      parts i = go (divisor_cases (suc i) g)
        where
          go : ((is_divisor (suc i) g ≡ true) × Dvd (suc i) g) ⊎ ((is_divisor (suc i) g ≡ false) × (Dvd (suc i) g → ⊥)) → part P.ops phi (suc k) i ≡ part P.ops phi g i * rest i
          go (inl (t, d)) = part_yes P x phi (suc k) i (Dvd_trans (suc i) g (suc k) d g_divides) ∙ sym (mul_one P (phi (suc i))) ∙ sym (ap (λ b. cond b (phi (suc i)) 𝟙 * cond b 𝟙 (part P.ops phi (suc k) i)) t)
          go (inr (f, d)) = sym (P.one_mul (part P.ops phi (suc k) i)) ∙ sym (ap (λ b. cond b (phi (suc i)) 𝟙 * cond b 𝟙 (part P.ops phi (suc k) i)) f)

      split : upto (suc k) (suc k) ≡ upto g (suc k) * total (muls P.ops) (suc k) rest
      split = total_cong (muls P.ops) (mul_laws P) (suc k) (part P.ops phi (suc k)) (λ i. part P.ops phi g i * rest i) (λ i q. parts i) ∙ total-op (muls P.ops) (mul_laws P) (suc k) (part P.ops phi g) rest

      smaller : upto g (suc k) ≡ minus g
      smaller = ap (upto g) fill ∙ no_more P x phi g (suc k -ₙ g) p ∙ below g p less_g
        where
          fill : suc k ≡ g +ₙ (suc k -ₙ g)
          fill = omega arith

          below : (g : ℕ) → 0 < g → g < suc k → upto g g ≡ minus g
          below zero p q = absurd (omega arith)
          below (suc h) p q = G.law h (omega arith)

      last : total (muls P.ops) (suc k) rest ≡ phi (suc k) * total (muls P.ops) k rest
      last = ap (λ z. total (muls P.ops) k rest * z) (ap (λ b. cond b 𝟙 (part P.ops phi (suc k) k)) (divisor_no (suc k) g (larger_no (suc k) g p less_g)) ∙ own_part P x phi k) ∙ P.mul_comm (total (muls P.ops) k rest) (phi (suc k))

  -- where m does not divide e, phi m is coprime to each divisor of x^e - 1
  pub phi_coprime : (n k e : ℕ) (b : P.Carrier) → Good n → k < n → 0 < e → (Dvd (suc k) e → ⊥) → Divides P.ops b (minus e) → Coprime P (phi (suc k)) b
  phi_coprime n k e b G l q no_divisor d = (E.of_a, positive, meets_in_number P x (phi (suc k)) b E.g E.of_a e E.u E.v (phi_divides_geometric n k E.g E.of_a G l g_positive smaller product) d sum)
    where
      E : Euclid (suc k) e
      E = euclid (suc k) e (zero-lt-suc k) q

      product : suc k ≡ E.g *ₙ E.of_a
      product = E.divides_a ∙ mul_comm E.of_a E.g

      g_divides : Dvd E.g (suc k)
      g_divides = (E.of_a, E.divides_a)

      g_positive : 0 < E.g
      g_positive = Dvd_positive E.g (suc k) (zero-lt-suc k) g_divides

      positive : 0 < E.of_a
      positive = Dvd_positive E.of_a (suc k) (zero-lt-suc k) (E.g, product)

      smaller : E.g < suc k
      smaller = go (eq-or-lt_of_le (Dvd_le E.g (suc k) (zero-lt-suc k) g_divides))
        where
          go : (E.g ≡ suc k) ⊎ (E.g < suc k) → E.g < suc k
          go (inl s) = absurd (no_divisor (subst (λ z. Dvd z e) s (E.of_b, E.divides_b)))
          go (inr s) = s

      sum : E.g *ₙ E.of_a *ₙ E.u ≡ e *ₙ E.v +ₙ E.g
      sum = ap (λ z. z *ₙ E.u) (sym product) ∙ mul_comm (suc k) E.u ∙ E.sum ∙ ap (λ z. z +ₙ E.g) (mul_comm E.v e)

  pub phi_divides_power : (n k : ℕ) → Good n → k < n → Divides P.ops (phi (suc k)) (minus (suc k))
  phi_divides_power n k G l = member_divides P x phi k (G.law k l)

  -- a monic g that divides a b and is coprime to a divides b
  pub divides_rest : (g a b : P.Carrier) → M.IsMonic g → M.IsMonic b → Coprime P g a → Divides P.ops g (a * b) → Divides P.ops g b
  divides_rest g a b mg mb c d = M.exact g b c.0 mg mb c.1 (divides_other P g a b (number P.ops c.0) d c.2)

  pub partial_coprime : (n m j i : ℕ) → Good n → j < n → i ≤ j → Coprime P (upto m i) (phi (suc j))
  partial_coprime n m j zero G l p = Coprime_one P (phi (suc j))
  partial_coprime n m j (suc i) G l p = Coprime_product P (upto m i) (part P.ops phi m i) (phi (suc j)) (partial_coprime n m j i G l (omega arith)) (by_part P x phi (λ z. Coprime P z (phi (suc j))) m i (λ d. apart) (Coprime_one P (phi (suc j))))
    where
      apart : Coprime P (phi (suc i)) (phi (suc j))
      apart = Coprime_sym P (phi (suc j)) (phi (suc i)) (phi_coprime n j (suc i) (phi (suc i)) G l (zero-lt-suc i) (larger_no (suc j) (suc i) (zero-lt-suc i) (omega arith)) (phi_divides_power n i G (omega arith)))

  pub partial_monic : (n m i : ℕ) → Good n → i ≤ n → M.IsMonic (upto m i)
  partial_monic n m zero G p = M.monic_one
  partial_monic n m (suc i) G p = M.monic_mul (upto m i) (part P.ops phi m i) (partial_monic n m i G (omega arith)) (by_part P x phi M.IsMonic m i (λ d. G.monic i (omega arith)) M.monic_one)

  -- the product over the divisors up to j of m divides x^m - 1
  pub partial_divides : (n m j : ℕ) → Good n → 0 < m → j ≤ n → Divides P.ops (upto m j) (minus m)
  partial_divides n m zero G q p = (minus m, sym (P.one_mul (minus m)))
  partial_divides n m (suc j) G q p = go (divisor_cases (suc j) m) (partial_divides n m j G q (omega arith))
    where
      go : ((is_divisor (suc j) m ≡ true) × Dvd (suc j) m) ⊎ ((is_divisor (suc j) m ≡ false) × (Dvd (suc j) m → ⊥)) → Divides P.ops (upto m j) (minus m) → Divides P.ops (upto m j * part P.ops phi m j) (minus m)
      go (inr (f, d)) r = subst (λ z. Divides P.ops z (minus m)) (sym (ap (λ z. upto m j * z) (part_no P x phi m j d) ∙ mul_one P (upto m j))) r
      go (inl (t, d)) r = subst (λ z. Divides P.ops (upto m j * z) (minus m)) (sym (part_yes P x phi m j d)) (M.exact (upto m j * phi (suc j)) (minus m) C.0 (M.monic_mul (upto m j) (phi (suc j)) (partial_monic n m j G (omega arith)) (G.monic j (omega arith))) (M.monic_power m q) C.1 (product_divides P (upto m j) (phi (suc j)) (minus m) (number P.ops C.0) r own C.2))
        where
          C : Coprime P (upto m j) (phi (suc j))
          C = partial_coprime n m j j G (omega arith) (omega arith)

          own : Divides P.ops (phi (suc j)) (minus m)
          own = Divides_trans P (phi (suc j)) (minus (suc j)) (minus m) (phi_divides_power n j G (omega arith)) (subst (λ z. Divides P.ops (minus (suc j)) (minus z)) (mul_comm (suc j) d.0 ∙ sym d.1) (power_divides P x (suc j) d.0))

  -- so the family goes on by the quotient
  pub family_next : (n : ℕ) → Good n → upto (suc n) n * phi (suc n) ≡ minus (suc n) → Good (suc n)
  family_next n G e = record { law = λ k l. law k (eq-or-lt_of_le (under l)); monic = λ k l. monic k (eq-or-lt_of_le (under l)) }
    where
      under : {k : ℕ} → k < suc n → k ≤ n
      under l = omega arith

      law : (k : ℕ) → (k ≡ n) ⊎ (k < n) → IsProductAt P.ops x phi (suc k)
      law k (inl s) = subst (λ k. IsProductAt P.ops x phi (suc k)) (sym s) (ap (λ z. upto (suc n) n * z) (own_part P x phi n) ∙ e)
      law k (inr l) = G.law k l

      monic : (k : ℕ) → (k ≡ n) ⊎ (k < n) → M.IsMonic (phi (suc k))
      monic k (inl s) = subst (λ k. M.IsMonic (phi (suc k))) (sym s) (M.monic_factor (upto (suc n) n) (phi (suc n)) (partial_monic n (suc n) n G (omega arith)) (subst M.IsMonic (sym e) (M.monic_power (suc n) (zero-lt-suc n))))
      monic k (inr l) = G.monic k l

  -- any family with the same products is this one
  pub only_family : (n : ℕ) (psi : ℕ → P.Carrier) → Good n → ((k : ℕ) → k < n → IsProductAt P.ops x psi (suc k)) → (k : ℕ) → k < n → psi (suc k) ≡ phi (suc k)
  only_family n psi G h k l = below n (omega arith) k l
    where
      below : (j : ℕ) → j ≤ n → (k : ℕ) → k < j → psi (suc k) ≡ phi (suc k)
      below zero p k l = absurd (omega arith)
      below (suc j) p k l = go (below j (omega arith)) (eq-or-lt_of_le (let q : k ≤ j = omega arith in q))
        where
          go : ((k : ℕ) → k < j → psi (suc k) ≡ phi (suc k)) → (k ≡ j) ⊎ (k < j) → psi (suc k) ≡ phi (suc k)
          go r (inr s) = r k s
          go r (inl s) = ap (λ k. psi (suc k)) s ∙ M.cancel (upto (suc j) j) (psi (suc j)) (phi (suc j)) (partial_monic n (suc j) j G (omega arith)) (ap₂ (λ y z. y * z) (sym same) (sym (own_part P x psi j)) ∙ h j (omega arith) ∙ sym (G.law j (omega arith)) ∙ ap (λ z. upto (suc j) j * z) (own_part P x phi j)) ∙ ap (λ k. phi (suc k)) (sym s)
            where
              same : over_divisors P.ops psi (suc j) j ≡ upto (suc j) j
              same = total_cong (muls P.ops) (mul_laws P) j (part P.ops psi (suc j)) (part P.ops phi (suc j)) (λ i q. ap (λ z. cond (is_divisor (suc i) (suc j)) z 𝟙) (r i q))
