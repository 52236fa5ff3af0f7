-- The steps of the functions that compute the cyclotomic polynomials.
use Rattle.std.specs.Prelude.{◌≡◌, ℕ, zero, suc, ◌+◌, ◌-◌, ◌*◌, ◌/◌, ◌%◌, ◌^◌, ◌<◌, ◌≤◌, ◌⊎◌, min, Bool, true, false, cond, eqb, ◌&&◌, List, [], ◌∷◌, ◌++◌, length, replicate, get_or, ℤ, pos, negsuc, ◌+ℤ◌, ◌*ℤ◌, neg_ℤ, nat_abs, Option, Some, None, IfSome, refl}
use Rattle.std.proofs.Common.{sym, ◌∙◌, ap, ap₂, subst, inl, inr, arith, set, eq-or-lt_of_le, mul_comm, eq-eqb, eqb-true}
use Rattle.std.proofs.lemmas.List.{get_or_past, get_or-set_same, get_or-set_other}
use Rattle.std.proofs.lemmas.Bool.{cases_lt, false_from_ne_true}
use Rattle.std.proofs.Math.ListN.{get_or-append}
use Rattle.std.proofs.Math.Seq.{get_or-append_seam}
use Rattle.std.proofs.Math.Nat.{mul-le-mul, div-add-mod}
use Rattle.std.proofs.lemmas.Nat.{div-mul-add}
use Rattle.algebra.specs.Ring.{whole_numbers}
use Rattle.algebra.specs.Range.{total, adds, counts}
use Rattle.algebra.specs.Divisor.{is_divisor, is_unit, number_of_units, common_divisor}
use Rattle.algebra.specs.Series.{product}
use Rattle.algebra.specs.Poly.{coeff, SameCoeffs, times, at_power, remainder, quotient_by, quotient_digits, degree_of, IsMonic}
use Rattle.algebra.proofs.Basic.{add_zero, add_neg, mul_one, zero_mul}
use Rattle.algebra.proofs.Integers.{whole_ring}
use Rattle.algebra.proofs.Divisors.{divisor_yes}
use Rattle.algebra.proofs.Ranges.{total_cong, total_units, total_split, total_first, add_laws}
use Rattle.algebra.proofs.SeriesRing.{product_is}
use Rattle.algebra.proofs.Lists.{same_list, coeff-plus, coeff-times, coeff-at_power}
use Rattle.algebra.proofs.Dividing.{divided, length-quotient_by, length-remainder, coeff-none}
use Rattle.cyclotomic.specs.Cyclotomic.{phi, phis, degree}
use Rattle.cyclotomic.proofs.PhiLists.{phi_monic, phi_degree}
use Rattle.cyclo_poly.specs.Primes.{IsPrime}
use Rattle.cyclo_poly.specs.Tall.{AllSmall}
use Rattle.cyclo_poly.proofs.StrideLaw.{next_yes, next_no}

-- ---- a sum of products, one more
abbrev pub correlation : List ℤ → List ℤ → ℕ → ℕ → ℤ
correlation g c from j = coeff whole_numbers g (length g - 1 - (j + 1)) *ℤ coeff whole_numbers c (from + j)

pub sum_more : (g c : List ℤ) (from j k : ℕ) (sum next x y : ℤ) → k ≡ suc j → x ≡ coeff whole_numbers g (length g - 1 - (j + 1)) → y ≡ coeff whole_numbers c (from + j) → next ≡ sum +ℤ x *ℤ y → sum ≡ total (adds whole_numbers) j (correlation g c from) → next ≡ total (adds whole_numbers) k (correlation g c from)
sum_more g c from j k sum next x y e f h n s = n ∙ ap₂ (λ y z. y +ℤ z) s (ap₂ (λ y z. y *ℤ z) f h) ∙ ap (λ z. total (adds whole_numbers) z (correlation g c from)) (sym e)

-- ---- one coefficient of a quotient
module _ (g a : List ℤ) (M : IsMonic whole_numbers g) where
  abbrev d : ℕ
  d = degree_of whole_numbers g

  abbrev Q : List ℤ
  Q = quotient_by whole_numbers g a

  top_of : (t : ℕ) → product whole_numbers (coeff whole_numbers Q) (coeff whole_numbers g) (t + d) ≡ coeff whole_numbers a (t + d)
  top_of t = sym (add_zero whole_ring (product whole_numbers (coeff whole_numbers Q) (coeff whole_numbers g) (t + d))) ∙ ap₂ (λ y z. y +ℤ z) (sym (coeff-times whole_ring Q g (t + d))) (sym (get_or_past (remainder whole_numbers g a) (t + d) (pos 0) (omega (arith, length-remainder whole_numbers g a)))) ∙ sym (coeff-plus whole_ring (times whole_numbers Q g) (remainder whole_numbers g a) (t + d)) ∙ (divided whole_ring g M a).sum_is (t + d)

  abbrev term : ℕ → ℕ → ℤ
  term t j = coeff whole_numbers Q (t + suc j) *ℤ coeff whole_numbers g (d - suc j)

  terms : (t : ℕ) → product whole_numbers (coeff whole_numbers Q) (coeff whole_numbers g) (t + d) ≡ coeff whole_numbers Q t +ℤ total (adds whole_numbers) d (term t)
  terms t = product_is whole_ring (coeff whole_numbers Q) (coeff whole_numbers g) (t + d) ∙ at (suc (t + d)) (omega arith) ∙ total_split (adds whole_numbers) (add_laws whole_ring) t (suc d) f ∙ ap₂ (λ y z. y +ℤ z) (total_units (adds whole_numbers) (add_laws whole_ring) t f low) (total_first (adds whole_numbers) (add_laws whole_ring) d (λ j. f (t + j)) ∙ ap₂ (λ y z. y +ℤ z) own (total_cong (adds whole_numbers) (add_laws whole_ring) d (λ j. f (t + suc j)) (term t) (λ j l. ap (λ z. coeff whole_numbers Q (t + suc j) *ℤ coeff whole_numbers g z) (index j)))) ∙ whole_ring.zero_add (coeff whole_numbers Q t +ℤ total (adds whole_numbers) d (term t))
    where
      f : ℕ → ℤ
      f j = coeff whole_numbers Q j *ℤ coeff whole_numbers g (t + d - j)

      at : (n : ℕ) → n ≡ t + suc d → total (adds whole_numbers) n f ≡ total (adds whole_numbers) (t + suc d) f
      at n e = ap (λ z. total (adds whole_numbers) z f) e

      low : (j : ℕ) → j < t → f j ≡ pos 0
      low j l = ap (λ z. coeff whole_numbers Q j *ℤ z) (get_or_past g (t + d - j) (pos 0) (omega (arith, M.filled))) ∙ whole_ring.mul_comm (coeff whole_numbers Q j) (pos 0) ∙ none (coeff whole_numbers Q j)
        where
          none : (x : ℤ) → pos 0 *ℤ x ≡ pos 0
          none x = zero_mul whole_ring x

      index : (j : ℕ) → t + d - (t + suc j) ≡ d - suc j
      index j = omega arith

      own : f (t + 0) ≡ coeff whole_numbers Q t
      own = ap₂ (λ y z. coeff whole_numbers Q y *ℤ coeff whole_numbers g z) (let e : t + 0 ≡ t = omega arith in e) (let e : t + d - (t + 0) ≡ d = omega arith in e) ∙ ap (λ z. coeff whole_numbers Q t *ℤ z) M.top ∙ mul_one whole_ring (coeff whole_numbers Q t)

  pub digit_is : (c : List ℤ) (count t u : ℕ) (known : ℤ) → count ≡ length a - degree_of whole_numbers g → length c ≡ count → t < count → t + 1 ≡ u → ((s : ℕ) → u ≤ s → coeff whole_numbers c s ≡ coeff whole_numbers (quotient_by whole_numbers g a) s) → known ≡ total (adds whole_numbers) (min (length g - 1) (length c - u)) (correlation g c u) → coeff whole_numbers (quotient_by whole_numbers g a) t ≡ coeff whole_numbers a (t + degree_of whole_numbers g) +ℤ neg_ℤ known
  digit_is c count t u known e long l up same k = sym (ap₂ (λ y z. y +ℤ neg_ℤ z) (sym (top_of t) ∙ terms t) (k ∙ shorter (min (length g - 1) (length c - u)) (omega arith)) ∙ whole_ring.add_assoc (coeff whole_numbers Q t) (total (adds whole_numbers) d (term t)) (neg_ℤ (total (adds whole_numbers) d (term t))) ∙ ap (λ z. coeff whole_numbers Q t +ℤ z) (add_neg whole_ring (total (adds whole_numbers) d (term t))) ∙ add_zero whole_ring (coeff whole_numbers Q t))
    where
      shorter : (n : ℕ) → n ≡ min (length g - 1) (length c - u) → total (adds whole_numbers) n (correlation g c u) ≡ total (adds whole_numbers) d (term t)
      shorter n f = total_cong (adds whole_numbers) (add_laws whole_ring) n (correlation g c u) (term t) each ∙ sym (split (d - n) (omega (arith, f)))
        where
          split : (r : ℕ) → d ≡ n + r → total (adds whole_numbers) d (term t) ≡ total (adds whole_numbers) n (term t)
          split r h = ap (λ z. total (adds whole_numbers) z (term t)) h ∙ total_split (adds whole_numbers) (add_laws whole_ring) n r (term t) ∙ ap (λ z. total (adds whole_numbers) n (term t) +ℤ z) (total_units (adds whole_numbers) (add_laws whole_ring) r (λ j. term t (n + j)) (λ j m. past j (omega (arith, m, h)))) ∙ add_zero whole_ring (total (adds whole_numbers) n (term t))
            where
              past : (j : ℕ) → n + j < d → term t (n + j) ≡ pos 0
              past j m = ap (λ z. z *ℤ coeff whole_numbers g (d - suc (n + j))) (get_or_past Q (t + suc (n + j)) (pos 0) (omega (arith, f, e, long, up, length-quotient_by whole_numbers g a, m))) ∙ zero_mul whole_ring (coeff whole_numbers g (d - suc (n + j)))

          each : (j : ℕ) → j < n → correlation g c u j ≡ term t j
          each j m = ap₂ (λ y z. y *ℤ z) (ap (coeff whole_numbers g) (let h : d - (j + 1) ≡ d - suc j = omega arith in h)) (same (u + j) (omega arith) ∙ ap (coeff whole_numbers Q) (let h : u + j ≡ t + suc j = omega (arith, up) in h)) ∙ whole_ring.mul_comm (coeff whole_numbers g (d - suc j)) (coeff whole_numbers Q (t + suc j))

  -- the list of the coefficients, one more from the end on
  pub digit_more : (c new : List ℤ) (i t : ℕ) (x : ℤ) → i + 1 ≡ t → i < length c → new ≡ set c i x → x ≡ coeff whole_numbers (quotient_by whole_numbers g a) i → ((s : ℕ) → t ≤ s → coeff whole_numbers c s ≡ coeff whole_numbers (quotient_by whole_numbers g a) s) → (s : ℕ) → i ≤ s → coeff whole_numbers new s ≡ coeff whole_numbers (quotient_by whole_numbers g a) s
  digit_more c new i t x u l e is same s m = go (eq-or-lt_of_le m)
    where
      go : (i ≡ s) ⊎ (i < s) → coeff whole_numbers new s ≡ coeff whole_numbers Q s
      go (inl h) = ap (λ z. coeff whole_numbers new z) (sym h) ∙ ap (λ z. get_or z i (pos 0)) e ∙ get_or-set_same c i x (pos 0) l ∙ is ∙ ap (coeff whole_numbers Q) h
      go (inr h) = ap (λ z. get_or z s (pos 0)) e ∙ get_or-set_other c i s x (pos 0) (λ d. omega arith) ∙ same s (omega arith)

  pub digits_none : (count : ℕ) → count ≡ length a - degree_of whole_numbers g → (s : ℕ) → count ≤ s → coeff whole_numbers (replicate count (pos 0)) s ≡ coeff whole_numbers (quotient_by whole_numbers g a) s
  digits_none count e s m = coeff-none whole_ring count s ∙ sym (get_or_past Q s (pos 0) (omega (arith, length-quotient_by whole_numbers g a, e)))

  pub digits_all : (c : List ℤ) (count t : ℕ) → t ≤ 0 → count ≡ length a - degree_of whole_numbers g → length c ≡ count → ((s : ℕ) → t ≤ s → coeff whole_numbers c s ≡ coeff whole_numbers (quotient_by whole_numbers g a) s) → c ≡ quotient_by whole_numbers g a
  digits_all c count t z e l h = same_list whole_numbers c Q (omega (arith, l, e, length-quotient_by whole_numbers g a)) (λ i. h i (omega arith))

-- ---- f(X^p)
pub spread_at : (p : ℕ) → 0 < p → (f : List ℤ) (i : ℕ) → coeff whole_numbers (at_power whole_numbers p f) i ≡ cond (eqb (i % p) 0) (coeff whole_numbers f (i / p)) (pos 0)
spread_at p l f i = coeff-at_power whole_ring p l f i

pub spread_yes : (p : ℕ) → 0 < p → (f : List ℤ) (i : ℕ) (x : ℤ) → i % p ≡ 0 → x ≡ coeff whole_numbers f (i / p) → x ≡ coeff whole_numbers (at_power whole_numbers p f) i
spread_yes p l f i x e h = h ∙ sym (spread_at p l f i ∙ ap (λ b. cond b (coeff whole_numbers f (i / p)) (pos 0)) (eq-eqb (i % p) 0 e))

pub spread_no : (p : ℕ) → 0 < p → (f : List ℤ) (i : ℕ) (x : ℤ) → (i % p ≡ 0 → ⊥) → x ≡ pos 0 → x ≡ coeff whole_numbers (at_power whole_numbers p f) i
spread_no p l f i x n h = h ∙ sym (spread_at p l f i ∙ ap (λ b. cond b (coeff whole_numbers f (i / p)) (pos 0)) (false_from_ne_true (eqb (i % p) 0) (λ e. n (eqb-true (i % p) 0 e))))

pub spread_all : (p : ℕ) → 0 < p → (f g : List ℤ) (n : ℕ) → 0 < length f → (length f - 1) * p + 1 ≤ n → length g ≡ n → ((j : ℕ) → j < n → coeff whole_numbers g j ≡ coeff whole_numbers (at_power whole_numbers p f) j) → SameCoeffs whole_numbers g (at_power whole_numbers p f)
spread_all p l f g n filled long len same i = go (cases_lt i n)
  where
    at : (b : Bool) → eqb (i % p) 0 ≡ b → n ≤ i → pos 0 ≡ cond b (coeff whole_numbers f (i / p)) (pos 0)
    at false e m = refl
    at true e m = sym (get_or_past f (i / p) (pos 0) (above (i / p) (i % p) (eqb-true (i % p) 0 e) (div-add-mod i p)))
      where
        above : (u r : ℕ) → r ≡ 0 → p * u + r ≡ i → length f ≤ u
        above u r z h = by (cases_lt u (length f))
          where
            by : (u < length f) ⊎ (length f ≤ u) → length f ≤ u
            by (inr s) = s
            by (inl s) = absurd (omega (arith, z, h, long, m, mul-le-mul (let k : u ≤ length f - 1 = omega arith in k) (let k : p ≤ p = omega arith in k)))

    go : (i < n) ⊎ (n ≤ i) → coeff whole_numbers g i ≡ coeff whole_numbers (at_power whole_numbers p f) i
    go (inl m) = same i m
    go (inr m) = get_or_past g i (pos 0) (omega (arith, len)) ∙ at (eqb (i % p) 0) refl m ∙ sym (spread_at p l f i)

pub spread_small : (p : ℕ) → 0 < p → (f g : List ℤ) → SameCoeffs whole_numbers g (at_power whole_numbers p f) → AllSmall f → AllSmall g
spread_small p l f g same h i = subst (λ z. nat_abs z < 2 ^ 31) (sym (same i ∙ spread_at p l f i)) (at (eqb (i % p) 0))
  where
    at : (b : Bool) → nat_abs (cond b (coeff whole_numbers f (i / p)) (pos 0)) < 2 ^ 31
    at true = h (i / p)
    at false = omega arith

-- one place more
pub push_place : (xs ys : List ℤ) (x : ℤ) (n : ℕ) (F : ℕ → ℤ) → ys ≡ xs ++ x ∷ [] → length xs ≡ n → x ≡ F n → ((j : ℕ) → j < n → get_or xs j (pos 0) ≡ F j) → (j : ℕ) → j < n + 1 → get_or ys j (pos 0) ≡ F j
push_place xs ys x n F e l h same j m = go (eq-or-lt_of_le (let k : j ≤ n = omega arith in k))
  where
    go : (j ≡ n) ⊎ (j < n) → get_or ys j (pos 0) ≡ F j
    go (inl d) = ap₂ (λ z i. get_or z i (pos 0)) e (d ∙ sym l) ∙ get_or-append_seam xs x [] (pos 0) ∙ h ∙ ap F (sym d)
    go (inr s) = ap (λ z. get_or z j (pos 0)) e ∙ get_or-append xs (x ∷ []) (pos 0) j (omega (arith, l)) ∙ same j s

-- ---- the members
pub phi_one : phi 1 ≡ negsuc 0 ∷ pos 1 ∷ []
unfolding phi phis times quotient_by quotient_digits remainder
phi_one = refl

pub phi_filled : (k : ℕ) → 0 < k → 0 < length (phi k)
phi_filled zero p = absurd (omega arith)
phi_filled (suc k) p = (phi_monic k).filled

units_le : (m n : ℕ) → total counts n (λ t. cond (is_unit m (suc t)) 1 0) ≤ n
units_le m zero = omega arith
units_le m (suc n) = at (is_unit m (suc n)) (units_le m n)
  where
    at : (b : Bool) → total counts n (λ t. cond (is_unit m (suc t)) 1 0) ≤ n → total counts n (λ t. cond (is_unit m (suc t)) 1 0) + cond b 1 0 ≤ suc n
    at true h = omega (arith, h)
    at false h = omega (arith, h)

pub phi_short : (k : ℕ) → 0 < k → length (phi k) ≤ k + 1
phi_short zero p = absurd (omega arith)
phi_short (suc k) p = at (length (phi (suc k))) (number_of_units (suc k)) (phi_degree k) (units_le (suc k) (suc k))
  where
    at : (l n : ℕ) → l - 1 ≡ n → n ≤ suc k → l ≤ suc k + 1
    at l n e h = omega arith

-- m itself is no unit modulo m, for m above 1
pub degree_less : (k : ℕ) → 0 < k → degree (suc k) ≤ k
degree_less k p = subst (λ z. z ≤ k) (sym (phi_degree k ∙ ap (λ b. total counts k (λ t. cond (is_unit (suc k) (suc t)) 1 0) + cond b 1 0) own)) (omega (arith, units_le (suc k) k))
  where
    self : is_divisor (suc k) (suc k) ≡ true
    self = divisor_yes (suc k) (suc k) (1, omega arith)

    own : is_unit (suc k) (suc k) ≡ false
    own = ap (λ b. eqb (elim (b && b) [ true ↦ suc k | false ↦ common_divisor (suc k) (suc k) k ]) 1) self ∙ false_from_ne_true (eqb (suc k) 1) (λ e. absurd (omega (arith, eqb-true (suc k) 1 e)))

pub member_yes : (k p : ℕ) (f g : List ℤ) → 0 < k → IsPrime p → k % p ≡ 0 → f ≡ phi k → length g ≡ (length f - 1) * p + 1 → SameCoeffs whole_numbers g (at_power whole_numbers p f) → g ≡ phi (k * p)
member_yes zero p f g l prime e is long same = absurd (omega arith)
member_yes (suc k) zero f g l prime e is long same = absurd (omega (arith, prime.above))
member_yes (suc k) (suc p) f g l prime e is long same = next_yes p prime k g (long ∙ ap (λ z. (length z - 1) * suc p + 1) is) (subst (λ z. SameCoeffs whole_numbers g (at_power whole_numbers (suc p) z)) is same) (eq-eqb (suc k % suc p) 0 e) ∙ ap phi (mul_comm (suc p) (suc k))

pub member_no : (k p : ℕ) (f g : List ℤ) → 0 < k → IsPrime p → (k % p ≡ 0 → ⊥) → f ≡ phi k → length g ≡ (length f - 1) * p + 1 → SameCoeffs whole_numbers g (at_power whole_numbers p f) → quotient_by whole_numbers f g ≡ phi (k * p)
member_no zero p f g l prime n is long same = absurd (omega arith)
member_no (suc k) zero f g l prime n is long same = absurd (omega (arith, prime.above))
member_no (suc k) (suc p) f g l prime n is long same = ap (λ z. quotient_by whole_numbers z g) is ∙ sym (next_no p prime k g (long ∙ ap (λ z. (length z - 1) * suc p + 1) is) (subst (λ z. SameCoeffs whole_numbers g (at_power whole_numbers (suc p) z)) is same) (false_from_ne_true (is_divisor (suc p) (suc k)) (λ e. n (eqb-true (suc k % suc p) 0 e)))) ∙ ap phi (mul_comm (suc p) (suc k))

pub member_monic : (k : ℕ) (f : List ℤ) → 0 < k → f ≡ phi k → IsMonic whole_numbers f
member_monic zero f l e = absurd (omega arith)
member_monic (suc k) f l e = subst (IsMonic whole_numbers) (sym e) (phi_monic k)

pub member_length : (k : ℕ) (f : List ℤ) → 0 < k → f ≡ phi k → length f ≤ k + 1
member_length k f l e = subst (λ z. length z ≤ k + 1) (sym e) (phi_short k l)

pub member_fits : (k p : ℕ) (f : List ℤ) → 0 < k → f ≡ phi k → k * p ≤ 2 ^ 16 → (length f - 1) * p < 2 ^ 32
member_fits k p f l e s = omega (arith, s, mul-le-mul (let h : length f - 1 ≤ k = omega (arith, member_length k f l e) in h) (let h : p ≤ p = omega arith in h))

pub factor_le : (k p n : ℕ) → 1 < p → k * p ≤ n → k ≤ n
factor_le k zero n l h = absurd (omega arith)
factor_le k (suc p) n l h = omega (arith, h)

pub small_one : (f : List ℤ) → f ≡ negsuc 0 ∷ pos 1 ∷ [] → AllSmall f
small_one f e = subst AllSmall (sym e) at
  where
    at : AllSmall (negsuc 0 ∷ pos 1 ∷ [])
    at zero = omega arith
    at (suc zero) = omega arith
    at (suc (suc i)) = omega arith

-- one prime factor moves over
pub split_rest : (k rest d p u : ℕ) → k * rest ≡ d → rest ≡ u * p → d ≡ u * (k * p)
split_rest k rest d p u h e = sym h ∙ ap (λ z. k * z) e ∙ over
  where
    over : k * (u * p) ≡ u * (k * p)
    over = omega arith

pub rest_is : (rest p u : ℕ) → 1 < p → rest ≡ u * p → rest / p ≡ u
rest_is rest p u l e = ap (λ z. z / p) (e ∙ (let h : u * p ≡ u * p + 0 = omega arith in h)) ∙ div-mul-add u p 0 (omega arith)

pub next_product : (k rest d p u : ℕ) → 1 < p → k * rest ≡ d → rest ≡ u * p → (k * p) * (rest / p) ≡ d
next_product k rest d p u l h e = ap (λ z. (k * p) * z) (rest_is rest p u l e) ∙ (let f : (k * p) * u ≡ u * (k * p) = omega arith in f) ∙ sym (split_rest k rest d p u h e)

pub next_positive : (rest p u : ℕ) → 1 < p → 0 < rest → rest ≡ u * p → 0 < rest / p
next_positive rest p u l h e = subst (λ z. 0 < z) (sym (rest_is rest p u l e)) (at u e)
  where
    at : (u : ℕ) → rest ≡ u * p → 0 < u
    at zero e = absurd (omega arith)
    at (suc u) e = omega arith

pub next_fits : (k rest d p u : ℕ) → 0 < rest → k * rest ≡ d → rest ≡ u * p → d ≤ 2 ^ 16 → k * p ≤ 2 ^ 16
next_fits k rest d p zero l h e s = absurd (omega arith)
next_fits k rest d p (suc u) l h e s = omega (arith, s, split_rest k rest d p (suc u) h e)

pub some_any : {A : Type 0} (P : Type 0) (o : Option A) → P → IfSome o (λ _. P)
some_any P None h = tt
some_any P (Some x) h = h

pub product_positive : (k p rest d : ℕ) → 0 < d → 1 < p → k * rest ≡ d → 0 < k * p
product_positive zero p rest d l h e = absurd (omega (arith, e))
product_positive (suc k) zero rest d l h e = absurd (omega arith)
product_positive (suc k) (suc p) rest d l h e = omega arith
