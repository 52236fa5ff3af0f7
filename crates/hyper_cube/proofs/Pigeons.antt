-- Different numbers that pass a test are at most as many as the numbers that pass; and where they are as many, each of
-- these is among them.
use Rattle.std.specs.Prelude.{◌≡◌, ℕ, zero, suc, ◌<◌, ◌≤◌, ◌⊎◌, Bool, true, false, cond, eqb, not, ◌&&◌, refl}
use Rattle.std.proofs.Common.{arith, sym, ◌∙◌, ap, inl, inr, eq-or-lt_of_le, eqb-true, eq-eqb}
use Rattle.std.proofs.lemmas.Bool.{cases_lt, both_ways, false_from_ne_true}
use Rattle.algebra.specs.Range.{total, counts}
use Rattle.algebra.proofs.Ranges.{count_laws, total_cong}
use Rattle.hyper_cube.specs.Checks.{least}
use Rattle.hyper_cube.proofs.Least.{least_hit, least_before}

abbrev tally : Bool → ℕ
tally b = cond b 1 0

-- how many numbers below m pass
abbrev pub passing : ℕ → (ℕ → Bool) → ℕ
passing m t = total counts m (λ i. cond (t i) 1 0)

-- the test without the number k
abbrev pub without : ℕ → (ℕ → Bool) → ℕ → Bool
without k t i = t i && not (eqb i k)

other : (k : ℕ) (t : ℕ → Bool) (i : ℕ) → (i ≡ k → ⊥) → without k t i ≡ t i
other k t i ne = ap (λ b. t i && not b) (false_from_ne_true (eqb i k) (λ e. ne (eqb-true i k e))) ∙ and-true (t i)
  where
    and-true : (b : Bool) → (b && true) ≡ b
    and-true true = refl
    and-true false = refl

itself : (k : ℕ) (t : ℕ → Bool) (i : ℕ) → i ≡ k → without k t i ≡ false
itself k t i e = ap (λ b. t i && not b) (eq-eqb i k e) ∙ and-false (t i)
  where
    and-false : (b : Bool) → (b && false) ≡ false
    and-false true = refl
    and-false false = refl

-- without one that passes there is one less
pub passing_less : (m k : ℕ) (t : ℕ → Bool) → k < m → t k ≡ true → passing m t ≡ suc (passing m (without k t))
passing_less zero k t l e = absurd (omega arith)
passing_less (suc m) k t l e = go (eq-or-lt_of_le (low k l)) (passing_less m k t)
  where
    low : (k : ℕ) → k < suc m → k ≤ m
    low k l = omega arith

    go : (k ≡ m) ⊎ (k < m) → (k < m → t k ≡ true → passing m t ≡ suc (passing m (without k t))) → passing (suc m) t ≡ suc (passing (suc m) (without k t))
    go (inl s) r = omega (arith, same, here, gone)
      where
        same : passing m t ≡ passing m (without k t)
        same = total_cong counts count_laws m (λ i. tally (t i)) (λ i. tally (without k t i)) (λ i l. ap tally (sym (other k t i (λ f. omega arith))))

        here : tally (t m) ≡ 1
        here = ap tally (ap t (sym s) ∙ e)

        gone : tally (without k t m) ≡ 0
        gone = ap tally (itself k t m (sym s))
    go (inr s) r = omega (arith, r s e, last)
      where
        last : tally (without k t m) ≡ tally (t m)
        last = ap tally (other k t m (λ f. omega arith))

-- n different numbers below m that pass
pub record ArePigeons (n m : ℕ) (f : ℕ → ℕ) (t : ℕ → Bool) : Type 0 where
  pub low : (i : ℕ) → i < n → f i < m
  pub passes : (i : ℕ) → i < n → t (f i) ≡ true
  pub differ : (i j : ℕ) → i < n → j < n → f i ≡ f j → i ≡ j

-- they pass without a number that is none of them
apart : (n m : ℕ) (f : ℕ → ℕ) (t : ℕ → Bool) (k : ℕ) → ArePigeons n m f t → ((i : ℕ) → i < n → f i ≡ k → ⊥) → ArePigeons n m f (without k t)
apart n m f t k h ne = record { low = h.low; passes = λ i l. other k t (f i) (ne i l) ∙ h.passes i l; differ = h.differ }

fewer : (n m : ℕ) (f : ℕ → ℕ) (t : ℕ → Bool) → ArePigeons (suc n) m f t → ArePigeons n m f (without (f n) t)
fewer n m f t h = apart n m f t (f n) (record { low = λ i l. h.low i (omega arith); passes = λ i l. h.passes i (omega arith); differ = λ i j l k. h.differ i j (omega arith) (omega arith) }) (λ i l e. omega (arith, h.differ i n (omega arith) (omega arith) e))

pub pigeons_at_most : (n m : ℕ) (f : ℕ → ℕ) (t : ℕ → Bool) → ArePigeons n m f t → n ≤ passing m t
pigeons_at_most zero m f t h = omega arith
pigeons_at_most (suc n) m f t h = omega (arith, passing_less m (f n) t (h.low n (omega arith)) (h.passes n (omega arith)), pigeons_at_most n m f (without (f n) t) (fewer n m f t h))

-- where they are as many as pass, each that passes is one of them
pub pigeons_all : (n m : ℕ) (f : ℕ → ℕ) (t : ℕ → Bool) → ArePigeons n m f t → n ≡ passing m t → (k : ℕ) → k < m → t k ≡ true → (i : ℕ) × (i < n) × (f i ≡ k)
pigeons_all n m f t h e k l p = go (cases_lt (least n (λ i. eqb (f i) k)) n)
  where
    go : (least n (λ i. eqb (f i) k) < n) ⊎ (n ≤ least n (λ i. eqb (f i) k)) → (i : ℕ) × (i < n) × (f i ≡ k)
    go (inl s) = (least n (λ i. eqb (f i) k), s, eqb-true _ k (least_hit n (λ i. eqb (f i) k) s))
    go (inr s) = absurd (omega (arith, passing_less m k t l p, pigeons_at_most n m f (without k t) (apart n m f t k h none)))
      where
        none : (i : ℕ) → i < n → f i ≡ k → ⊥
        none i j q = both_ways (eqb (f i) k) (least_before n (λ i. eqb (f i) k) i (omega arith)) (eq-eqb (f i) k q)
