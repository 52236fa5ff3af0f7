-- The strides of Phi_(k p) out of those of Phi_k.
use Rattle.std.specs.Prelude.{◌≡◌, ℕ, zero, suc, ◌*◌, ◌%◌, ◌^◌, ◌<◌, ◌≤◌, List, [], ◌∷◌, ◌++◌, map}
use Rattle.std.specs.List.{All}
use Rattle.std.proofs.Common.{arith, mul_comm, eq-eqb, eqb-true}
use Rattle.std.proofs.lemmas.Bool.{false_from_ne_true}
use Rattle.std.proofs.lemmas.List.Elements.{All-append, All-map}
use Rattle.std.proofs.Math.Nat.{mul-le-mul_left}
use Rattle.algebra.specs.Divisor.{is_divisor}
use Rattle.cyclo_poly.specs.Primes.{IsPrime}
use Rattle.cyclo_poly.specs.Strides.{AreStrides}
use Rattle.cyclo_poly.proofs.StrideLaw.{AllPositive, AllHigh, strides_one, are_strides, law_of, strides_yes, strides_no}

pub strides_first : AreStrides 1 (1 ∷ []) []
strides_first = are_strides 1 (1 ∷ []) [] one none high (λ i d l. absurd (omega arith)) strides_one
  where
    none : AllPositive []
    none i d l = absurd (omega arith)

    one : AllPositive (1 ∷ [])
    one zero d l = omega arith
    one (suc i) d l = absurd (omega arith)

    high : AllHigh 1 (1 ∷ [])
    high zero d l = omega arith
    high (suc i) d l = absurd (omega arith)

positive_map : (p : ℕ) (js : List ℕ) → AllPositive js → AllPositive (map (λ j. suc p * j) js)
positive_map p js h = All-map (λ j. 0 < j) (λ j. suc p * j) js (λ i d l. large _ (h i d l))
  where
    large : (j : ℕ) → 0 < j → 0 < suc p * j
    large zero q = absurd (omega arith)
    large (suc j) q = omega arith

high_map : (p k : ℕ) (js : List ℕ) → AllHigh k js → AllHigh (suc p * k) (map (λ j. suc p * j) js)
high_map p k js h = All-map (λ j. j ≤ suc p * k) (λ j. suc p * j) js (λ i d l. mul-le-mul_left (suc p) (h i d l))

higher : (p k : ℕ) (js : List ℕ) → AllHigh k js → AllHigh (suc p * k) js
higher p k js h i d l = omega (arith, h i d l)

pub next_strides_yes : (k p : ℕ) (a b a' b' : List ℕ) → 0 < k → IsPrime p → k % p ≡ 0 → a' ≡ map (λ j. p * j) a → b' ≡ map (λ j. p * j) b → AreStrides k a b → AreStrides (k * p) a' b'
next_strides_yes zero p a b a' b' l prime e f g S = absurd (omega arith)
next_strides_yes (suc k) zero a b a' b' l prime e f g S = absurd (omega (arith, prime.above))
next_strides_yes (suc k) (suc p) a b a' b' l prime e f g S = rw (f, g, mul_comm (suc k) (suc p)) (are_strides (suc p * suc k) (map (λ j. suc p * j) a) (map (λ j. suc p * j) b) (positive_map p a S.above_positive) (positive_map p b S.below_positive) (high_map p (suc k) a S.above_high) (high_map p (suc k) b S.below_high) (strides_yes p prime k (eq-eqb (suc k % suc p) 0 e) a b (law_of (suc k) a b S)))

pub next_strides_no : (k p : ℕ) (a b a' b' : List ℕ) → 0 < k → IsPrime p → (k % p ≡ 0 → ⊥) → a' ≡ map (λ j. p * j) a ++ b → b' ≡ map (λ j. p * j) b ++ a → AreStrides k a b → AreStrides (k * p) a' b'
next_strides_no zero p a b a' b' l prime n f g S = absurd (omega arith)
next_strides_no (suc k) zero a b a' b' l prime n f g S = absurd (omega (arith, prime.above))
next_strides_no (suc k) (suc p) a b a' b' l prime n f g S = rw (f, g, mul_comm (suc k) (suc p)) (are_strides (suc p * suc k) (map (λ j. suc p * j) a ++ b) (map (λ j. suc p * j) b ++ a) (All-append (λ j. 0 < j) (map (λ j. suc p * j) a) b (positive_map p a S.above_positive) S.below_positive) (All-append (λ j. 0 < j) (map (λ j. suc p * j) b) a (positive_map p b S.below_positive) S.above_positive) (All-append (λ j. j ≤ suc p * suc k) (map (λ j. suc p * j) a) b (high_map p (suc k) a S.above_high) (higher p (suc k) b S.below_high)) (All-append (λ j. j ≤ suc p * suc k) (map (λ j. suc p * j) b) a (high_map p (suc k) b S.below_high) (higher p (suc k) a S.above_high)) (strides_no p prime k (false_from_ne_true (is_divisor (suc p) (suc k)) (λ e. n (eqb-true (suc k % suc p) 0 e))) a b (law_of (suc k) a b S)))

-- the multiples of small strides are small
pub multiples_fit : (k p : ℕ) (js : List ℕ) → k * p ≤ 2 ^ 16 → AllHigh k js → All (λ j. p * j < 2 ^ 32) js
multiples_fit k p js s h i d l = omega (arith, s, mul-le-mul_left p (h i d l), mul_comm k p)
