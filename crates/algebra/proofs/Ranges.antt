-- Laws of totals over ranges.
use Rattle.std.specs.Prelude.{◌≡◌, ℕ, zero, suc, ◌+◌, ◌-◌, ◌<◌, ◌≤◌, ◌≢◌, ◌⊎◌, refl}
use Rattle.std.proofs.Common.{arith, sym, ◌∙◌, ap, ap₂, inl, inr, eq-or-lt_of_le}
use Rattle.algebra.specs.Ring.{CommRing}
use Rattle.algebra.specs.Range.{Monoid, MonoidLaws, total, adds, muls, counts}
use Rattle.algebra.proofs.Basic.{zero_mul, mul_zero, mul_add}

module _ {C : Type 0} (M : Monoid C) (L : MonoidLaws M) where
  open M use {op as ◌·◌, unit as ε}

  infixl 70 ◌·◌
  pub op_unit : (a : C) → a · ε ≡ a
  op_unit a = L.comm a ε ∙ L.unit_op a

  pub swap : (a b c d : C) → (a · b) · (c · d) ≡ (a · c) · (b · d)
  swap a b c d = L.assoc a b (c · d) ∙ ap (λ z. a · z) (sym (L.assoc b c d) ∙ ap (λ z. z · d) (L.comm b c) ∙ L.assoc c b d) ∙ sym (L.assoc a c (b · d))

  pub total_cong : (n : ℕ) (f g : ℕ → C) → ((i : ℕ) → i < n → f i ≡ g i) → total M n f ≡ total M n g
  total_cong zero f g h = refl
  total_cong (suc n) f g h = ap₂ (λ y z. y · z) (total_cong n f g (λ i l. h i (omega arith))) (h n (omega arith))

  pub total_units : (n : ℕ) (f : ℕ → C) → ((i : ℕ) → i < n → f i ≡ ε) → total M n f ≡ ε
  total_units zero f h = refl
  total_units (suc n) f h = ap₂ (λ y z. y · z) (total_units n f (λ i l. h i (omega arith))) (h n (omega arith)) ∙ L.unit_op ε

  pub total-op : (n : ℕ) (f g : ℕ → C) → total M n (λ i. f i · g i) ≡ total M n f · total M n g
  total-op zero f g = sym (L.unit_op ε)
  total-op (suc n) f g = ap (λ z. z · (f n · g n)) (total-op n f g) ∙ swap (total M n f) (total M n g) (f n) (g n)

  pub total_first : (n : ℕ) (f : ℕ → C) → total M (suc n) f ≡ f zero · total M n (λ i. f (suc i))
  total_first zero f = L.comm ε (f zero)
  total_first (suc n) f = ap (λ z. z · f (suc n)) (total_first n f) ∙ L.assoc (f zero) (total M n (λ i. f (suc i))) (f (suc n))

  pub total_split : (m n : ℕ) (f : ℕ → C) → total M (m + n) f ≡ total M m f · total M n (λ i. f (m + i))
  total_split m zero f = at (m + 0) (omega arith) ∙ sym (op_unit (total M m f))
    where
      at : (k : ℕ) → k ≡ m → total M k f ≡ total M m f
      at k e = ap (λ z. total M z f) e
  total_split m (suc n) f = at (m + suc n) (omega arith) ∙ ap (λ z. z · f (m + n)) (total_split m n f) ∙ L.assoc (total M m f) (total M n (λ i. f (m + i))) (f (m + n))
    where
      at : (k : ℕ) → k ≡ suc (m + n) → total M k f ≡ total M (m + n) f · f (m + n)
      at k e = ap (λ z. total M z f) e

  pub total_exchange : (m n : ℕ) (f : ℕ → ℕ → C) → total M m (λ i. total M n (f i)) ≡ total M n (λ j. total M m (λ i. f i j))
  total_exchange zero n f = sym (total_units n (λ j. ε) (λ i l. refl))
  total_exchange (suc m) n f = ap (λ z. z · total M n (f m)) (total_exchange m n f) ∙ sym (total-op n (λ j. total M m (λ i. f i j)) (f m))

  pub total_reverse : (n : ℕ) (f : ℕ → C) → total M n (λ i. f (n - suc i)) ≡ total M n f
  total_reverse zero f = refl
  total_reverse (suc n) f = total_first n (λ i. f (suc n - suc i)) ∙ ap₂ (λ y z. y · z) (ap f (top n)) (total_cong n (λ i. f (suc n - suc (suc i))) (λ i. f (n - suc i)) (λ i l. ap f (down i)) ∙ total_reverse n f) ∙ L.comm (f n) (total M n f)
    where
      top : (n : ℕ) → suc n - suc zero ≡ n
      top n = omega arith

      down : (i : ℕ) → suc n - suc (suc i) ≡ n - suc i
      down i = omega arith

  -- all terms but the one at k are the unit
  pub total_single : (n k : ℕ) (f : ℕ → C) → k < n → ((i : ℕ) → i < n → i ≢ k → f i ≡ ε) → total M n f ≡ f k
  total_single zero k f l h = absurd (omega arith)
  total_single (suc n) k f l h = go (total_single n k f) (eq-or-lt_of_le (below k l))
    where
      below : (k : ℕ) → k < suc n → k ≤ n
      below k l = omega arith

      go : (k < n → ((i : ℕ) → i < n → i ≢ k → f i ≡ ε) → total M n f ≡ f k) → (k ≡ n) ⊎ (k < n) → total M n f · f n ≡ f k
      go r (inl e) = ap₂ (λ y z. y · z) (total_units n f (λ i m. h i (omega arith) (λ d. omega arith))) (ap f (sym e)) ∙ L.unit_op (f k)
      go r (inr m) = ap₂ (λ y z. y · z) (r m (λ i j d. h i (omega arith) d)) (h n (omega arith) (λ d. omega arith)) ∙ op_unit (f k)

pub count_laws : MonoidLaws counts
count_laws = record { assoc = λ a b d. omega arith; comm = λ a b. omega arith; unit_op = λ a. omega arith }

module _ (R : CommRing) where
  pub add_laws : MonoidLaws (adds R.ops)
  add_laws = record { assoc = R.add_assoc; comm = R.add_comm; unit_op = R.zero_add }

  pub mul_laws : MonoidLaws (muls R.ops)
  mul_laws = record { assoc = R.mul_assoc; comm = R.mul_comm; unit_op = R.one_mul }

  pub total-mul : (n : ℕ) (f : ℕ → R.Carrier) (a : R.Carrier) → R.mul (total (adds R.ops) n f) a ≡ total (adds R.ops) n (λ i. R.mul (f i) a)
  total-mul zero f a = zero_mul R a
  total-mul (suc n) f a = R.add_mul (total (adds R.ops) n f) (f n) a ∙ ap (λ z. R.add z (R.mul (f n) a)) (total-mul n f a)

  pub mul-total : (n : ℕ) (f : ℕ → R.Carrier) (a : R.Carrier) → R.mul a (total (adds R.ops) n f) ≡ total (adds R.ops) n (λ i. R.mul a (f i))
  mul-total zero f a = mul_zero R a
  mul-total (suc n) f a = mul_add R a (total (adds R.ops) n f) (f n) ∙ ap (λ z. R.add z (R.mul a (f n))) (mul-total n f a)
