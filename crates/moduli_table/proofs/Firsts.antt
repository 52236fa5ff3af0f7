-- The first of some values, and tests of all numbers below one.
use Rattle.std.proofs.Common.{◌≡◌, ℕ, zero, suc, ◌<◌, ◌≤◌, ◌⊎◌, inl, inr, Bool, true, false, Option, None, Some, refl, ap, sym, ◌∙◌, arith, eq-or-lt_of_le}
use Rattle.std.specs.Prelude.{if◌then◌else◌}
use Rattle.std.specs.Option.{option_or, is_some}
use Rattle.std.proofs.lemmas.Bool.{both_ways, and_parts, and_from, false_from_ne_true}
use Rattle.moduli_table.specs.First.{first_below, least_below, all_below}

pub none_or : {A : Type 0} (a b : Option A) → option_or a b ≡ None → (a ≡ None) × (b ≡ None)
none_or None b e = (refl, e)
none_or (Some x) b e = absurd (cc)

module _ {A : Type 0} (f : ℕ → Option A) where
  -- one value more
  pub first_more : (n : ℕ) → first_below n f ≡ None → first_below (suc n) f ≡ f n
  unfolding first_below
  first_more n e = rw e refl

  first_still : (n : ℕ) (x : A) → first_below n f ≡ Some x → first_below (suc n) f ≡ Some x
  unfolding first_below
  first_still n x e = rw e refl

  first_from : (i n : ℕ) (x : A) → i ≤ n → first_below i f ≡ Some x → first_below n f ≡ Some x
  unfolding first_below
  first_from zero zero x l e = e
  first_from (suc i) zero x l e = absurd (omega arith)
  first_from i (suc n) x l e = go (eq-or-lt_of_le l) (λ s. first_from i n x s e)
    where
      go : (i ≡ suc n) ⊎ (i < suc n) → (i ≤ n → first_below n f ≡ Some x) → first_below (suc n) f ≡ Some x
      go (inl s) r = ap (λ k. first_below k f) (sym s) ∙ e
      go (inr s) r = first_still n x (r (omega arith))

  -- the value at i is the first, where there is none before it
  pub first_found : (i n : ℕ) (x : A) → i < n → first_below i f ≡ None → f i ≡ Some x → first_below n f ≡ Some x
  first_found i n x l e h = first_from (suc i) n x l (first_more i e ∙ h)

  pub first_each : (n : ℕ) → first_below n f ≡ None → (i : ℕ) → i < n → f i ≡ None
  unfolding first_below
  first_each zero e i l = absurd (omega arith)
  first_each (suc n) e i l = go (eq-or-lt_of_le l) (first_each n (none_or (first_below n f) (f n) e).0 i)
    where
      go : (suc i ≡ suc n) ⊎ (suc i < suc n) → (i < n → f i ≡ None) → f i ≡ None
      go (inl s) r = ap f (let t : i ≡ n = omega arith in t) ∙ (none_or (first_below n f) (f n) e).1
      go (inr s) r = r (omega arith)

  pub first_none : (n : ℕ) → ((i : ℕ) → i < n → f i ≡ None) → first_below n f ≡ None
  unfolding first_below
  first_none zero h = refl
  first_none (suc n) h = first_more n (first_none n (λ i l. h i (omega arith))) ∙ h n (omega arith)

  -- a value that was found to be there, or not
  pub found_option : (o : Option A) (i n : ℕ) → is_some o ≡ true → o ≡ f i → i < n → first_below i f ≡ None → o ≡ first_below n f
  found_option None i n t h l e = absurd (cc)
  found_option (Some x) i n t h l e = sym (first_found i n x l e (sym h))

  pub none_option : (o : Option A) (i : ℕ) → is_some o ≡ false → o ≡ f i → first_below i f ≡ None → first_below (suc i) f ≡ None
  none_option None i t h e = first_more i e ∙ sym h
  none_option (Some x) i t h e = absurd (cc)

  pub first_end : (i n : ℕ) → i ≡ n → first_below i f ≡ None → first_below n f ≡ None
  first_end i n s e = ap (λ k. first_below k f) (sym s) ∙ e

  -- what the first value is
  pub record IsFirst (n : ℕ) (x : A) : Type 0 where
    pub place : ℕ
    pub within : place < n
    pub value : f place ≡ Some x
    pub before : (j : ℕ) → j < place → f j ≡ None

  pub first_is : (n : ℕ) (x : A) → first_below n f ≡ Some x → IsFirst n x
  unfolding first_below
  first_is zero x e = absurd (cc)
  first_is (suc n) x e = go (first_below n f) refl (first_is n)
    where
      go : (o : Option A) → first_below n f ≡ o → ((y : A) → first_below n f ≡ Some y → IsFirst n y) → IsFirst (suc n) x
      go None h r = record { place = n; within = omega arith; value = sym (first_more n h) ∙ e; before = first_each n h }
      go (Some y) h r = let a = r x (h ∙ sym (first_still n y h) ∙ e) in record { place = a.place; within = omega (arith, a.within); value = a.value; before = a.before }

module _ (test : ℕ → Bool) where
  chosen : (x : ℕ) (b : Bool) → test x ≡ b → (if test x then Some x else None) ≡ (if b then Some x else None)
  chosen x b e = ap (λ c. if c then Some x else None) e

  pub least_is : (n x : ℕ) → x < n → test x ≡ true → ((y : ℕ) → y < x → test y ≡ false) → least_below n test ≡ Some x
  least_is n x l e h = first_found (λ y. if test y then Some y else None) x n x l (first_none (λ y. if test y then Some y else None) x (λ y s. chosen y false (h y s))) (chosen x true e)

  pub least_none : (n : ℕ) → ((y : ℕ) → y < n → test y ≡ false) → least_below n test ≡ None
  least_none n h = first_none (λ y. if test y then Some y else None) n (λ y s. chosen y false (h y s))

  pub all_more : (n : ℕ) → all_below n test ≡ true → test n ≡ true → all_below (suc n) test ≡ true
  unfolding all_below
  all_more n e h = and_from (all_below n test) (test n) e h

  pub all_each : (n : ℕ) → all_below n test ≡ true → (i : ℕ) → i < n → test i ≡ true
  unfolding all_below
  all_each zero e i l = absurd (omega arith)
  all_each (suc n) e i l = go (eq-or-lt_of_le l) (all_each n (and_parts (all_below n test) (test n) e).0 i)
    where
      go : (suc i ≡ suc n) ⊎ (suc i < suc n) → (i < n → test i ≡ true) → test i ≡ true
      go (inl s) r = ap test (let t : i ≡ n = omega arith in t) ∙ (and_parts (all_below n test) (test n) e).1
      go (inr s) r = r (omega arith)

  pub all_from : (n : ℕ) → ((i : ℕ) → i < n → test i ≡ true) → all_below n test ≡ true
  unfolding all_below
  all_from zero h = refl
  all_from (suc n) h = all_more n (all_from n (λ i l. h i (omega arith))) (h n (omega arith))

  pub not_all : (i n : ℕ) → i < n → test i ≡ false → all_below n test ≡ false
  not_all i n l h = false_from_ne_true (all_below n test) (λ e. both_ways (test i) h (all_each n e i l))
