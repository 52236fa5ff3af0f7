-- Small and large lists, and tests of numbers below a bound.
use Rattle.std.specs.Prelude.{◌≡◌, ℕ, zero, suc, ◌^◌, ◌<◌, ◌≤◌, ◌⊎◌, Bool, true, false, ◌||◌, nat_le, List, [], ◌∷◌, length, replicate, ℤ, pos, nat_abs, refl}
use Rattle.std.proofs.Common.{sym, ◌∙◌, ap, ap₂, subst, inl, inr, arith, set, get_or, eq-or-lt_of_le}
use Rattle.std.proofs.lemmas.List.{get_or-set_same, get_or-set_other}
use Rattle.std.proofs.lemmas.Bool.{cases_order, le-leb, lt-leb, leb-false}
use Rattle.algebra.specs.Ring.{whole_numbers}
use Rattle.algebra.specs.Poly.{coeff}
use Rattle.algebra.proofs.Integers.{whole_ring}
use Rattle.algebra.proofs.Dividing.{coeff-none}
use Rattle.cyclo_poly.specs.Tall.{any_below, is_large, AllSmall}

pub or_true : (b : Bool) → (b || true) ≡ true
or_true true = refl
or_true false = refl

pub large_at : (f : List ℤ) (i : ℕ) → 2 ^ 31 ≤ nat_abs (coeff whole_numbers f i) → is_large f ≡ true
unfolding is_large
large_at [] i h = absurd (omega (arith, h))
large_at (x ∷ f) zero h = ap (λ b. b || is_large f) (le-leb (2 ^ 31) (nat_abs x) h)
large_at (x ∷ f) (suc i) h = ap (λ b. nat_le (2 ^ 31) (nat_abs x) || b) (large_at f i h) ∙ or_true (nat_le (2 ^ 31) (nat_abs x))

pub small_not_large : (f : List ℤ) → AllSmall f → is_large f ≡ false
unfolding is_large
small_not_large [] h = refl
small_not_large (x ∷ f) h = ap₂ (λ a b. a || b) (lt-leb (2 ^ 31) (nat_abs x) (h 0)) (small_not_large f (λ i. h (suc i)))

pub small_zeros : (n : ℕ) → AllSmall (replicate n (pos 0))
small_zeros n i = rw (coeff-none whole_ring n i) (omega arith)

pub small_set : (i : ℕ) (x : ℤ) (f g : List ℤ) → g ≡ set f i x → i < length f → nat_abs x < 2 ^ 31 → AllSmall f → AllSmall g
small_set i x f g e l s h k = go (cases_order k i)
  where
    go : (k ≡ i) ⊎ ((k < i) ⊎ (i < k)) → nat_abs (coeff whole_numbers g k) < 2 ^ 31
    go (inl d) = subst (λ z. nat_abs z < 2 ^ 31) (sym (ap (λ z. get_or z k (pos 0)) e ∙ ap (λ z. get_or (set f i x) z (pos 0)) d ∙ get_or-set_same f i x (pos 0) l)) s
    go (inr (inl a)) = subst (λ z. nat_abs z < 2 ^ 31) (sym (ap (λ z. get_or z k (pos 0)) e ∙ get_or-set_other f i k x (pos 0) (λ d. omega arith))) (h k)
    go (inr (inr a)) = subst (λ z. nat_abs z < 2 ^ 31) (sym (ap (λ z. get_or z k (pos 0)) e ∙ get_or-set_other f i k x (pos 0) (λ d. omega arith))) (h k)

pub any_at : (n i : ℕ) (p : ℕ → Bool) → i < n → p i ≡ true → any_below n p ≡ true
any_at zero i p l e = absurd (omega arith)
any_at (suc n) i p l e = go (any_at n i p) (eq-or-lt_of_le (let k : i ≤ n = omega arith in k))
  where
    go : (i < n → p i ≡ true → any_below n p ≡ true) → (i ≡ n) ⊎ (i < n) → any_below (suc n) p ≡ true
    go r (inl d) = ap (λ b. any_below n p || b) (ap p (sym d) ∙ e) ∙ or_true (any_below n p)
    go r (inr s) = ap (λ b. b || p n) (r s e)

pub any_none : (n : ℕ) (p : ℕ → Bool) → ((i : ℕ) → i < n → p i ≡ false) → any_below n p ≡ false
any_none zero p h = refl
any_none (suc n) p h = ap₂ (λ a b. a || b) (any_none n p (λ i l. h i (omega arith))) (h n (omega arith))

pub any_more : (n m : ℕ) (p : ℕ → Bool) → m ≡ suc n → any_below n p ≡ false → p n ≡ false → any_below m p ≡ false
any_more n m p e h k = ap (λ z. any_below z p) e ∙ ap₂ (λ a b. a || b) h k

pub not_large_small : (f : List ℤ) → is_large f ≡ false → AllSmall f
unfolding is_large
not_large_small [] h i = omega arith
not_large_small (x ∷ f) h zero = leb-false (2 ^ 31) (nat_abs x) (left (nat_le (2 ^ 31) (nat_abs x)) (is_large f) h)
  where
    left : (a b : Bool) → (a || b) ≡ false → a ≡ false
    left true b e = cc
    left false b e = refl
not_large_small (x ∷ f) h (suc i) = not_large_small f (right (nat_le (2 ^ 31) (nat_abs x)) (is_large f) h) i
  where
    right : (a b : Bool) → (a || b) ≡ false → b ≡ false
    right true b e = cc
    right false b e = e
