-- The steps of the divisions of X^m - 1 by the cyclotomic polynomials.
use Rattle.std.specs.Prelude.{◌≡◌, ℕ, zero, suc, ◌^◌, ◌<◌, ◌⊎◌, true, false, cond, ◌&&◌, ◌||◌, List, [], ◌∷◌, ◌++◌, length, replicate, get_or, ℤ, pos, negsuc, nat_abs, refl}
use Rattle.std.proofs.Common.{sym, ◌∙◌, ap, ap₂, subst, inl, inr, arith, set}
use Rattle.std.proofs.lemmas.List.{get_or_past, length-append}
use Rattle.std.proofs.lemmas.Bool.{cases_order}
use Rattle.std.proofs.Math.ListN.{get_or-append}
use Rattle.std.proofs.Math.Seq.{get_or-append_seam}
use Rattle.algebra.specs.Ring.{whole_numbers}
use Rattle.algebra.specs.Divisor.{Dvd, is_divisor}
use Rattle.algebra.specs.Poly.{coeff, plus, quotient_by}
use Rattle.algebra.proofs.Divisors.{divisor_yes, Dvd_trans, Dvd_le}
use Rattle.cyclotomic.specs.Cyclotomic.{phi, power_less_one}
use Rattle.cyclo_poly.specs.Tall.{any_below, is_large, AllSmall, cofactor, is_large_at, has_large_factor}
use Rattle.cyclo_poly.proofs.LargeSteps.{any_at, any_more, or_true}

plus_nothing : (f : List ℤ) → plus whole_numbers f [] ≡ f
plus_nothing [] = refl
plus_nothing (x ∷ f) = refl

pub power_is : (m : ℕ) → 0 < m → (f : List ℤ) → f ≡ set (replicate m (pos 0)) 0 (negsuc 0) ++ pos 1 ∷ [] → f ≡ power_less_one m
power_is zero l f e = absurd (omega arith)
power_is (suc k) l f e = e ∙ ap (λ z. negsuc 0 ∷ z) (sym (plus_nothing (replicate k (pos 0) ++ pos 1 ∷ [])))

pub small_push : (x : ℤ) (f g : List ℤ) → g ≡ f ++ x ∷ [] → nat_abs x < 2 ^ 31 → AllSmall f → AllSmall g
small_push x f g e l h i = go (cases_order i (length f))
  where
    go : (i ≡ length f) ⊎ ((i < length f) ⊎ (length f < i)) → nat_abs (coeff whole_numbers g i) < 2 ^ 31
    go (inl d) = subst (λ z. nat_abs z < 2 ^ 31) (sym (ap₂ (λ z j. get_or z j (pos 0)) e d ∙ get_or-append_seam f x [] (pos 0))) l
    go (inr (inl a)) = subst (λ z. nat_abs z < 2 ^ 31) (sym (ap (λ z. get_or z i (pos 0)) e ∙ get_or-append f (x ∷ []) (pos 0) i a)) (h i)
    go (inr (inr a)) = subst (λ z. nat_abs z < 2 ^ 31) (sym (get_or_past g i (pos 0) (omega (arith, ap length e, length-append f (x ∷ []))))) (omega arith)

pub cofactor_yes : (m i d : ℕ) (left c : List ℤ) → d ≡ suc i → is_divisor d m ≡ true → left ≡ cofactor m i → c ≡ quotient_by whole_numbers (phi d) left → c ≡ cofactor m d
unfolding cofactor
cofactor_yes m i d left c e t h k = k ∙ ap₂ (λ x y. quotient_by whole_numbers (phi x) y) e h ∙ sym (ap (cofactor m) e ∙ ap (λ b. cond b (quotient_by whole_numbers (phi (suc i)) (cofactor m i)) (cofactor m i)) (ap (λ z. is_divisor z m) (sym e) ∙ t))

pub cofactor_no : (m i d : ℕ) (left : List ℤ) → d ≡ suc i → is_divisor d m ≡ false → left ≡ cofactor m i → left ≡ cofactor m d
unfolding cofactor
cofactor_no m i d left e t h = h ∙ sym (ap (cofactor m) e ∙ ap (λ b. cond b (quotient_by whole_numbers (phi (suc i)) (cofactor m i)) (cofactor m i)) (ap (λ z. is_divisor z m) (sym e) ∙ t))

pub not_large_yes : (m d : ℕ) → is_large (phi d) ≡ false → is_large (cofactor m d) ≡ false → is_large_at m d ≡ false
unfolding is_large_at
not_large_yes m d h k = ap₂ (λ a b. is_divisor d m && (a || b)) h k ∙ at (is_divisor d m)
  where
    at : (b : _) → (b && false) ≡ false
    at true = refl
    at false = refl

pub not_large_no : (m d : ℕ) → is_divisor d m ≡ false → is_large_at m d ≡ false
unfolding is_large_at
not_large_no m d t = ap (λ b. b && (is_large (phi d) || is_large (cofactor m d))) t

large_yes : (m d : ℕ) → Dvd d m → (is_large (phi d) || is_large (cofactor m d)) ≡ true → is_large_at m d ≡ true
unfolding is_large_at
large_yes m d h t = ap₂ (λ a b. a && b) (divisor_yes d m h) t

large_among : (m d : ℕ) → 0 < m → 0 < d → Dvd d m → (is_large (phi d) || is_large (cofactor m d)) ≡ true → has_large_factor m ≡ true
large_among m zero p q h t = absurd (omega arith)
large_among m (suc d) p q h t = any_at m d (λ i. is_large_at m (suc i)) (omega (arith, Dvd_le (suc d) m p h)) (large_yes m (suc d) h t)

pub factor_large : (m i d : ℕ) (left : List ℤ) → 0 < m → d ≡ suc i → Dvd d m → left ≡ cofactor m i → ((e : ℕ) × (0 < e) × Dvd e d × (is_large (phi e) ≡ true)) ⊎ (is_large (quotient_by whole_numbers (phi d) left) ≡ true) → has_large_factor m ≡ true
factor_large m i d left p e h k (inl w) = large_among m w.0 p w.1 (Dvd_trans w.0 d m w.2 h) (ap (λ b. b || is_large (cofactor m w.0)) w.3)
factor_large m i d left p e h k (inr t) = large_among m d p (omega (arith, e)) h (ap (λ b. is_large (phi d) || b) (ap is_large (sym (cofactor_yes m i d left (quotient_by whole_numbers (phi d) left) e (divisor_yes d m h) k refl)) ∙ t) ∙ or_true (is_large (phi d)))

pub factors_more : (m i d : ℕ) → d ≡ suc i → any_below i (λ j. is_large_at m (suc j)) ≡ false → is_large_at m d ≡ false → any_below d (λ j. is_large_at m (suc j)) ≡ false
factors_more m i d e h k = any_more i d (λ j. is_large_at m (suc j)) e h (ap (is_large_at m) (sym e) ∙ k)

-- a large member among the divisors of m
pub member_large : (m : ℕ) → 0 < m → (e : ℕ) × (0 < e) × Dvd e m × (is_large (phi e) ≡ true) → has_large_factor m ≡ true
member_large m p w = large_among m w.0 p w.1 w.2 (ap (λ b. b || is_large (cofactor m w.0)) w.3)

pub cofactor_first : (m : ℕ) (f : List ℤ) → f ≡ power_less_one m → f ≡ cofactor m 0
unfolding cofactor
cofactor_first m f e = e
