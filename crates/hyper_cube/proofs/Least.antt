-- The least number that passes a test.
use Rattle.std.specs.Prelude.{◌≡◌, ℕ, zero, suc, ◌<◌, ◌≤◌, ◌⊎◌, Bool, true, false, List, [], ◌∷◌, length, map, get_or, refl}
use Rattle.std.proofs.Common.{arith, sym, ◌∙◌, ap, inl, inr}
use Rattle.std.proofs.lemmas.Bool.{cases_order, cases_lt, both_ways}
use Rattle.std.proofs.lemmas.List.{get_or-map, length-map}
use Rattle.algebra.specs.Whole.{below}
use Rattle.algebra.proofs.Sums.{length-below, get_or-below}
use Rattle.hyper_cube.specs.Torus.{first_place}
use Rattle.hyper_cube.specs.Checks.{least}

first_le : (bs : List Bool) → first_place bs ≤ length bs
first_le [] = omega arith
first_le (true ∷ bs) = omega arith
first_le (false ∷ bs) = omega (arith, first_le bs)

first_hit : (bs : List Bool) (d : Bool) → first_place bs < length bs → get_or bs (first_place bs) d ≡ true
first_hit [] d l = absurd (omega arith)
first_hit (true ∷ bs) d l = refl
first_hit (false ∷ bs) d l = first_hit bs d (omega arith)

first_before : (bs : List Bool) (d : Bool) (i : ℕ) → i < first_place bs → get_or bs i d ≡ false
first_before [] d i l = absurd (omega arith)
first_before (true ∷ bs) d i l = absurd (omega arith)
first_before (false ∷ bs) d zero l = refl
first_before (false ∷ bs) d (suc i) l = first_before bs d i (omega arith)

module _ (n : ℕ) (t : ℕ → Bool) where
  long : length (map t (below n)) ≡ n
  long = length-map (below n) t ∙ length-below n

  at : (i : ℕ) → i < n → get_or (map t (below n)) i false ≡ t i
  at i l = get_or-map t (below n) i 0 false (omega (arith, length-below n)) ∙ ap t (get_or-below n i 0 l)

  pub least_le : least n t ≤ n
  unfolding least
  least_le = omega (arith, first_le (map t (below n)), long)

  pub least_hit : least n t < n → t (least n t) ≡ true
  unfolding least
  least_hit l = sym (at (first_place (map t (below n))) l) ∙ first_hit (map t (below n)) false (omega (arith, long))

  pub least_before : (i : ℕ) → i < least n t → t i ≡ false
  unfolding least
  least_before i l = sym (at i (omega (arith, first_le (map t (below n)), long))) ∙ first_before (map t (below n)) false i l

  pub least_none : ((i : ℕ) → i < n → t i ≡ false) → least n t ≡ n
  least_none h = go (cases_lt (least n t) n)
    where
      go : (least n t < n) ⊎ (n ≤ least n t) → least n t ≡ n
      go (inl l) = absurd (both_ways (t (least n t)) (h (least n t) l) (least_hit l))
      go (inr l) = omega (arith, least_le)

  pub least_is : (i : ℕ) → i < n → t i ≡ true → ((j : ℕ) → j < i → t j ≡ false) → least n t ≡ i
  least_is i l e h = go (cases_order (least n t) i)
    where
      go : (least n t ≡ i) ⊎ ((least n t < i) ⊎ (i < least n t)) → least n t ≡ i
      go (inl e) = e
      go (inr (inl s)) = absurd (both_ways (t (least n t)) (h (least n t) s) (least_hit (omega arith)))
      go (inr (inr s)) = absurd (both_ways (t i) (least_before i s) e)

  -- some number passes: the least one is below n
  pub least_some : (i : ℕ) → i < n → t i ≡ true → least n t ≤ i
  least_some i l e = go (cases_lt i (least n t))
    where
      go : (i < least n t) ⊎ (least n t ≤ i) → least n t ≤ i
      go (inl s) = absurd (both_ways (t i) (least_before i s) e)
      go (inr s) = s
