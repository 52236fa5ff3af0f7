-- The first pair that fails to be as in a dual basis.
use Rattle.std.proofs.Common.{◌≡◌, ℕ, zero, suc, ◌+◌, ◌*◌, ◌/◌, ◌%◌, ◌<◌, Bool, true, false, List, [], ◌∷◌, map, ap, sym, ◌∙◌, refl, subst, length, get_or, IsTrue, ◌≤◌, ◌↔◌, ◌==◌, below_more, eqb, eqb-true, arith, ◌⊎◌, inl, inr}
use Rattle.std.specs.Prelude.{not, find, if◌then◌else◌, Option, Some, None, MatchOption, cond}
use Rattle.std.specs.Option.{option_or}
use Rattle.std.proofs.lemmas.Bool.{eqb-false}
use Rattle.std.proofs.lemmas.List.{map-append, get_or_default}
use Rattle.std.proofs.lemmas.List.Folds.{find-append}
use Rattle.std.proofs.lemmas.Nat.{div_below, div-mul-add, mod-mul-add, mod_below}
use Rattle.std.proofs.lemmas.Slice.Eq.{bytes_eq-Decides}
use Rattle.std.proofs.Math.Nat.{mul-le-mul_left}
use Rattle.algebra.specs.Whole.{below}
use Rattle.ext_field.specs.Element.{Extension, IsMonicFactor, degree, elements, trace, eta_power, pairing, IsDualAt, IsDualBasis, IsFirstFailure}
use Rattle.ext_field.specs.Checks.{is_dual_at, dual_fault}

module _ {X : Type 0} (p : X → Bool) (g : ℕ → X) where
  abbrev found : ℕ → Option X
  found n = find p (map g (below n))

  found_next : (n : ℕ) → found (suc n) ≡ option_or (found n) (cond (p (g n)) (Some (g n)) None)
  found_next n = ap (find p) (map-append g (below n) (n ∷ [])) ∙ find-append p (map g (below n)) (g n ∷ [])

  -- no number below n passes
  pub found_none : (n : ℕ) → ((j : ℕ) → j < n → p (g j) ≡ false) → found n ≡ None
  found_none zero h = refl
  found_none (suc n) h = found_next n ∙ ap (λ r. option_or r (cond (p (g n)) (Some (g n)) None)) (found_none n (λ j l. h j (omega arith))) ∙ ap (λ b. cond b (Some (g n)) None) (h n (omega arith))

  -- j is the first that passes
  pub found_first : (n j : ℕ) → j < n → p (g j) ≡ true → ((l : ℕ) → l < j → p (g l) ≡ false) → found n ≡ Some (g j)
  found_first zero j l pass miss = absurd (omega arith)
  found_first (suc n) j l pass miss = go (λ less. found_first n j less pass miss) (eqb j n) refl
    where
      go : (j < n → found n ≡ Some (g j)) → (b : Bool) → eqb j n ≡ b → found (suc n) ≡ Some (g j)
      go earlier true e = let same : j ≡ n = eqb-true j n e in found_next n ∙ ap (λ r. option_or r (cond (p (g n)) (Some (g n)) None)) (found_none n (λ k k_low. miss k (omega arith))) ∙ ap (λ k. cond (p (g k)) (Some (g k)) None) (sym same) ∙ ap (λ b. cond b (Some (g j)) None) pass
      go earlier false e = let less : j < n = omega (arith, eqb-false j n e) in found_next n ∙ ap (λ r. option_or r (cond (p (g n)) (Some (g n)) None)) (earlier less)

  -- one of the two is so
  pub found_cases : (n : ℕ) → ((j : ℕ) → j < n → p (g j) ≡ false) ⊎ ((j : ℕ) × (j < n) × (p (g j) ≡ true) × ((l : ℕ) → l < j → p (g l) ≡ false))
  found_cases zero = inl (λ j l. absurd (omega arith))
  found_cases (suc n) = go (found_cases n)
    where
      last : (b : Bool) → p (g n) ≡ b → ((j : ℕ) → j < n → p (g j) ≡ false) → ((j : ℕ) → j < suc n → p (g j) ≡ false) ⊎ ((j : ℕ) × (j < suc n) × (p (g j) ≡ true) × ((l : ℕ) → l < j → p (g l) ≡ false))
      last true e h = inr (n, omega arith, e, h)
      last false e h = inl (λ j l. more j l (eqb j n) refl)
        where
          more : (j : ℕ) → j < suc n → (b : Bool) → eqb j n ≡ b → p (g j) ≡ false
          more j l true s = ap (λ k. p (g k)) (eqb-true j n s) ∙ e
          more j l false s = h j (omega (arith, eqb-false j n s))

      go : ((j : ℕ) → j < n → p (g j) ≡ false) ⊎ ((j : ℕ) × (j < n) × (p (g j) ≡ true) × ((l : ℕ) → l < j → p (g l) ≡ false)) → ((j : ℕ) → j < suc n → p (g j) ≡ false) ⊎ ((j : ℕ) × (j < suc n) × (p (g j) ≡ true) × ((l : ℕ) → l < j → p (g l) ≡ false))
      go (inl h) = last (p (g n)) refl h
      go (inr (j, l, pass, miss)) = inr (j, omega arith, pass, miss)

module _ (f : Extension) (dual : List (List ℕ)) where
  wanted : Bool → List ℕ
  wanted b = if b then (elements f).one else (elements f).zero

  -- the test and what it says
  pub passes_is : (i k : ℕ) → is_dual_at f dual i k ≡ true → IsDualAt f dual i k
  unfolding is_dual_at wanted
  passes_is i k h = go (eqb i k) refl ((bytes_eq-Decides (pairing f dual i k) (wanted (eqb i k))).0 h)
    where
      go : (b : Bool) → eqb i k ≡ b → pairing f dual i k ≡ wanted b → IsDualAt f dual i k
      go true e h = record { one = λ _. h; zero = λ differ. absurd (differ (eqb-true i k e)) }
      go false e h = record { one = λ same. absurd (eqb-false i k e same); zero = λ _. h }

  pub is_passes : (i k : ℕ) → IsDualAt f dual i k → is_dual_at f dual i k ≡ true
  unfolding is_dual_at wanted
  is_passes i k h = (bytes_eq-Decides (pairing f dual i k) (wanted (eqb i k))).1 (go (eqb i k) refl)
    where
      go : (b : Bool) → eqb i k ≡ b → pairing f dual i k ≡ wanted b
      go true e = h.one (eqb-true i k e)
      go false e = h.zero (eqb-false i k e)

  pub fails_is : (i k : ℕ) → is_dual_at f dual i k ≡ false → IsDualAt f dual i k → ⊥
  fails_is i k miss h = let pass : is_dual_at f dual i k ≡ true = is_passes i k h in cc

  abbrev fails : ℕ × ℕ → Bool
  fails at = not (is_dual_at f dual at.0 at.1)

  abbrev pair : ℕ → ℕ × ℕ
  pair j = (j / degree f, j % degree f)

  pub fault_none : ((j : ℕ) → j < degree f * degree f → is_dual_at f dual (j / degree f) (j % degree f) ≡ true) → dual_fault f dual ≡ None
  unfolding dual_fault
  fault_none h = found_none fails pair (degree f * degree f) (λ j l. ap not (h j l))

  pub fault_first : (j : ℕ) → j < degree f * degree f → is_dual_at f dual (j / degree f) (j % degree f) ≡ false → ((l : ℕ) → l < j → is_dual_at f dual (l / degree f) (l % degree f) ≡ true) → dual_fault f dual ≡ Some (j / degree f, j % degree f)
  unfolding dual_fault
  fault_first j l miss pass = found_first fails pair (degree f * degree f) j l (ap not miss) (λ k k_low. ap not (pass k k_low))

  module _ (F : IsMonicFactor f) where
    abbrev d : ℕ
    d = degree f

    at_place : (i k : ℕ) → k < d → is_dual_at f dual ((i * d + k) / d) ((i * d + k) % d) ≡ true → IsDualAt f dual i k
    at_place i k k_in h = passes_is i k (sym (ap (λ a. is_dual_at f dual a k) (div-mul-add i d k k_in)) ∙ sym (ap (λ b. is_dual_at f dual ((i * d + k) / d) b) (mod-mul-add i d k k_in)) ∙ h)

    pub basis : ((j : ℕ) → j < d * d → is_dual_at f dual (j / d) (j % d) ≡ true) → IsDualBasis f dual
    basis h i k i_in k_in = at_place i k k_in (h (i * d + k) (grind (arith, mul-le-mul_left d i_in)))

    pub first_failure : (j : ℕ) → j < d * d → is_dual_at f dual (j / d) (j % d) ≡ false → ((l : ℕ) → l < j → is_dual_at f dual (l / d) (l % d) ≡ true) → IsFirstFailure f dual (j / d) (j % d)
    first_failure j j_in miss pass = record {
      i_in = div_below j d d (omega (arith, F.degree_low)) j_in;
      k_in = mod_below j d (omega (arith, F.degree_low));
      fails = fails_is (j / d) (j % d) miss;
      rows_before = λ i k i_low k_in. at_place i k k_in (pass (i * d + k) (before i k i_low k_in));
      places_before = λ k k_low. at_place (j / d) k (omega (arith, mod_below j d (omega (arith, F.degree_low)))) (pass (j / d * d + k) (same_row k k_low));
    }
      where
        before : (i k : ℕ) → i < j / d → k < d → i * d + k < j
        before i k i_low k_in = grind (arith, mul-le-mul_left d i_low)

        same_row : (k : ℕ) → k < j % d → j / d * d + k < j
        same_row k k_low = grind arith

    pub dual_fault_is : MatchOption (dual_fault f dual) (IsDualBasis f dual) (λ at. IsFirstFailure f dual at.0 at.1)
    dual_fault_is = go (found_cases fails pair (d * d))
      where
        turned : (b : Bool) (c : Bool) → not b ≡ c → b ≡ not c
        turned true c e = ap not e
        turned false c e = ap not e

        go : ((j : ℕ) → j < d * d → fails (pair j) ≡ false) ⊎ ((j : ℕ) × (j < d * d) × (fails (pair j) ≡ true) × ((l : ℕ) → l < j → fails (pair l) ≡ false)) → MatchOption (dual_fault f dual) (IsDualBasis f dual) (λ at. IsFirstFailure f dual at.0 at.1)
        go (inl h) = let pass = λ (j : ℕ) (l : j < d * d). turned (is_dual_at f dual (j / d) (j % d)) false (h j l) in rw (fault_none pass) (basis pass)
        go (inr (j, l, miss, before)) = let pass = λ (k : ℕ) (k_low : k < j). turned (is_dual_at f dual (k / d) (k % d)) false (before k k_low) in rw (fault_first j l (turned (is_dual_at f dual (j / d) (j % d)) true miss) pass) (first_failure j l (turned (is_dual_at f dual (j / d) (j % d)) true miss) pass)

same_bool : (a b : Bool) → (a ≡ true → b ≡ true) → (b ≡ true → a ≡ true) → a ≡ b
same_bool true b h k = sym (h refl)
same_bool false true h k = k refl
same_bool false false h k = refl

-- what code has found in going over the pairs
module _ (f : Extension) (dual : List (List ℕ)) (F : IsMonicFactor f) (D : ℕ) (D_is : D ≡ degree f) where
  -- each pair before place n passes
  abbrev passed : ℕ → ℕ → Type 0
  passed e n = (j : ℕ) → j < n → is_dual_at f dual (j / e) (j % e) ≡ true

  along : (n : ℕ) → passed D n → passed (degree f) n
  along n h = subst (λ e. passed e n) D_is h

  test_at : (i k : ℕ) (theta : List ℕ) (r : Bool) → i < length dual → theta ≡ get_or dual i theta → (IsTrue r ↔ (trace f ((elements f).mul theta (eta_power f k)) ≡ (if i == k then (elements f).one else (elements f).zero))) → r ≡ is_dual_at f dual i k
  unfolding is_dual_at
  test_at i k theta r l theta_is h = same_bool r (is_dual_at f dual i k) (λ e. (bytes_eq-Decides (pairing f dual i k) right).1 (ap left (sym same) ∙ h.0 e)) (λ e. h.1 (ap left same ∙ (bytes_eq-Decides (pairing f dual i k) right).0 e))
    where
      left : List ℕ → List ℕ
      left x = trace f ((elements f).mul x (eta_power f k))

      right : List ℕ
      right = if i == k then (elements f).one else (elements f).zero

      same : theta ≡ get_or dual i []
      same = theta_is ∙ get_or_default dual i theta [] l

  pub none_fails : (n : ℕ) → passed D n → D * D ≤ n → None ≡ dual_fault f dual
  none_fails n h l = sym (fault_none f dual (λ j j_in. along n h j (omega (arith, l, ap (λ e. e * e) D_is, j_in))))

  pub none_basis : (n : ℕ) → passed D n → D * D ≤ n → IsDualBasis f dual
  none_basis n h l = basis f dual F (λ j j_in. along n h j (omega (arith, l, ap (λ e. e * e) D_is, j_in)))

  module _ (n : ℕ) (theta : List ℕ) (r : Bool) (long : length dual ≡ degree f) (h : passed D n) (n_in : n < D * D) (theta_is : theta ≡ get_or dual (n / D) theta) (told : IsTrue r ↔ (trace f ((elements f).mul theta (eta_power f (n % D))) ≡ (if n / D == n % D then (elements f).one else (elements f).zero))) where
    tested : r ≡ is_dual_at f dual (n / D) (n % D)
    tested = test_at (n / D) (n % D) theta r (omega (arith, long, D_is, div_below n D D (omega (arith, F.degree_low, D_is)) n_in)) theta_is told

    pub passed_more : r ≡ true → passed D (n + 1)
    passed_more e = below_more (λ j. is_dual_at f dual (j / D) (j % D) ≡ true) n h (sym tested ∙ e)

    in_square : n < degree f * degree f
    in_square = omega (arith, n_in, ap (λ e. e * e) D_is)

    missed : r ≡ false → is_dual_at f dual (n / degree f) (n % degree f) ≡ false
    missed e = ap (λ d. is_dual_at f dual (n / d) (n % d)) (sym D_is) ∙ sym tested ∙ e

    pub one_fails : r ≡ false → Some (n / D, n % D) ≡ dual_fault f dual
    one_fails e = ap (λ d. Some (n / d, n % d)) D_is ∙ sym (fault_first f dual n in_square (missed e) (along n h))

    pub one_first : r ≡ false → IsFirstFailure f dual (n / D) (n % D)
    one_first e = subst (λ d. IsFirstFailure f dual (n / d) (n % d)) (sym D_is) (first_failure f dual F n in_square (missed e) (along n h))
