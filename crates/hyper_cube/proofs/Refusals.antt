-- The checks against what they mean.
use Rattle.std.specs.Prelude.{◌≡◌, ℕ, ◌*◌, ◌%◌, ◌^◌, ◌<◌, ◌≤◌, ◌⊎◌, Bool, true, false, eqb, not, nat_lt, if◌then◌else◌, Option, None, Some, refl}
use Rattle.std.proofs.Common.{arith, sym, ◌∙◌, ap, ap₂, subst, inl, inr, eqb-true, eq-eqb}
use Rattle.std.proofs.lemmas.Bool.{cases_Bool, cases_lt, cases_order, both_ways, false_from_ne_true, true_from_ne_false, not_from_false, lt-ltb, ltb-true, le-ltb}
use Rattle.algebra.specs.Divisor.{number_of_units}
use Rattle.hyper_cube.specs.Torus.{Torus, slot_count, unit_at}
use Rattle.hyper_cube.specs.declared.faults.CubeFault.{CubeFault}
use Rattle.hyper_cube.specs.declared.faults.CubeFault.TheVariants.{NotOrder, NotPower, WrongCount, NotDistinct, Memory}
use Rattle.hyper_cube.specs.Checks.{least, dimension_count, place_count, wrapped, has_power, bad_dimension, first_same, first_repeat, first_fault, IsShape, HasOrder, IsPower, ArePowers, IsCounted, AreDistinct, IsCube, IsNotPower, IsWrongCount, IsNotDistinct, IsFault}
use Rattle.hyper_cube.proofs.Least.{least_hit, least_before, least_none, least_is, least_some}
use Rattle.hyper_cube.proofs.Shapes.{power_below}

abbrev chain : Bool → Bool → Bool → Bool → ℕ → ℕ → ℕ → Option CubeFault
chain order power counted repeated i a b =
    if not order then Some NotOrder
    else if power then Some (NotPower i)
    else if not counted then Some WrongCount
    else if repeated then Some (NotDistinct a b)
    else None

not_true : (b : Bool) → not b ≡ true → b ≡ false
not_true true e = absurd (both_ways false refl e)
not_true false e = refl

module _ (c : Torus) where
  abbrev ordered : Bool
  ordered = eqb (c.p ^ c.d % c.m) 1

  abbrev unpowered : Bool
  unpowered = nat_lt (bad_dimension c) (dimension_count c)

  abbrev enough : Bool
  enough = eqb (c.d * slot_count c) (number_of_units c.m)

  abbrev repeated : Bool
  repeated = nat_lt (first_repeat c) (place_count c)

  -- ---- the first test that fails is the fault
  abbrev verdict : Bool → Bool → Bool → Bool → Option CubeFault
  verdict o p n r = chain o p n r (bad_dimension c) (first_same c (first_repeat c)) (first_repeat c)

  fault_is : first_fault c ≡ verdict ordered unpowered enough repeated
  unfolding first_fault
  fault_is = refl

  fault_order : ordered ≡ false → first_fault c ≡ Some NotOrder
  fault_order o = fault_is ∙ ap (λ x. verdict x unpowered enough repeated) o

  past_order : ordered ≡ true → first_fault c ≡ verdict true unpowered enough repeated
  past_order o = fault_is ∙ ap (λ x. verdict x unpowered enough repeated) o

  fault_power : ordered ≡ true → unpowered ≡ true → first_fault c ≡ Some (NotPower (bad_dimension c))
  fault_power o p = past_order o ∙ ap (λ x. verdict true x enough repeated) p

  past_power : ordered ≡ true → unpowered ≡ false → first_fault c ≡ verdict true false enough repeated
  past_power o p = past_order o ∙ ap (λ x. verdict true x enough repeated) p

  fault_count : ordered ≡ true → unpowered ≡ false → enough ≡ false → first_fault c ≡ Some WrongCount
  fault_count o p n = past_power o p ∙ ap (λ x. verdict true false x repeated) n

  past_count : ordered ≡ true → unpowered ≡ false → enough ≡ true → first_fault c ≡ verdict true false true repeated
  past_count o p n = past_power o p ∙ ap (λ x. verdict true false x repeated) n

  fault_distinct : ordered ≡ true → unpowered ≡ false → enough ≡ true → repeated ≡ true → first_fault c ≡ Some (NotDistinct (first_same c (first_repeat c)) (first_repeat c))
  fault_distinct o p n r = past_count o p n ∙ ap (λ x. verdict true false true x) r

  fault_none : ordered ≡ true → unpowered ≡ false → enough ≡ true → repeated ≡ false → first_fault c ≡ None
  fault_none o p n r = past_count o p n ∙ ap (λ x. verdict true false true x) r

  -- ---- products that stand earlier
  abbrev repeats : ℕ → Bool
  repeats b = nat_lt (first_same c b) b

  abbrev same_at : ℕ → ℕ → Bool
  same_at b a = eqb (unit_at c a) (unit_at c b)

  repeats_from : (a b : ℕ) → a < b → unit_at c a ≡ unit_at c b → repeats b ≡ true
  repeats_from a b l e = lt-ltb (first_same c b) b (omega (arith, least_some b (same_at b) a l (eq-eqb (unit_at c a) (unit_at c b) e)))

  distinct_before : (n : ℕ) → n ≤ first_repeat c → AreDistinct c n
  distinct_before n h i j l k e = go (cases_order i j)
    where
      none : (b : ℕ) → b < n → repeats b ≡ false
      none b s = least_before (place_count c) repeats b (omega arith)

      go : (i ≡ j) ⊎ ((i < j) ⊎ (j < i)) → i ≡ j
      go (inl s) = s
      go (inr (inl s)) = absurd (both_ways (repeats j) (none j k) (repeats_from i j s e))
      go (inr (inr s)) = absurd (both_ways (repeats i) (none i l) (repeats_from j i s (sym e)))

  none_repeats : (n : ℕ) → AreDistinct c n → (b : ℕ) → b < n → repeats b ≡ false
  none_repeats n h b l = false_from_ne_true (repeats b) (λ e. no (first_same c b) (ltb-true (first_same c b) b e) (least_hit b (same_at b)))
    where
      no : (a : ℕ) → a < b → (a < b → same_at b a ≡ true) → ⊥
      no a s hit = omega (arith, h a b (omega arith) l (eqb-true (unit_at c a) (unit_at c b) (hit s)))

  distinct_yes : repeated ≡ false → AreDistinct c (place_count c)
  distinct_yes e = distinct_before (place_count c) (go (cases_lt (first_repeat c) (place_count c)))
    where
      go : (first_repeat c < place_count c) ⊎ (place_count c ≤ first_repeat c) → place_count c ≤ first_repeat c
      go (inl l) = absurd (both_ways repeated e (lt-ltb (first_repeat c) (place_count c) l))
      go (inr l) = l

  distinct_test : AreDistinct c (place_count c) → repeated ≡ false
  distinct_test h = le-ltb (first_repeat c) (place_count c) (omega (arith, least_none (place_count c) repeats (none_repeats (place_count c) h)))

  -- the place that repeats is the first, and so is the one that it repeats
  repeat_is : (b : ℕ) → b < place_count c → AreDistinct c b → (a : ℕ) → a < b → unit_at c a ≡ unit_at c b → first_repeat c ≡ b
  repeat_is b l h a s e = least_is (place_count c) repeats b l (repeats_from a b s e) (none_repeats b h)

  same_is : (a b : ℕ) → a < b → AreDistinct c b → unit_at c a ≡ unit_at c b → first_same c b ≡ a
  same_is a b s h e = least_is b (same_at b) a s (eq-eqb (unit_at c a) (unit_at c b) e) (λ j l. false_from_ne_true (same_at b j) (λ t. omega (arith, h j a (omega arith) s (eqb-true (unit_at c j) (unit_at c b) t ∙ sym e))))

  module _ (S : IsShape c) where
    -- ---- powers
    power_yes : HasOrder c → (i : ℕ) → IsPower c i → has_power c i ≡ true
    power_yes o i w = go (power_below c S o i w)
      where
        go : (j : ℕ) × (j < c.d) × (wrapped c i ≡ c.p ^ j % c.m) → has_power c i ≡ true
        go (j, l, e) = lt-ltb (least c.d (λ j. eqb (wrapped c i) (c.p ^ j % c.m))) c.d (omega (arith, least_some c.d (λ j. eqb (wrapped c i) (c.p ^ j % c.m)) j l (eq-eqb (wrapped c i) (c.p ^ j % c.m) e)))

    power_of : (i : ℕ) → has_power c i ≡ true → IsPower c i
    power_of i e = (least c.d (λ j. eqb (wrapped c i) (c.p ^ j % c.m)), eqb-true (wrapped c i) (c.p ^ least c.d (λ j. eqb (wrapped c i) (c.p ^ j % c.m)) % c.m) (least_hit c.d (λ j. eqb (wrapped c i) (c.p ^ j % c.m)) (ltb-true (least c.d (λ j. eqb (wrapped c i) (c.p ^ j % c.m))) c.d e)))

    abbrev fails_at : ℕ → Bool
    fails_at i = not (has_power c i)

    powers_before : (n : ℕ) → n ≤ bad_dimension c → ArePowers c n
    powers_before n h i l = power_of i (true_from_ne_false (has_power c i) (λ e. both_ways (fails_at i) (least_before (dimension_count c) fails_at i (omega arith)) (not_from_false (has_power c i) e)))

    passes : HasOrder c → (n : ℕ) → ArePowers c n → (i : ℕ) → i < n → fails_at i ≡ false
    passes o n h i l = ap not (power_yes o i (h i l))

    powers_yes : unpowered ≡ false → ArePowers c (dimension_count c)
    powers_yes e = powers_before (dimension_count c) (go (cases_lt (bad_dimension c) (dimension_count c)))
      where
        go : (bad_dimension c < dimension_count c) ⊎ (dimension_count c ≤ bad_dimension c) → dimension_count c ≤ bad_dimension c
        go (inl l) = absurd (both_ways unpowered e (lt-ltb (bad_dimension c) (dimension_count c) l))
        go (inr l) = l

    powers_test : HasOrder c → ArePowers c (dimension_count c) → unpowered ≡ false
    powers_test o h = le-ltb (bad_dimension c) (dimension_count c) (omega (arith, least_none (dimension_count c) fails_at (passes o (dimension_count c) h)))

    bad_is : HasOrder c → (i : ℕ) → i < dimension_count c → ArePowers c i → (IsPower c i → ⊥) → bad_dimension c ≡ i
    bad_is o i l h n = least_is (dimension_count c) fails_at i l (not_from_false (has_power c i) (false_from_ne_true (has_power c i) (λ e. n (power_of i e)))) (passes o i h)

    order_test : HasOrder c → ordered ≡ true
    order_test h = eq-eqb (c.p ^ c.d % c.m) 1 h

    count_test : IsCounted c → enough ≡ true
    count_test h = eq-eqb (c.d * slot_count c) (number_of_units c.m) h

    count_no : (IsCounted c → ⊥) → enough ≡ false
    count_no h = false_from_ne_true enough (λ e. h (eqb-true (c.d * slot_count c) (number_of_units c.m) e))

    -- ---- from what a fault says to the fault
    pub fault_from : (e : CubeFault) → IsFault c e → first_fault c ≡ Some e
    fault_from NotOrder h = fault_order (false_from_ne_true ordered (λ e. h (eqb-true (c.p ^ c.d % c.m) 1 e)))
    fault_from (NotPower i) h = fault_power (order_test h.order) (lt-ltb (bad_dimension c) (dimension_count c) (subst (λ z. z < dimension_count c) (sym is) h.within)) ∙ ap (λ z. Some (NotPower z)) is
      where
        is : bad_dimension c ≡ i
        is = bad_is h.order i h.within h.before h.fails
    fault_from WrongCount h = fault_count (order_test h.order) (powers_test h.order h.powers) (count_no h.fails)
    fault_from (NotDistinct a b) h = fault_distinct (order_test h.order) (powers_test h.order h.powers) (count_test h.counted) (lt-ltb (first_repeat c) (place_count c) (subst (λ z. z < place_count c) (sym is) h.within)) ∙ ap₂ (λ y z. Some (NotDistinct y z)) (ap (first_same c) is ∙ same_is a b h.earlier h.before h.same) is
      where
        is : first_repeat c ≡ b
        is = repeat_is b h.within h.before a h.earlier h.same
    fault_from Memory h = absurd h

    pub cube_from : HasOrder c → ArePowers c (dimension_count c) → IsCounted c → AreDistinct c (place_count c) → first_fault c ≡ None
    cube_from o p n r = fault_none (order_test o) (powers_test o p) (count_test n) (distinct_test r)

    -- ---- one of the two is so
    abbrev Verdict : Type 0
    Verdict = ((first_fault c ≡ None) × IsCube c) ⊎ ((e : CubeFault) × (first_fault c ≡ Some e) × IsFault c e)

    judged : Verdict
    judged = order_cases (cases_Bool ordered)
      where
        distinct_cases : HasOrder c → ArePowers c (dimension_count c) → IsCounted c → (repeated ≡ true) ⊎ (repeated ≡ false) → Verdict
        distinct_cases o p n (inl r) = inr (NotDistinct (first_same c (first_repeat c)) (first_repeat c), fault_from (NotDistinct (first_same c (first_repeat c)) (first_repeat c)) fault, fault)
          where
            within : first_repeat c < place_count c
            within = ltb-true (first_repeat c) (place_count c) r

            earlier : first_same c (first_repeat c) < first_repeat c
            earlier = ltb-true (first_same c (first_repeat c)) (first_repeat c) (least_hit (place_count c) repeats within)

            fault : IsNotDistinct c (first_same c (first_repeat c)) (first_repeat c)
            fault = record {
              order = o;
              powers = p;
              counted = n;
              within = within;
              earlier = earlier;
              same = eqb-true (unit_at c (first_same c (first_repeat c))) (unit_at c (first_repeat c)) (least_hit (first_repeat c) (same_at (first_repeat c)) earlier);
              before = distinct_before (first_repeat c) (omega arith);
            }
        distinct_cases o p n (inr r) = inl (cube_from o p n (distinct_yes r), record { shape = S; order = o; powers = p; counted = n; distinct = distinct_yes r })

        count_cases : HasOrder c → ArePowers c (dimension_count c) → (enough ≡ true) ⊎ (enough ≡ false) → Verdict
        count_cases o p (inl n) = distinct_cases o p (eqb-true (c.d * slot_count c) (number_of_units c.m) n) (cases_Bool repeated)
        count_cases o p (inr n) = inr (WrongCount, fault_from WrongCount fault, fault)
          where
            fault : IsWrongCount c
            fault = record { order = o; powers = p; fails = λ h. both_ways enough n (count_test h) }

        power_cases : HasOrder c → (unpowered ≡ true) ⊎ (unpowered ≡ false) → Verdict
        power_cases o (inl p) = inr (NotPower (bad_dimension c), fault_from (NotPower (bad_dimension c)) fault, fault)
          where
            within : bad_dimension c < dimension_count c
            within = ltb-true (bad_dimension c) (dimension_count c) p

            fault : IsNotPower c (bad_dimension c)
            fault = record {
              order = o;
              within = within;
              before = powers_before (bad_dimension c) (omega arith);
              fails = λ w. both_ways (has_power c (bad_dimension c)) (not_true (has_power c (bad_dimension c)) (least_hit (dimension_count c) fails_at within)) (power_yes o (bad_dimension c) w);
            }
        power_cases o (inr p) = count_cases o (powers_yes p) (cases_Bool enough)

        order_cases : (ordered ≡ true) ⊎ (ordered ≡ false) → Verdict
        order_cases (inl o) = power_cases (eqb-true (c.p ^ c.d % c.m) 1 o) (cases_Bool unpowered)
        order_cases (inr o) = inr (NotOrder, fault_order o, λ h. both_ways ordered o (order_test h))

    pub cube_is : first_fault c ≡ None → IsCube c
    cube_is e = go judged
      where
        go : Verdict → IsCube c
        go (inl h) = h.1
        go (inr h) = absurd (let f = h.1 in cc)

    pub fault_says : (e : CubeFault) → first_fault c ≡ Some e → IsFault c e
    fault_says e s = go judged
      where
        go : Verdict → IsFault c e
        go (inl h) = absurd (let f = h.0 in cc)
        go (inr h) = subst (IsFault c) (let f = h.1 in cc) h.2

  pub cube_passes : IsCube c → first_fault c ≡ None
  cube_passes C = cube_from C.shape C.order C.powers C.counted C.distinct
