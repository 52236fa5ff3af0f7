-- From the lists that a cube is made from to the checks of its torus.
use Rattle.std.specs.Prelude.{◌≡◌, ℕ, ◌*◌, ◌/◌, ◌%◌, ◌^◌, ◌<◌, ◌≤◌, List, length, get_or, None, Some}
use Rattle.std.specs.List.{All}
use Rattle.std.proofs.Common.{arith, sym, ◌∙◌, ap, ap₂, subst, mod-eq_of_lt, mod-lt}
use Rattle.std.proofs.lemmas.Nat.{mul-mod_second}
use Rattle.std.proofs.lemmas.List.Elements.{All-from_get_or}
use Rattle.algebra.specs.Divisor.{UnitModulo, number_of_units}
use Rattle.hyper_cube.specs.Torus.{Dimension, count, index, generated, unit_at, located}
use Rattle.hyper_cube.specs.declared.faults.CubeFault.{CubeFault}
use Rattle.hyper_cube.specs.declared.faults.CubeFault.TheVariants.{NotOrder, NotPower, WrongCount, NotDistinct}
use Rattle.hyper_cube.specs.Checks.{dimensions_of, dimension_count, place_count, wrapped, first_fault, IsShape, HasOrder, IsPower, ArePowers, AreDistinct, IsCube}
use Rattle.hyper_cube.specs.Tables.{torus, IsFilled, IsListed, wrapped_pair, product_at, IsTable, Differ, IsRepeatFault}
use Rattle.hyper_cube.proofs.Shapes.{m_positive, d_positive, power_below, slot_fits, power_fits}
use Rattle.hyper_cube.proofs.Pairs.{dimension_of, length-dims, dim_at}
use Rattle.hyper_cube.proofs.Refusals.{fault_from, cube_passes}
use Rattle.hyper_cube.proofs.Located.{located_in, located_at}

-- what fills a list bounds its entries
pub filled_below : (F : ℕ → ℕ) (n m : ℕ) (xs ys : List ℕ) → IsFilled F n xs → ys ≡ xs → ((k : ℕ) → F k < m) → All (λ x. x < m) ys
filled_below F n m xs ys h e b = subst (All (λ x. x < m)) (sym e) (All-from_get_or (λ x. x < m) xs 0 (λ k l. subst (λ z. z < m) (sym (h.at k (omega (arith, h.long)))) (b k)))

module _ (m p d : ℕ) (gs : List (ℕ × ℕ)) (S : IsShape (torus m p d gs)) where
  pub pair_sizes : All (λ pair. (1 ≤ pair.1) × (pair.1 ≤ 65536)) gs
  pair_sizes = All-from_get_or (λ pair. (1 ≤ pair.1) × (pair.1 ≤ 65536)) gs (0, 0) (λ k l. at k (dim_at gs k l) (S.sizes k _ (omega (arith, length-dims gs))))
    where
      at : (k : ℕ) {D : Dimension} → D ≡ dimension_of (get_or gs k (0, 0)) → (1 ≤ D.size) × (D.size ≤ m) → (1 ≤ (get_or gs k (0, 0)).1) × ((get_or gs k (0, 0)).1 ≤ 65536)
      at k e h = (subst (λ (D : Dimension). 1 ≤ D.size) e h.0, omega (arith, subst (λ (D : Dimension). D.size ≤ m) e h.1, S.m_high))

  pub pair_positive : All (λ pair. 1 ≤ pair.1) gs
  pair_positive = λ k g l. (pair_sizes k g l).0

  module _ (M : ℕ) (M_is : M ≡ m) where
    pub order_fails : (w : ℕ) → w ≡ p ^ d % M → (w ≡ 1 → ⊥) → first_fault (torus m p d gs) ≡ Some NotOrder
    order_fails w e n = fault_from (torus m p d gs) S NotOrder (λ h. n (e ∙ ap (λ z. p ^ d % z) M_is ∙ h))

    pub order_holds : (w : ℕ) → w ≡ p ^ d % M → w ≡ 1 → HasOrder (torus m p d gs)
    order_holds w e h = ap (λ z. p ^ d % z) (sym M_is) ∙ sym e ∙ h

    wrapped_is : (i : ℕ) → i < length gs → wrapped (torus m p d gs) i ≡ wrapped_pair M gs i
    wrapped_is i l = ap₂ (λ (D : Dimension) z. D.generator ^ D.size % z) (dim_at gs i l) (sym M_is)

    -- ---- powers of p in a list
    module _ (xs ys : List ℕ) (XS : IsFilled (λ u. p ^ u % M) d xs) (ys_is : ys ≡ xs) where
      long_powers : length ys ≡ d
      long_powers = ap length ys_is ∙ XS.long

      power_at : (u : ℕ) → u < d → get_or ys u 0 ≡ p ^ u % M
      power_at u l = ap (λ z. get_or z u 0) ys_is ∙ XS.at u l

      is_power : (i : ℕ) → i < length gs → IsListed ys (wrapped_pair M gs i) → IsPower (torus m p d gs) i
      is_power i l (j, k, e) = (j, wrapped_is i l ∙ e ∙ power_at j (omega (arith, long_powers)) ∙ ap (λ z. p ^ j % z) M_is)

      are_listed : HasOrder (torus m p d gs) → (i : ℕ) → i < length gs → IsPower (torus m p d gs) i → IsListed ys (wrapped_pair M gs i)
      are_listed o i l w = go (power_below (torus m p d gs) S o i w)
        where
          go : (j : ℕ) × (j < d) × (wrapped (torus m p d gs) i ≡ p ^ j % m) → IsListed ys (wrapped_pair M gs i)
          go (j, k, e) = (j, omega (arith, long_powers), sym (wrapped_is i l) ∙ e ∙ ap (λ z. p ^ j % z) (sym M_is) ∙ sym (power_at j k))

      pub power_fails : HasOrder (torus m p d gs) → (i : ℕ) → i < length gs → (IsListed ys (wrapped_pair M gs i) → ⊥) → ((k : ℕ) → k < i → IsListed ys (wrapped_pair M gs k)) → first_fault (torus m p d gs) ≡ Some (NotPower i)
      power_fails o i l n h = fault_from (torus m p d gs) S (NotPower i) (record { order = o; within = omega (arith, length-dims gs); before = λ k s. is_power k (omega arith) (h k s); fails = λ w. n (are_listed o i l w) })

      pub powers_hold : ((k : ℕ) → k < length gs → IsListed ys (wrapped_pair M gs k)) → ArePowers (torus m p d gs) (dimension_count (torus m p d gs))
      powers_hold h = λ k l. is_power k (omega (arith, length-dims gs)) (h k (omega (arith, length-dims gs)))

      pub powers_below : All (λ x. x < M) ys
      powers_below = filled_below (λ u. p ^ u % M) d M xs ys XS ys_is (λ u. mod-lt (p ^ u) (subst (λ z. 0 < z) (sym M_is) (m_positive (torus m p d gs) S)))

      pub powers_some : 0 < length ys
      powers_some = omega (arith, long_powers, d_positive (torus m p d gs) S)

      module _ (o : HasOrder (torus m p d gs)) (h : (k : ℕ) → k < length gs → IsListed ys (wrapped_pair M gs k)) where
        pub count_fails : (d * count (dimensions_of gs) ≡ number_of_units m → ⊥) → first_fault (torus m p d gs) ≡ Some WrongCount
        count_fails n = fault_from (torus m p d gs) S WrongCount (record { order = o; powers = powers_hold h; fails = n })

        -- ---- elements and their products
        module _ (es fs : List ℕ) (ES : IsFilled (λ k. generated (dimensions_of gs) (index (dimensions_of gs) k) % M) (count (dimensions_of gs)) es) (fs_is : fs ≡ es) (counted : d * count (dimensions_of gs) ≡ number_of_units m) where
          pub elements_below : All (λ x. x < M) fs
          elements_below = filled_below (λ k. generated (dimensions_of gs) (index (dimensions_of gs) k) % M) (count (dimensions_of gs)) M es fs ES fs_is (λ k. mod-lt (generated (dimensions_of gs) (index (dimensions_of gs) k)) (subst (λ z. 0 < z) (sym M_is) (m_positive (torus m p d gs) S)))

          pub places_are : length fs * length ys ≡ place_count (torus m p d gs)
          places_are = ap₂ (λ y z. y * z) (ap length fs_is ∙ ES.long) long_powers

          product_is : (i : ℕ) → i < place_count (torus m p d gs) → product_at M fs ys i ≡ unit_at (torus m p d gs) i
          product_is i l = ap (λ z. (get_or fs (i / z) 0 * get_or ys (i % z) 0) % M) long_powers ∙ ap₂ (λ y z. (y * z) % M) (ap (λ z. get_or z (i / d) 0) fs_is ∙ ES.at (i / d) (slot_fits (torus m p d gs) S i l)) (power_at (i % d) (power_fits (torus m p d gs) S i)) ∙ mul-mod_second (generated (dimensions_of gs) (index (dimensions_of gs) (i / d)) % M) (p ^ (i % d)) M ∙ ap (λ z. (generated (dimensions_of gs) (index (dimensions_of gs) (i / d)) % z * p ^ (i % d)) % z) M_is

          differ : (n : ℕ) → n ≤ place_count (torus m p d gs) → Differ (product_at M fs ys) n → AreDistinct (torus m p d gs) n
          differ n b D = λ i j l k e. D i j l k (product_is i (omega arith) ∙ e ∙ sym (product_is j (omega arith)))

          pub distinct_fails : (e : CubeFault) → IsRepeatFault (product_at M fs ys) (length fs * length ys) e → first_fault (torus m p d gs) ≡ Some e
          distinct_fails e (a, b, is, R) = fault_from (torus m p d gs) S (NotDistinct a b) (record { order = o; powers = powers_hold h; counted = counted; within = within; earlier = R.earlier; same = sym (product_is a (omega (arith, within, R.earlier))) ∙ R.same ∙ product_is b within; before = differ b (omega (arith, within)) R.before }) ∙ ap (λ z. Some z) (sym is)
            where
              within : b < place_count (torus m p d gs)
              within = subst (λ z. b < z) places_are R.within

          -- ---- the cube
          module _ (table : List ℕ) (T : IsTable (product_at M fs ys) (length fs * length ys) M table) where
            stands : (i : ℕ) → i < place_count (torus m p d gs) → get_or table (unit_at (torus m p d gs) i) 0 ≡ i
            stands i l = ap (λ z. get_or table z 0) (sym (product_is i l)) ∙ T.at i (subst (λ z. i < z) (sym places_are) l)

            pub made : IsCube (torus m p d gs)
            made = record { shape = S; order = o; powers = powers_hold h; counted = counted; distinct = λ i j l k e. sym (stands i l) ∙ ap (λ z. get_or table z 0) e ∙ stands j k }

            pub made_passes : first_fault (torus m p d gs) ≡ None
            made_passes = cube_passes (torus m p d gs) made

            place_of : (k : ℕ) → k < m → UnitModulo m k → get_or table k 0 ≡ located (torus m p d gs) k
            place_of k l u = ap (λ z. get_or table z 0) (sym (located_at (torus m p d gs) made k u ∙ mod-eq_of_lt l)) ∙ stands (located (torus m p d gs) k) (located_in (torus m p d gs) made k u)

            -- as the cube holds it
            pub made_held : (Ds : List Dimension) → Ds ≡ dimensions_of gs → IsCube (record { m = M; p = p; d = d; dimensions = Ds })
            made_held Ds e = subst (λ z. IsCube (record { m = M; p = p; d = d; dimensions = z })) (sym e) (subst (λ z. IsCube (record { m = z; p = p; d = d; dimensions = dimensions_of gs })) (sym M_is) made)

            pub places_held : (Ds : List Dimension) → Ds ≡ dimensions_of gs → (k : ℕ) → k < M → UnitModulo M k → get_or table k 0 ≡ located (record { m = M; p = p; d = d; dimensions = Ds }) k
            places_held Ds e k l u = place_of k (subst (λ z. k < z) M_is l) (subst (λ z. UnitModulo z k) M_is u) ∙ ap₂ (λ n z. located (record { m = n; p = p; d = d; dimensions = z }) k) (sym M_is) (sym e)
