-- The operations of R modulo q go value by value.
use Rattle.std.specs.Prelude.{◌≡◌, ℕ, ◌+◌, ◌-◌, ◌*◌, ◌/◌, ◌%◌, ◌<◌, nat_lt, Bool, IsTrue, All, List, map, length, get_or}
use Rattle.std.proofs.Common.{sym, ◌∙◌, ap, ap₂, arith, div-add-mod', mod-eq_of_lt, mul_comm}
use Rattle.std.proofs.lemmas.List.{length-map, get_or-map, ext_get_or}
use Rattle.algebra.specs.Ring.{CommRing, residues}
use Rattle.algebra.specs.Hom.{Preserves}
use Rattle.algebra.specs.HeldRing.{Held}
use Rattle.algebra.specs.Power.{power}
use Rattle.algebra.specs.Poly.{value_at, plus, negated, scaled, times, at_power, remainder}
use Rattle.algebra.specs.Divisor.{UnitModulo, units}
use Rattle.algebra.specs.Whole.{residue}
use Rattle.algebra.proofs.Held.{same_held}
use Rattle.algebra.proofs.Homs.{keeps_power}
use Rattle.algebra.proofs.HeldLists.{each_list, held_preserves, times_held, at_power_held}
use Rattle.algebra.proofs.HeldPowers.{held_power, held_power-mul}
use Rattle.algebra.proofs.HeldValues.{held_value-plus, held_value-times, held_value-at_power}
use Rattle.algebra.proofs.Maps.{map_negated, map_scaled}
use Rattle.algebra.proofs.Values.{value_at-negated, value_at-scaled}
use Rattle.algebra.proofs.UnitList.{unit_at, unit_positive, unit_is}
use Rattle.cyclotomic.specs.Cyclotomic.{degree}
use Rattle.cyclotomic.proofs.Roots.{root-shift}
use Rattle.residue_rows.specs.Rows.{phi_modulo, R_modulo}
use Rattle.residue_rows.specs.Values.{Root, value_of, values_of}
use Rattle.residue_rows.specs.ValueLaws.{IsAcceptedRoot, pointwise, ValuesKeep}
use Rattle.residue_rows.proofs.ValuesRows.{laws_of, ring_of, to_held, from_held, residue_held_of, value_is, value_in, on, some, omega_in, place_in, count_is, keeps_at, length-values_of, get_or-values_of, get_or-over, length-over}

module _ (m : ℕ) (r : Root) (A : IsAcceptedRoot m r) where
  abbrev held : ℕ → Bool
  held a = nat_lt a r.q

  abbrev H : CommRing
  H = ring_of r.q (on m r A)

  abbrev K : Preserves H.ops (residues r.q) (λ a. a.0)
  K = held_preserves (laws_of r.q (on m r A))

  abbrev w : Held held
  w = (r.omega, omega_in m r A)

  -- values that are made from others, at each unit
  values_over : (x : List ℕ) (g : ℕ → ℕ) → ((j : ℕ) → 0 < j → UnitModulo m j → value_of r j x ≡ g j) → values_of m r x ≡ map g (units m)
  values_over x g h = ext_get_or 0 (values_of m r x) (map g (units m)) (length-values_of m r A x ∙ sym (count_is m r A) ∙ sym (length-map (units m) g)) (λ i l. let k : i < degree m = omega (arith, length-values_of m r A x) in get_or-values_of m r A x i k ∙ h (unit_at m i) (unit_positive m i (place_in m r A i k)) (unit_is m i (some m r A) (place_in m r A i k)) ∙ sym (get_or-map g (units m) i 0 0 (place_in m r A i k)))

  values_map : (x a : List ℕ) (f : ℕ → ℕ) → ((j : ℕ) → value_of r j x ≡ f (value_of r j a)) → values_of m r x ≡ map f (values_of m r a)
  values_map x a f h = ext_get_or 0 (values_of m r x) (map f (values_of m r a)) (length-values_of m r A x ∙ sym (length-values_of m r A a) ∙ sym (length-map (values_of m r a) f)) (λ i l. let k : i < degree m = omega (arith, length-values_of m r A x) in get_or-values_of m r A x i k ∙ h (unit_at m i) ∙ ap f (sym (get_or-values_of m r A a i k)) ∙ sym (get_or-map f (values_of m r a) i 0 0 (omega (arith, length-values_of m r A a))))

  values_both : (x a b : List ℕ) (f : ℕ → ℕ → ℕ) → ((j : ℕ) → 0 < j → UnitModulo m j → value_of r j x ≡ f (value_of r j a) (value_of r j b)) → values_of m r x ≡ pointwise f (values_of m r a) (values_of m r b)
  values_both x a b f h = ext_get_or 0 (values_of m r x) (pointwise f (values_of m r a) (values_of m r b)) (length-values_of m r A x ∙ sym (length-values_of m r A a) ∙ sym (length-over g (length (values_of m r a)))) (λ i l. let k : i < degree m = omega (arith, length-values_of m r A x) in get_or-values_of m r A x i k ∙ h (unit_at m i) (unit_positive m i (place_in m r A i k)) (unit_is m i (some m r A) (place_in m r A i k)) ∙ ap₂ f (sym (get_or-values_of m r A a i k)) (sym (get_or-values_of m r A b i k)) ∙ sym (get_or-over g (length (values_of m r a)) i 0 (omega (arith, length-values_of m r A a))))
    where
      g : ℕ → ℕ
      g i = f (get_or (values_of m r a) i 0) (get_or (values_of m r b) i 0)

  point_held : (j : ℕ) → IsTrue (nat_lt (power (residues r.q) r.omega j) r.q)
  point_held j = held_power (laws_of r.q (on m r A)) r.omega (omega_in m r A) j

  value-negated : (j : ℕ) (a : List ℕ) → All (λ c. c < r.q) a → value_of r j (negated (residues r.q) a) ≡ (r.q - value_of r j a) % r.q
  value-negated j a h = each_list held (λ a. value_of r j (negated (residues r.q) a) ≡ (residues r.q).neg (value_of r j a)) (λ a. ap (value_of r j) (sym (map_negated K a)) ∙ sym (value_is r.q (on m r A) w j (negated H.ops a)) ∙ ap (λ z. z.0) (value_at-negated H (power H.ops w j) a) ∙ ap (residues r.q).neg (value_is r.q (on m r A) w j a)) a (to_held r.q (on m r A) a h) ∙ ap (λ z. (r.q - z) % r.q) (mod-eq_of_lt (value_in r.q (on m r A) r.omega (omega_in m r A) j a h))

  value-scaled : (c j : ℕ) (a : List ℕ) → IsTrue (nat_lt c r.q) → All (λ c. c < r.q) a → value_of r j (scaled (residues r.q) c a) ≡ (c * value_of r j a) % r.q
  value-scaled c j a hc h = each_list held (λ a. value_of r j (scaled (residues r.q) c a) ≡ (c * value_of r j a) % r.q) (λ a. ap (value_of r j) (sym (map_scaled K (c, hc) a)) ∙ sym (value_is r.q (on m r A) w j (scaled H.ops (c, hc) a)) ∙ ap (λ z. z.0) (value_at-scaled H (power H.ops w j) (c, hc) a) ∙ ap (λ z. (c * z) % r.q) (value_is r.q (on m r A) w j a)) a (to_held r.q (on m r A) a h)

  -- only the residue modulo m of an exponent counts
  pub power_residue : (n : ℕ) → power (residues r.q) r.omega n ≡ power (residues r.q) r.omega (n % m)
  power_residue n = ap (power (residues r.q) r.omega) (sym (div-add-mod' n m) ∙ ap (λ z. z + n % m) (mul_comm (n / m) m)) ∙ sym (keeps_power K w (m * (n / m) + n % m)) ∙ ap (λ z. z.0) (root-shift H w m (n / m) (n % m) (same_held held (keeps_power K w m ∙ A.is_root.root))) ∙ keeps_power K w (n % m)

  value-substituted : (k j : ℕ) (a : List ℕ) → 0 < k → All (λ c. c < r.q) a → value_of r j (at_power (residues r.q) k a) ≡ value_of r ((j * k) % m) a
  value-substituted k j a p h = held_value-at_power (laws_of r.q (on m r A)) k p (power (residues r.q) r.omega j) (point_held j) a (to_held r.q (on m r A) a h) ∙ ap (λ x. value_at (residues r.q) x a) (sym (held_power-mul (laws_of r.q (on m r A)) r.omega (omega_in m r A) j k) ∙ power_residue (j * k))

  pub values_keep : ValuesKeep m r
  values_keep = record {
    sum = λ a b h k. values_both (plus (residues r.q) a b) a b (λ x y. (x + y) % r.q) (λ j p u. held_value-plus (laws_of r.q (on m r A)) (power (residues r.q) r.omega j) (point_held j) a b (to_held r.q (on m r A) a h.1) (to_held r.q (on m r A) b k.1));
    product = λ a b h k. values_both ((R_modulo m r.q).mul a b) a b (λ x y. (x * y) % r.q) (λ j p u. keeps_at m r A j p u (times (residues r.q) a b) (from_held r.q (on m r A) (times (residues r.q) a b) (times_held (laws_of r.q (on m r A)) a b (to_held r.q (on m r A) a h.1) (to_held r.q (on m r A) b k.1))) ∙ held_value-times (laws_of r.q (on m r A)) (power (residues r.q) r.omega j) (point_held j) a b (to_held r.q (on m r A) a h.1) (to_held r.q (on m r A) b k.1));
    negative = λ a h. values_map (negated (residues r.q) a) a (λ x. (r.q - x) % r.q) (λ j. value-negated j a h.1);
    multiple = λ c a h. values_map (scaled (residues r.q) (residue r.q c) a) a (λ x. (residue r.q c * x) % r.q) (λ j. value-scaled (residue r.q c) j a (residue_held_of r.q (on m r A) c) h.1);
    substituted = λ k a p unit h. values_over (remainder (residues r.q) (phi_modulo m r.q) (at_power (residues r.q) k a)) (λ j. value_of r ((j * k) % m) a) (λ j q u. keeps_at m r A j q u (at_power (residues r.q) k a) (from_held r.q (on m r A) (at_power (residues r.q) k a) (at_power_held (laws_of r.q (on m r A)) k a (to_held r.q (on m r A) a h.1))) ∙ value-substituted k j a p h.1);
  }
