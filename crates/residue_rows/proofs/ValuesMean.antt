-- The polynomial with given values at the units.
use Rattle.std.specs.Prelude.{◌≡◌, ◌≢◌, ◌⊎◌, ℕ, ◌-◌, ◌*◌, ◌%◌, ◌<◌, nat_lt, Bool, IsTrue, All, List, map, length, get_or}
use Rattle.std.proofs.Common.{sym, ◌∙◌, ap, subst, arith, inl, inr, lt-ltb}
use Rattle.std.proofs.lemmas.Bool.{cases_order}
use Rattle.std.proofs.lemmas.List.{length-map, get_or-map, ext_get_or}
use Rattle.std.proofs.lemmas.Nat.{mul-mod_second}
use mathlib.Core.Path.{fun_ext}
use Rattle.algebra.specs.Ring.{CommRing, residues}
use Rattle.algebra.specs.Range.{total, adds}
use Rattle.algebra.specs.Power.{power, number, less, IsUnit}
use Rattle.algebra.specs.Poly.{all_held, remainder}
use Rattle.algebra.specs.Hom.{Preserves}
use Rattle.algebra.specs.Divisor.{units}
use Rattle.algebra.specs.HeldRing.{Held}
use Rattle.algebra.specs.Whole.{below}
use Rattle.algebra.proofs.Held.{same_held}
use Rattle.algebra.proofs.Homs.{keeps_less, keeps_power, keeps_adds, keeps_number}
use Rattle.algebra.proofs.HeldLists.{values, values_held, held_preserves}
use Rattle.algebra.proofs.HeldPowers.{held_power-mul}
use Rattle.algebra.proofs.UnitList.{unit_at, unit_positive, unit_is, unit_lt, units_ascend}
use Rattle.cyclotomic.specs.Cyclotomic.{degree}
use Rattle.cyclotomic.specs.Roots.{IsRoot}
use Rattle.cyclotomic.specs.RootLaws.{HasHeldInverse, HasValues}
use Rattle.cyclotomic.proofs.Listed.{listed, length-listed, listed_at}
use Rattle.cyclotomic.proofs.PhiValues.{value_listed}
use Rattle.cyclotomic.proofs.HeldRoots.{values_determine_law}
use Rattle.residue_rows.specs.Rows.{phi_modulo}
use Rattle.residue_rows.specs.Values.{Root, value_of, values_of, IsRow, share, mean, interpolated}
use Rattle.residue_rows.specs.ValueLaws.{IsAcceptedRoot, ValuesAre}
use Rattle.residue_rows.proofs.ValuesSums.{pointed, pointed_value}
use Rattle.residue_rows.proofs.ValuesRows.{share_in, share_is, laws_of, ring_of, to_held, from_held, entry_in, number_is, value_is, back, on, some, omega_in, back_held, are_pair, place_in, keeps_at, remainder_row, length-values_of, get_or-values_of, values_row, same_values_of, get_or-over, length-over}

module _ (m : ℕ) (r : Root) (A : IsAcceptedRoot m r) where
  abbrev held : ℕ → Bool
  held a = nat_lt a r.q

  abbrev H : CommRing
  H = ring_of r.q (on m r A)

  abbrev K : Preserves H.ops (residues r.q) (λ a. a.0)
  K = held_preserves (laws_of r.q (on m r A))

  abbrev w : Held held
  w = (r.omega, omega_in m r A)

  abbrev v : Held held
  v = (back m r A, back_held m r A)

  inverse : H.mul w v ≡ H.one
  inverse = same_held held (are_pair m r A).inverse

  root : IsRoot H.ops w m
  root = record { root = same_held held (keeps_power K w m ∙ A.is_root.root); at_divisors = λ k p l d. go k (A.is_root.at_divisors k p l d) }
    where
      go : (k : ℕ) → HasHeldInverse held (residues r.q) (less (residues r.q) (power (residues r.q) r.omega k) (residues r.q).one) → IsUnit H.ops (less H.ops (power H.ops w k) H.one)
      go k (c, h, e) = ((c, h), same_held held (sym (ap (λ z. (residues r.q).mul z c) (keeps_less K (power H.ops w k) H.one ∙ ap (λ z. less (residues r.q) z (residues r.q).one) (keeps_power K w k)) ∙ e)))

  one_more : 1 < m
  one_more = let l = A.some in omega arith

  above_one : 1 < r.q
  above_one = let l = A.above in omega arith

  abbrev c : Held held
  c = (share m r.q, lt-ltb (share m r.q) r.q (share_in m r.q one_more above_one A.one_more))

  scale : H.mul c (number H.ops m) ≡ H.one
  scale = same_held held (ap (λ z. (share m r.q * z) % r.q) (keeps_number K m ∙ number_is r.q (on m r A) m) ∙ mul-mod_second (share m r.q) m r.q ∙ share_is m r.q one_more above_one A.one_more)

  within : (u : ℕ) → u < length (units m) → unit_at m u < m
  within u l = unit_lt m u one_more l

  apart : (u i : ℕ) → u < length (units m) → i < length (units m) → u ≢ i → unit_at m u ≢ unit_at m i
  apart u i l k d e = go (cases_order u i)
    where
      go : (u ≡ i) ⊎ ((u < i) ⊎ (i < u)) → ⊥
      go (inl f) = d f
      go (inr (inl f)) = omega (arith, units_ascend m u i f k, e)
      go (inr (inr f)) = omega (arith, units_ascend m i u f l, e)

  module _ (b : List ℕ) (b_in : All (λ c. c < r.q) b) where
    abbrev entry : ℕ → Held held
    entry u = (get_or b u 0, lt-ltb (get_or b u 0) r.q (entry_in r.q (on m r A) b b_in u))

    abbrev coefficient : ℕ → Held held
    coefficient = pointed H w v m inverse root c scale (length (units m)) (unit_at m) within apart entry

    mean_is : (t : ℕ) → (coefficient t).0 ≡ mean m r b t
    mean_is t = ap (λ z. (share m r.q * z) % r.q) (keeps_adds K (length (units m)) (λ u. H.mul (entry u) (power H.ops v (t * unit_at m u))) ∙ ap (total (adds (residues r.q)) (length (units m))) (fun_ext (λ u. ap (λ z. (get_or b u 0 * z) % r.q) (keeps_power K v (t * unit_at m u) ∙ sym (held_power-mul (laws_of r.q (on m r A)) r.omega (omega_in m r A) (m - 1) (t * unit_at m u))))))

    -- the sums as a held list
    sums_are : map (mean m r b) (below m) ≡ values held (listed m coefficient)
    sums_are = ext_get_or 0 (map (mean m r b) (below m)) (values held (listed m coefficient)) (length-over (mean m r b) m ∙ sym long) (λ i l. let k : i < m = omega (arith, length-over (mean m r b) m) in get_or-over (mean m r b) m i 0 k ∙ sym (get_or-map (λ a. a.0) (listed m coefficient) i H.zero 0 (omega (arith, length-listed m coefficient)) ∙ ap (λ z. z.0) (listed_at m coefficient H.zero i k) ∙ mean_is i))
      where
        long : length (values held (listed m coefficient)) ≡ m
        long = length-map (listed m coefficient) (λ a. a.0) ∙ length-listed m coefficient

    pub sums_in : All (λ c. c < r.q) (map (mean m r b) (below m))
    sums_in = from_held r.q (on m r A) (map (mean m r b) (below m)) (subst (λ z. IsTrue (all_held held z)) (sym sums_are) (values_held held (listed m coefficient)))

    pub sums_at : (i : ℕ) → i < degree m → value_of r (unit_at m i) (map (mean m r b) (below m)) ≡ get_or b i 0
    sums_at i l = ap (value_of r (unit_at m i)) sums_are ∙ sym (value_is r.q (on m r A) w (unit_at m i) (listed m coefficient)) ∙ ap (λ z. z.0) (value_listed H w m coefficient (unit_at m i) ∙ pointed_value H w v m inverse root c scale (length (units m)) (unit_at m) within apart entry i (place_in m r A i l))

    pub interpolated_row : IsRow m r.q (interpolated m r b)
    unfolding interpolated
    interpolated_row = remainder_row m r A (map (mean m r b) (below m)) sums_in

    pub interpolated_at : (i : ℕ) → i < degree m → value_of r (unit_at m i) (interpolated m r b) ≡ get_or b i 0
    unfolding interpolated
    interpolated_at i l = keeps_at m r A (unit_at m i) (unit_positive m i (place_in m r A i l)) (unit_is m i (some m r A) (place_in m r A i l)) (map (mean m r b) (below m)) sums_in ∙ sums_at i l

    pub values_interpolated : length b ≡ degree m → values_of m r (interpolated m r b) ≡ b
    values_interpolated e = ext_get_or 0 (values_of m r (interpolated m r b)) b (length-values_of m r A (interpolated m r b) ∙ sym e) (λ i l. let k : i < degree m = omega (arith, length-values_of m r A (interpolated m r b)) in get_or-values_of m r A (interpolated m r b) i k ∙ interpolated_at i k)

  has_values : (a : List ℕ) → IsRow m r.q a → HasValues held (residues r.q) r.omega m (λ i. get_or (values_of m r a) i 0) a
  has_values a h = record { long = h.0; is_held = to_held r.q (on m r A) a h.1; values = λ i l. sym (get_or-values_of m r A a i l) }

  pub determined : (a b : List ℕ) → IsRow m r.q a → IsRow m r.q b → values_of m r a ≡ values_of m r b → a ≡ b
  determined a b h k e = values_determine_law (laws_of r.q (on m r A)) r.omega (back m r A) m (λ i. get_or (values_of m r b) i 0) a b (some m r A) (are_pair m r A) (subst (λ z. HasValues held (residues r.q) r.omega m (λ i. get_or z i 0) a) e (has_values a h)) (has_values b k)

  pub values_are : ValuesAre m r
  values_are = record {
    values_in = λ a h. values_row m r A a h.1;
    row_in = λ v h. interpolated_row v h.1;
    forth = λ v h. values_interpolated v h.1 h.0;
    back = λ a h. determined (interpolated m r (values_of m r a)) a (interpolated_row (values_of m r a) (values_row m r A a h.1).1) h (values_interpolated (values_of m r a) (values_row m r A a h.1).1 (length-values_of m r A a));
    determine = determined;
    remainder = λ a h. same_values_of m r A (remainder (residues r.q) (phi_modulo m r.q) a) a (λ j p u. keeps_at m r A j p u a h);
  }
