-- What is done to n values is done to the polynomial that has them.
use Rattle.std.specs.Prelude.{◌≡◌, ℕ, zero, suc, ◌+◌, ◌-◌, ◌*◌, ◌%◌, ◌<◌, max, List, map, length, get_or, ℤ, All}
use Rattle.std.proofs.Common.{sym, ◌∙◌, ap, ap₂, subst, arith, mod-lt, le_of_lt}
use Rattle.std.proofs.lemmas.List.{length-map, get_or-map, ext_get_or}
use Rattle.std.proofs.lemmas.List.Elements.{All-from_get_or}
use Rattle.std.proofs.Math.Nat.{add-mod-mod}
use Rattle.algebra.specs.Ring.{residues}
use Rattle.algebra.specs.Poly.{plus, times, scaled, at_power, remainder}
use Rattle.algebra.specs.Divisor.{UnitModulo, units}
use Rattle.algebra.specs.Whole.{residue, below}
use Rattle.algebra.proofs.Lists.{length-plus}
use Rattle.algebra.proofs.HeldLists.{plus_held, times_held, at_power_held}
use Rattle.algebra.proofs.Units.{unit_of_inverse, inverse_of_unit, inverse_of_product, residue_of_unit}
use Rattle.algebra.proofs.UnitList.{unit_at, unit_positive, unit_is, unit_place}
use Rattle.cyclotomic.specs.Cyclotomic.{degree}
use Rattle.residue_rows.specs.Rows.{phi_modulo, R_modulo}
use Rattle.residue_rows.specs.Values.{Root, value_of, values_of, IsRow, interpolated}
use Rattle.residue_rows.specs.ValueLaws.{IsAcceptedRoot, pointwise}
use Rattle.residue_rows.proofs.ValuesRows.{laws_of, to_held, from_held, entry_in, on, some, place_in, count_is, get_or-values_of, get_or-over, length-over, remainder_row, length-values_of}
use Rattle.residue_rows.proofs.ValuesMean.{values_are, determined}
use Rattle.residue_rows.proofs.ValuesKeep.{values_keep}

-- a list with entries below q, made place by place
pub pointwise_row : (m q : ℕ) (f : ℕ → ℕ → ℕ) → ((x y : ℕ) → f x y < q) → (v w : List ℕ) → IsRow m q v → IsRow m q (pointwise f v w)
pointwise_row m q f below v w h = (length-over g (length v) ∙ h.0, All-from_get_or (λ c. c < q) (pointwise f v w) 0 (λ i l. subst (λ c. c < q) (sym (get_or-over g (length v) i 0 (omega (arith, length-over g (length v))))) (below (get_or v i 0) (get_or w i 0))))
  where
    g : ℕ → ℕ
    g i = f (get_or v i 0) (get_or w i 0)

pub map_row : (m q : ℕ) (f : ℕ → ℕ) → ((x : ℕ) → f x < q) → (v : List ℕ) → IsRow m q v → IsRow m q (map f v)
map_row m q f below v h = (length-map v f ∙ h.0, All-from_get_or (λ c. c < q) (map f v) 0 (λ i l. subst (λ c. c < q) (sym (get_or-map f v i 0 0 (omega (arith, length-map v f)))) (below (get_or v i 0))))

-- w has at the place of each unit j the entry of v at the place of j k
pub record IsMoved (m k : ℕ) (v w : List ℕ) : Type 0 where
  pub moved : (i p : ℕ) → i < degree m → p < degree m → unit_at m p ≡ (unit_at m i * k) % m → get_or w i 0 ≡ get_or v p 0

module _ (m : ℕ) (r : Root) (A : IsAcceptedRoot m r) where
  forth : (v : List ℕ) → IsRow m r.q v → values_of m r (interpolated m r v) ≡ v
  forth = (values_are m r A).forth

  pub row_in : (v : List ℕ) → IsRow m r.q v → IsRow m r.q (interpolated m r v)
  row_in = (values_are m r A).row_in

  -- the polynomial with the values v
  pub interpolated_only : (v a : List ℕ) → IsRow m r.q v → IsRow m r.q a → values_of m r a ≡ v → interpolated m r v ≡ a
  interpolated_only v a h k e = determined m r A (interpolated m r v) a (row_in v h) k (forth v h ∙ sym e)

  -- it is the remainder of each polynomial with these values at the units
  pub interpolated_of : (v a : List ℕ) → IsRow m r.q v → All (λ c. c < r.q) a → ((i : ℕ) → i < degree m → value_of r (unit_at m i) a ≡ get_or v i 0) → interpolated m r v ≡ remainder (residues r.q) (phi_modulo m r.q) a
  interpolated_of v a h k same = interpolated_only v (remainder (residues r.q) (phi_modulo m r.q) a) h (remainder_row m r A a k) ((values_are m r A).remainder a k ∙ ext_get_or 0 (values_of m r a) v (length-values_of m r A a ∙ sym h.0) (λ i l. let s : i < degree m = omega (arith, length-values_of m r A a) in get_or-values_of m r A a i s ∙ same i s))

  residue_in : (x : ℕ) → x % r.q < r.q
  residue_in x = mod-lt x (on m r A)

  -- sums and differences
  sum_row : (a b : List ℕ) → IsRow m r.q a → IsRow m r.q b → IsRow m r.q ((R_modulo m r.q).add a b)
  sum_row a b h k = (length-plus (residues r.q) a b ∙ same, from_held r.q (on m r A) (plus (residues r.q) a b) (plus_held (laws_of r.q (on m r A)) a b (to_held r.q (on m r A) a h.1) (to_held r.q (on m r A) b k.1)))
    where
      same : max (length a) (length b) ≡ degree m
      same = omega (arith, h.0, k.0)

  negative_row : (a : List ℕ) → IsRow m r.q a → IsRow m r.q ((R_modulo m r.q).neg a)
  negative_row a h = map_row m r.q (residues r.q).neg (λ x. residue_in (r.q - x % r.q)) a h

  pub interpolated-sum : (v w : List ℕ) → IsRow m r.q v → IsRow m r.q w → interpolated m r (pointwise (λ x y. (x + y) % r.q) v w) ≡ (R_modulo m r.q).add (interpolated m r v) (interpolated m r w)
  interpolated-sum v w h k = interpolated_only (pointwise (λ x y. (x + y) % r.q) v w) ((R_modulo m r.q).add (interpolated m r v) (interpolated m r w)) (pointwise_row m r.q (λ x y. (x + y) % r.q) (λ x y. residue_in (x + y)) v w h) (sum_row (interpolated m r v) (interpolated m r w) (row_in v h) (row_in w k)) ((values_keep m r A).sum (interpolated m r v) (interpolated m r w) (row_in v h) (row_in w k) ∙ ap₂ (pointwise (λ x y. (x + y) % r.q)) (forth v h) (forth w k))

  pub interpolated-negative : (v : List ℕ) → IsRow m r.q v → interpolated m r (map (λ x. (r.q - x) % r.q) v) ≡ (R_modulo m r.q).neg (interpolated m r v)
  interpolated-negative v h = interpolated_only (map (λ x. (r.q - x) % r.q) v) ((R_modulo m r.q).neg (interpolated m r v)) (map_row m r.q (λ x. (r.q - x) % r.q) (λ x. residue_in (r.q - x)) v h) (negative_row (interpolated m r v) (row_in v h)) ((values_keep m r A).negative (interpolated m r v) (row_in v h) ∙ ap (map (λ x. (r.q - x) % r.q)) (forth v h))

  pub interpolated-difference : (v w : List ℕ) → IsRow m r.q v → IsRow m r.q w → interpolated m r (pointwise (λ x y. (x + (r.q - y)) % r.q) v w) ≡ (R_modulo m r.q).add (interpolated m r v) ((R_modulo m r.q).neg (interpolated m r w))
  interpolated-difference v w h k = ap (interpolated m r) (ext_get_or 0 (pointwise (λ x y. (x + (r.q - y)) % r.q) v w) (pointwise (λ x y. (x + y) % r.q) v turned) (length-over f (length v) ∙ sym (length-over g (length v))) (λ i l. same i (omega (arith, length-over f (length v))))) ∙ interpolated-sum v turned h (map_row m r.q (λ x. (r.q - x) % r.q) (λ x. residue_in (r.q - x)) w k) ∙ ap ((R_modulo m r.q).add (interpolated m r v)) (interpolated-negative w k)
    where
      turned : List ℕ
      turned = map (λ x. (r.q - x) % r.q) w

      f : ℕ → ℕ
      f i = (get_or v i 0 + (r.q - get_or w i 0)) % r.q

      g : ℕ → ℕ
      g i = (get_or v i 0 + get_or turned i 0) % r.q

      same : (i : ℕ) → i < length v → get_or (map f (below (length v))) i 0 ≡ get_or (map g (below (length v))) i 0
      same i l = get_or-over f (length v) i 0 l ∙ sym (add-mod-mod (get_or v i 0) (r.q - get_or w i 0) r.q) ∙ ap (λ z. (get_or v i 0 + z) % r.q) (sym (get_or-map (λ x. (r.q - x) % r.q) w i 0 0 (omega (arith, h.0, k.0)))) ∙ sym (get_or-over g (length v) i 0 l)

  -- products and multiples
  pub interpolated-product : (v w : List ℕ) → IsRow m r.q v → IsRow m r.q w → interpolated m r (pointwise (λ x y. (x * y) % r.q) v w) ≡ (R_modulo m r.q).mul (interpolated m r v) (interpolated m r w)
  interpolated-product v w h k = interpolated_only (pointwise (λ x y. (x * y) % r.q) v w) ((R_modulo m r.q).mul (interpolated m r v) (interpolated m r w)) (pointwise_row m r.q (λ x y. (x * y) % r.q) (λ x y. residue_in (x * y)) v w h) (remainder_row m r A (times (residues r.q) (interpolated m r v) (interpolated m r w)) (from_held r.q (on m r A) (times (residues r.q) (interpolated m r v) (interpolated m r w)) (times_held (laws_of r.q (on m r A)) (interpolated m r v) (interpolated m r w) (to_held r.q (on m r A) (interpolated m r v) (row_in v h).1) (to_held r.q (on m r A) (interpolated m r w) (row_in w k).1)))) ((values_keep m r A).product (interpolated m r v) (interpolated m r w) (row_in v h) (row_in w k) ∙ ap₂ (pointwise (λ x y. (x * y) % r.q)) (forth v h) (forth w k))

  pub interpolated-multiple : (c : ℤ) (v : List ℕ) → IsRow m r.q v → interpolated m r (map (λ x. (residue r.q c * x) % r.q) v) ≡ scaled (residues r.q) (residue r.q c) (interpolated m r v)
  interpolated-multiple c v h = interpolated_only (map (λ x. (residue r.q c * x) % r.q) v) (scaled (residues r.q) (residue r.q c) (interpolated m r v)) (map_row m r.q (λ x. (residue r.q c * x) % r.q) (λ x. residue_in (residue r.q c * x)) v h) (map_row m r.q (λ x. (residue r.q c * x) % r.q) (λ x. residue_in (residue r.q c * x)) (interpolated m r v) (row_in v h)) ((values_keep m r A).multiple c (interpolated m r v) (row_in v h) ∙ ap (map (λ x. (residue r.q c * x) % r.q)) (forth v h))

  -- the place of j k among the units
  pub product_place : (k i : ℕ) → 0 < k → UnitModulo m k → i < degree m → (p : ℕ) × (p < degree m) × (unit_at m p ≡ (unit_at m i * k) % m)
  product_place k i p u l = go (unit_place m ((unit_at m i * k) % m) (some m r A) positive (le_of_lt (mod-lt (unit_at m i * k) (some m r A))) is)
    where
      j_positive : 0 < unit_at m i
      j_positive = unit_positive m i (place_in m r A i l)

      is : UnitModulo m ((unit_at m i * k) % m)
      is = residue_of_unit m (unit_at m i * k) (unit_of_inverse m (unit_at m i * k) (inverse_of_product m (unit_at m i) k (inverse_of_unit m (unit_at m i) (some m r A) j_positive (unit_is m i (some m r A) (place_in m r A i l))) (inverse_of_unit m k (some m r A) p u)))

      none : (u : ℕ) → UnitModulo m u → 0 < u
      none zero h = absurd (omega (arith, A.some, h m (0, let e : 0 ≡ 0 * m = omega arith in e) (1, let e : m ≡ 1 * m = omega arith in e)))
      none (suc u) h = omega arith

      positive : 0 < (unit_at m i * k) % m
      positive = none ((unit_at m i * k) % m) is

      go : (p : ℕ) × (p < length (units m)) × (unit_at m p ≡ (unit_at m i * k) % m) → (p : ℕ) × (p < degree m) × (unit_at m p ≡ (unit_at m i * k) % m)
      go (p, s, e) = (p, omega (arith, count_is m r A), e)

  pub interpolated-moved : (k : ℕ) (v w : List ℕ) → 0 < k → UnitModulo m k → IsRow m r.q v → IsRow m r.q w → IsMoved m k v w → interpolated m r w ≡ remainder (residues r.q) (phi_modulo m r.q) (at_power (residues r.q) k (interpolated m r v))
  interpolated-moved k v w p u h s move = interpolated_only w (remainder (residues r.q) (phi_modulo m r.q) (at_power (residues r.q) k a)) s (remainder_row m r A (at_power (residues r.q) k a) (from_held r.q (on m r A) (at_power (residues r.q) k a) (at_power_held (laws_of r.q (on m r A)) k a (to_held r.q (on m r A) a (row_in v h).1)))) ((values_keep m r A).substituted k a p u (row_in v h) ∙ ext_get_or 0 (map (λ j. value_of r ((j * k) % m) a) (units m)) w (long ∙ sym s.0) (λ i l. at i (omega (arith, long))))
    where
      a : List ℕ
      a = interpolated m r v

      long : length (map (λ j. value_of r ((j * k) % m) a) (units m)) ≡ degree m
      long = length-map (units m) (λ j. value_of r ((j * k) % m) a) ∙ count_is m r A

      at : (i : ℕ) → i < degree m → get_or (map (λ j. value_of r ((j * k) % m) a) (units m)) i 0 ≡ get_or w i 0
      at i l = get_or-map (λ j. value_of r ((j * k) % m) a) (units m) i 0 0 (place_in m r A i l) ∙ go (product_place k i p u l)
        where
          go : (p : ℕ) × (p < degree m) × (unit_at m p ≡ (unit_at m i * k) % m) → value_of r ((unit_at m i * k) % m) a ≡ get_or w i 0
          go (p, t, e) = ap (λ j. value_of r j a) (sym e) ∙ sym (get_or-values_of m r A a p t) ∙ ap (λ z. get_or z p 0) (forth v h) ∙ sym (move.moved i p l t e)

  -- values taken from the places of a list that knows the place of each unit
  module _ (k : ℕ) (places : List ℕ) (known : (u : ℕ) → u < length (units m) → get_or places (unit_at m u) 0 ≡ u) (v : List ℕ) (h : IsRow m r.q v) where
    abbrev pub placed : List ℕ
    placed = map (λ j. get_or v (get_or places ((j * k) % m) 0) 0) (units m)

    pub placed_row : IsRow m r.q placed
    placed_row = (long, All-from_get_or (λ c. c < r.q) placed 0 (λ i l. subst (λ c. c < r.q) (sym (get_or-map (λ j. get_or v (get_or places ((j * k) % m) 0) 0) (units m) i 0 0 (place_in m r A i (omega (arith, long))))) (entry_in r.q (on m r A) v h.1 (get_or places ((unit_at m i * k) % m) 0))))
      where
        long : length placed ≡ degree m
        long = length-map (units m) (λ j. get_or v (get_or places ((j * k) % m) 0) 0) ∙ count_is m r A

    pub placed_moved : IsMoved m k v placed
    placed_moved = record { moved = λ i p l t e. get_or-map (λ j. get_or v (get_or places ((j * k) % m) 0) 0) (units m) i 0 0 (place_in m r A i l) ∙ ap (λ j. get_or v (get_or places j 0) 0) (sym e) ∙ ap (λ j. get_or v j 0) (known p (place_in m r A p t)) }
