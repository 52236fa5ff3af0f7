-- Steps towards the idempotent, its images, and products modulo Phi_m and p.
use Rattle.std.proofs.Common.{◌≡◌, ℕ, zero, suc, ◌+◌, ◌-◌, ◌*◌, ◌%◌, ◌<◌, ◌≤◌, ◌⊎◌, inl, inr, List, [], ◌∷◌, map, length, get_or, replicate, pos, eq-eqb, refl, sym, ap, ap₂, subst, ◌∙◌, arith, mul_comm}
use Rattle.std.specs.Prelude.{ℤ, ◌*ℤ◌}
use Rattle.std.specs.List.{All}
use Rattle.std.proofs.Math.Numerals.{add-one}
use Rattle.std.proofs.lemmas.Nat.{mul-mod_second}
use Rattle.std.proofs.lemmas.Bool.{cases_lt}
use Rattle.std.proofs.lemmas.List.{length-map, get_or-map, get_or_past}
use Rattle.algebra.specs.Ring.{whole_numbers, residues}
use Rattle.algebra.specs.Range.{total, adds}
use Rattle.algebra.specs.Poly.{times, at_power, sum}
use Rattle.algebra.specs.Whole.{below, residue}
use Rattle.algebra.proofs.Integers.{whole_ring}
use Rattle.algebra.proofs.Lists.{same_list}
use Rattle.algebra.proofs.Maps.{map_times}
use Rattle.algebra.proofs.Quotients.{quotient_laws}
use Rattle.algebra.proofs.Sums.{length-below, get_or-below}
use Rattle.algebra.proofs.WholeResidues.{residue_preserves, residue-mul}
use Rattle.cyclotomic.specs.Cyclotomic.{R, phi, degree, fold, substituted, multiple, IsElement as IsPolynomial}
use Rattle.cyclotomic.proofs.PhiLaws.{phi_is_monic, degree_is_units}
use Rattle.cyclotomic.proofs.RingR.{fold_element}
use Rattle.hyper_cube.proofs.Axed.{few_places}
use Rattle.hyper_cube.proofs.Numbering.{units_stand, stands_once}
use Rattle.hyper_cube.specs.Torus.{Torus, unit_at, slot_count, T_of, index}
use Rattle.hyper_cube.specs.Checks.{IsCube}
use Rattle.hyper_cube.specs.Tables.{IsFilled}
use Rattle.ext_field.specs.Element.{Extension, IsMonicFactor, eta_power, trace}
use Rattle.slot_laws.specs.Slots.{inverse_modulo, constant_trace, eps}
use Rattle.slot_laws.specs.Checks.{IsPhiFactor, residue_row, eps_sum}
use Rattle.slot_laws.proofs.DecodeSums.{eta_power_is}
use Rattle.slot_laws.proofs.EncodeSums.{fold_zeros, same_fold, sum_total}
use Rattle.slot_laws.proofs.Encoding.{same-add}
use Rattle.slot_laws.proofs.Places.{map_below, inverse_unit, T_unit}
use Rattle.slot_laws.proofs.Roots.{unit_positive, power_residue}
use Rattle.slot_laws.proofs.WholeValue.{map_twice, residues_lifted, residues_held, p_positive}
use Rattle.slot_factor.proofs.CubeJoin.{slot_cube}
use Rattle.slot_factor.proofs.RowSteps.{lifted_own, row_below}

pub filled_map : (F : ℕ → ℕ) (n : ℕ) (xs : List ℕ) → IsFilled F n xs → xs ≡ map F (below n)
filled_map F n xs h = same_list (residues 1) xs (map F (below n)) (h.long ∙ sym (length-map (below n) F ∙ length-below n)) (λ i. at i (cases_lt i n))
  where
    at : (i : ℕ) → (i < n) ⊎ (n ≤ i) → get_or xs i 0 ≡ get_or (map F (below n)) i 0
    at i (inl l) = h.at i l ∙ sym (get_or-map F (below n) i 0 0 (omega (arith, length-below n, l)) ∙ ap F (get_or-below n i 0 l))
    at i (inr l) = get_or_past xs i 0 (omega (arith, h.long, l)) ∙ sym (get_or_past (map F (below n)) i 0 (omega (arith, l, length-map (below n) F, length-below n)))

pub at_power_one : (a : List ℤ) → at_power whole_numbers 1 a ≡ a
unfolding at_power
at_power_one [] = refl
at_power_one (x ∷ a) = ap (λ z. x ∷ z) (at_power_one a)

module _ (q m : ℕ) (q_pos : 0 < q) (m_pos : 0 < m) where
  abbrev row : List ℤ → List ℕ
  row a = map (residue q) a

  zero_first : (x : List ℤ) → IsPolynomial m x → (R m).add (R m).zero x ≡ x
  zero_first x h = (quotient_laws whole_ring (phi m) (phi_is_monic m m_pos)).zero_add x (eq-eqb (length x) (degree m) h)

  -- what is placed on zeros
  pub on_zeros : (k n : ℕ) (a : List ℤ) (zs out : List ℕ) (s : List ℤ) → zs ≡ replicate n 0 → row s ≡ row ((R m).add (fold m (map pos zs)) (substituted m k a)) → out ≡ row s → out ≡ row (substituted m k a)
  on_zeros k n a zs out s zs_is s_is out_is =
      out_is
      ∙ s_is
      ∙ same-add q m q_pos m_pos (fold m (map pos zs)) (R m).zero (substituted m k a) (substituted m k a) (ap (λ z. row (fold m (map pos z))) zs_is ∙ fold_zeros q m q_pos m_pos n) refl
      ∙ ap row (zero_first (substituted m k a) (fold_element m (at_power whole_numbers k a)))

  pub times_row : (a b r : List ℕ) → All (λ v. v < q) a → All (λ v. v < q) b → All (λ v. v < q) r → r ≡ times (residues q) a b → row (substituted m 1 (map pos r)) ≡ row ((R m).mul (map pos a) (map pos b))
  times_row a b r ha hb hr r_is =
      ap (λ z. row (fold m z)) (at_power_one (map pos r))
      ∙ same_fold q m q_pos m_pos (map pos r) (times whole_numbers (map pos a) (map pos b)) (
      lifted_own q r hr
      ∙ r_is
      ∙ sym (ap₂ (times (residues q)) (lifted_own q a ha) (lifted_own q b hb))
      ∙ sym (map_times (residue_preserves q q_pos) (map pos a) (map pos b)))

  -- one more of the images
  pub images_more : (K : ℕ → ℕ) (U : List ℤ) (e k : ℕ) (s t : List ℤ) → k ≡ K e → row t ≡ row ((R m).add s (substituted m k U)) → row s ≡ row (total (adds (R m)) e (λ j. substituted m (K j) U)) → row t ≡ row (total (adds (R m)) (e + 1) (λ j. substituted m (K j) U))
  images_more K U e k s t k_is t_is s_is =
      t_is
      ∙ ap (λ z. row ((R m).add s (substituted m z U))) k_is
      ∙ same-add q m q_pos m_pos s (total (adds (R m)) e (λ j. substituted m (K j) U)) (substituted m (K e) U) (substituted m (K e) U) s_is refl
      ∙ ap (λ n. row (total (adds (R m)) n (λ j. substituted m (K j) U))) (sym (add-one e))

module _ (f : Extension) (M : IsMonicFactor f) (c : Torus) (m_pos : 0 < c.m) where
  p_pos : 0 < f.p
  p_pos = p_positive f M

  -- what eps is made from
  traces : List ℤ
  traces = multiple (pos (inverse_modulo f.p c.m)) (map (λ i. pos (constant_trace f c (c.m - i))) (below c.m))

  eps_row : residue_row f c (eps f c) ≡ residue_row f c (fold c.m traces)
  unfolding eps traces
  eps_row = ap (residue_row f c) (sym (map_twice pos (residue f.p) (fold c.m traces))) ∙ residues_lifted f.p (residue_row f c (fold c.m traces)) (residues_held f.p p_pos (fold c.m traces))

  pub eps_lifted : map pos (residue_row f c (eps f c)) ≡ eps f c
  unfolding eps traces
  eps_lifted = ap (map pos) eps_row ∙ map_twice pos (residue f.p) (fold c.m traces)

  pub eps_long : length (residue_row f c (eps f c)) ≡ degree c.m
  eps_long = ap length eps_row ∙ length-map (fold c.m traces) (residue f.p) ∙ fold_element c.m traces

  traces_row : residue_row f c traces ≡ map (λ i. ((inverse_modulo f.p c.m % f.p) * constant_trace f c (c.m - i)) % f.p) (below c.m)
  unfolding traces
  traces_row =
      ap (residue_row f c) (map_twice (λ y. pos (inverse_modulo f.p c.m) *ℤ y) (λ i. pos (constant_trace f c (c.m - i))) (below c.m))
      ∙ map_twice (residue f.p) (λ i. pos (inverse_modulo f.p c.m) *ℤ pos (constant_trace f c (c.m - i))) (below c.m)
      ∙ map_below c.m (λ i. residue f.p (pos (inverse_modulo f.p c.m) *ℤ pos (constant_trace f c (c.m - i)))) (λ i. ((inverse_modulo f.p c.m % f.p) * constant_trace f c (c.m - i)) % f.p) (λ i l. residue-mul f.p p_pos (pos (inverse_modulo f.p c.m)) (pos (constant_trace f c (c.m - i))) ∙ mul-mod_second (inverse_modulo f.p c.m % f.p) (constant_trace f c (c.m - i)) f.p)

  pub eps_is : (q m u : ℕ) (values out : List ℕ) → q ≡ f.p → m ≡ c.m → u ≡ inverse_modulo f.p c.m % f.p → All (λ v. v < q) values → IsFilled (λ i. (u * constant_trace f c (c.m - i)) % q) c.m values → out ≡ map (residue q) (fold m (map pos values)) → out ≡ residue_row f c (eps f c)
  eps_is q m u values out q_is m_is u_is small F out_is =
      out_is
      ∙ ap₂ (λ y z. map (residue y) (fold z (map pos values))) q_is m_is
      ∙ same_fold f.p c.m p_pos m_pos (map pos values) traces (
      lifted_own f.p values (subst (λ z. All (λ v. v < z) values) q_is small)
      ∙ filled_map (λ i. (u * constant_trace f c (c.m - i)) % q) c.m values F
      ∙ ap₂ (λ y z. map (λ i. (y * constant_trace f c (c.m - i)) % z) (below c.m)) u_is q_is
      ∙ sym traces_row)
      ∙ sym eps_row

  pub trace_is : IsPhiFactor f c → (k t : ℕ) (x y : List ℕ) → x ≡ eta_power f (k % c.m) → y ≡ trace f x → t ≡ get_or y 0 0 → t ≡ constant_trace f c k
  trace_is root k t x y x_is y_is t_is = t_is ∙ ap (λ z. get_or z 0 0) (y_is ∙ ap (trace f) (x_is ∙ eta_power_is f M (k % c.m) ∙ sym (power_residue f M c.m m_pos root k)))

  abbrev inverse_at : ℕ → ℕ
  inverse_at j = inverse_modulo c.m (T_of c (index c.dimensions j))

  pub images_sum : (u : List ℕ) (n : ℕ) → n ≡ slot_count c → u ≡ residue_row f c (eps f c) → total (adds (R c.m)) n (λ j. substituted c.m (inverse_at j) (map pos u)) ≡ eps_sum f c
  unfolding eps_sum
  images_sum u n n_is u_is =
      ap₂ (λ k y. total (adds (R c.m)) k (λ j. substituted c.m (inverse_at j) y)) n_is (ap (map pos) u_is ∙ eps_lifted)
      ∙ sym (sum_total f.p c.m p_pos m_pos (slot_count c) (λ j. substituted c.m (inverse_at j) (eps f c)) (λ j. fold_element c.m (at_power whole_numbers (inverse_at j) (eps f c))))
      ∙ ap (sum (R c.m)) (sym (map_twice (λ e. substituted c.m (inverse_modulo c.m (T_of c e)) (eps f c)) (index c.dimensions) (below (slot_count c))))

  pub total_is : (q m k n : ℕ) (u sums out : List ℕ) → q ≡ f.p → m ≡ c.m → k ≡ c.m → n ≡ slot_count c → u ≡ residue_row f c (eps f c) → map (residue q) (fold m (map pos sums)) ≡ map (residue q) (total (adds (R m)) n (λ j. substituted m (inverse_at j) (map pos u))) → out ≡ map (residue q) (fold k (map pos sums)) → out ≡ residue_row f c (eps_sum f c)
  total_is q m k n u sums out q_is m_is k_is n_is u_is s out_is =
      out_is
      ∙ ap (λ z. map (residue q) (fold z (map pos sums))) (k_is ∙ sym m_is)
      ∙ s
      ∙ ap₂ (λ y z. map (residue y) (total (adds (R z)) n (λ j. substituted z (inverse_at j) (map pos u)))) q_is m_is
      ∙ ap (residue_row f c) (images_sum u n n_is u_is)

-- the inverse of T(e)
module _ (c : Torus) (C : IsCube c) where
  d_low : 0 < c.d
  d_low = omega (arith, C.shape.d_low)

  above : 1 < c.m
  above = omega (arith, C.shape.m_low)

  pub inverse_low : (j : ℕ) → j < slot_count c → 0 < inverse_modulo c.m (T_of c (index c.dimensions j))
  inverse_low j l = unit_positive c.m (inverse_modulo c.m (T_of c (index c.dimensions j))) above (inverse_unit c.m (T_of c (index c.dimensions j)) above (T_unit c (slot_cube c C) d_low j l))

pub zeros_below : (q n : ℕ) → 0 < q → All (λ v. v < q) (replicate n 0)
zeros_below q zero l k d s = absurd (omega (arith, s))
zeros_below q (suc n) l zero d s = l
zeros_below q (suc n) l (suc k) d s = zeros_below q n l k d (omega (arith, s))

pub mul_same : (u t w q v : ℕ) → w ≡ (u * t) % q → t ≡ v → w ≡ (u * v) % q
mul_same u t w q v w_is t_is = w_is ∙ ap (λ z. (u * z) % q) t_is

pub unit_below : (f : Extension) (c : Torus) (u : List ℕ) (q : ℕ) → 0 < q → q ≡ f.p → u ≡ residue_row f c (eps f c) → All (λ v. v < q) u
unit_below f c u q l q_is u_is = subst (All (λ v. v < q)) (sym (u_is ∙ ap (λ z. map (residue z) (eps f c)) (sym q_is))) (row_below q l (eps f c))

pub refilled : (f : Extension) (c : Torus) (u q m n k : ℕ) (xs : List ℕ) → m ≡ k → n ≡ k → IsFilled (λ i. (u * constant_trace f c (m - i)) % q) n xs → IsFilled (λ i. (u * constant_trace f c (k - i)) % q) k xs
refilled f c u q m n k xs m_is n_is h = subst (λ z. IsFilled (λ i. (u * constant_trace f c (z - i)) % q) k xs) m_is (subst (λ z. IsFilled (λ i. (u * constant_trace f c (m - i)) % q) z xs) n_is h)

pub unit_lengths : (f : Extension) (M : IsMonicFactor f) (c : Torus) (C : IsCube c) (u : List ℕ) → u ≡ residue_row f c (eps f c) → (0 < length u) × (length u ≤ 65536)
unit_lengths f M c C u u_is = (omega (arith, long, some), omega (arith, long, few))
  where
    m_pos : 0 < c.m
    m_pos = omega (arith, C.shape.m_low)

    long : length u ≡ c.d * slot_count c
    long = ap length u_is ∙ eps_long f M c m_pos ∙ degree_is_units c.m m_pos ∙ sym C.counted

    few : c.d * slot_count c ≤ 65536
    few = subst (λ z. z ≤ 65536) (mul_comm (slot_count c) c.d) (few_places c.m c.d (slot_count c) C.shape.m_high C.shape.d_low C.counted)

    some : 0 < c.d * slot_count c
    some = omega (arith, (stands_once c C (unit_at c 0) (units_stand c C 0).0).within, mul_comm (slot_count c) c.d)
