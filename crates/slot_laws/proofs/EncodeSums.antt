-- What encode gives, from sums by places modulo p: for each slot a product with eps, whose coefficient i goes to the place
-- i * k mod m, k the inverse of T modulo m; and one remainder by Phi_m at the end.
use Rattle.std.specs.Prelude.{◌≡◌, ℕ, zero, suc, ◌+◌, ◌*◌, ◌%◌, ◌<◌, List, [], ◌∷◌, map, length, get_or, set, replicate, ℤ, pos, ◌+ℤ◌, refl}
use Rattle.std.proofs.Common.{sym, ◌∙◌, ap, ap₂, arith, eq-eqb, mod-lt}
use Rattle.std.proofs.lemmas.List.{length-map}
use Rattle.std.proofs.Math.Nat.{mod-mod}
use Rattle.algebra.specs.Ring.{CommRing, whole_numbers, residues}
use Rattle.algebra.specs.Hom.{Preserves}
use Rattle.algebra.specs.Range.{total, adds}
use Rattle.algebra.specs.Poly.{coeff, sum, plus, scaled, times, monomial, at_power, remainder}
use Rattle.algebra.specs.Whole.{below, residue}
use Rattle.algebra.proofs.Basic.{add_zero}
use Rattle.algebra.proofs.HeldLists.{held_preserves, times_held}
use Rattle.algebra.proofs.Homs.{keeps_adds}
use Rattle.algebra.proofs.Integers.{whole_ring}
use Rattle.algebra.proofs.Lists.{length-plus}
use Rattle.algebra.proofs.Maps.{map_sum, map_times, map_scaled, map_remainder}
use Rattle.algebra.proofs.Quotients.{quotient_ring, quotient_laws, remainder_same}
use Rattle.algebra.proofs.Residues.{residue_laws}
use Rattle.algebra.proofs.Sums.{sum_below}
use Rattle.algebra.proofs.WholeResidues.{residue_preserves}
use Rattle.cyclotomic.specs.Cyclotomic.{phi, degree, R, IsElement as IsPolynomial, fold, substituted, multiple}
use Rattle.cyclotomic.proofs.PhiLaws.{phi_is_monic}
use Rattle.cyclotomic.proofs.RingR.{fold_element}
use Rattle.hyper_cube.specs.Torus.{Torus, slot_count, index, indices}
use Rattle.ext_field.specs.Element.{Extension, IsMonicFactor, IsElement}
use Rattle.ext_field.proofs.Rows.{element_held}
use Rattle.slot_array.specs.Arrays.{Array, slot}
use Rattle.slot_laws.specs.Slots.{balanced_row, lifted, eps, placed, encode}
use Rattle.slot_laws.specs.Checks.{IsPacking, residue_row}
use Rattle.slot_laws.specs.SlotLaws.{SlotSums}
use Rattle.slot_laws.proofs.DecodeSums.{slot_total}
use Rattle.slot_laws.proofs.WholeValue.{map_twice, residues_lifted, residues_held, p_positive}
use Rattle.slot_laws.proofs.Roots.{unit_positive}
use Rattle.slot_laws.proofs.Places.{map_below}
use Rattle.slot_laws.proofs.SlotMaps.{F, m_positive, m_above, at}
use Rattle.slot_laws.proofs.Decoding.{inverse_at, inverse_at_unit}
use Rattle.slot_laws.proofs.Encoding.{balanced_same, same-add, same_substituted}
use Rattle.slot_laws.proofs.FoldSums.{substituted_fold, fold_place, place_term, substituted_total}

-- balanced residues from residues
pub balanced_residues : (p : ℕ) → 0 < p → (a : List ℤ) → balanced_row p (map pos (map (residue p) a)) ≡ balanced_row p a
balanced_residues p q a = balanced_same p (map pos (map (residue p) a)) a (residues_lifted p (map (residue p) a) (residues_held p q a))

plus_assoc : (a b c : List ℤ) → plus whole_numbers (plus whole_numbers a b) c ≡ plus whole_numbers a (plus whole_numbers b c)
plus_assoc [] b c = refl
plus_assoc (x ∷ a) [] c = refl
plus_assoc (x ∷ a) (y ∷ b) [] = refl
plus_assoc (x ∷ a) (y ∷ b) (z ∷ c) = ap₂ (λ u v. u ∷ v) (whole_ring.add_assoc x y z) (plus_assoc a b c)

module _ (p m : ℕ) (p_pos : 0 < p) (m_pos : 0 < m) where
  abbrev row : List ℤ → List ℕ
  row a = map (residue p) a

  K : Preserves whole_numbers (residues p) (residue p)
  K = residue_preserves p p_pos

  -- the remainder by Phi_m, of residues
  pub fold_row : (a : List ℤ) → row (fold m a) ≡ remainder (residues p) (row (phi m)) (row a)
  fold_row a = map_remainder K (phi m) a

  pub same_fold : (a b : List ℤ) → row a ≡ row b → row (fold m a) ≡ row (fold m b)
  same_fold a b e = fold_row a ∙ ap (remainder (residues p) (row (phi m))) e ∙ sym (fold_row b)

  -- m zeros stand for 0
  pub fold_zeros : (n : ℕ) → row (fold m (map pos (replicate n 0))) ≡ row (R m).zero
  fold_zeros n = ap row (remainder_same whole_ring (phi m) (phi_is_monic m m_pos) (map pos (replicate n 0)) [] (none n))
    where
      none : (n i : ℕ) → coeff whole_numbers (map pos (replicate n 0)) i ≡ pos 0
      none zero i = refl
      none (suc n) zero = refl
      none (suc n) (suc i) = none n i

  set_row : (L : List ℕ) (j v : ℕ) → j < length L → row (map pos (set L j ((get_or L j 0 + v) % p))) ≡ row (set (map pos L) j (get_or (map pos L) j (pos 0) +ℤ pos v))
  set_row [] j v l = absurd (omega (arith, l))
  set_row (x ∷ L) zero v l = ap (λ z. z ∷ row (map pos L)) (mod-mod (x + v) p)
  set_row (x ∷ L) (suc j) v l = ap (λ z. x % p ∷ z) (set_row L j v (omega (arith, l)))

  -- one more term: where the residues L stand for S, they stand for S + z X^n once v, the residue of z, is added at n mod m
  pub place_step : (L : List ℕ) (S : List ℤ) (n v : ℕ) (z : ℤ) → length L ≡ m → residue p z ≡ v % p → row (fold m (map pos L)) ≡ row S → row (fold m (map pos (set L (n % m) ((get_or L (n % m) 0 + v) % p)))) ≡ row ((R m).add S (multiple z (fold m (monomial whole_numbers (n % m)))))
  place_step L S n v z long e s =
      same_fold (map pos (set L (n % m) ((get_or L (n % m) 0 + v) % p))) (set (map pos L) (n % m) (get_or (map pos L) (n % m) (pos 0) +ℤ pos v)) (set_row L (n % m) v (omega (arith, long, mod-lt n m_pos)))
      ∙ ap row (fold_place m m_pos (map pos L) (n % m) (pos v) (omega (arith, length-map L pos, long, mod-lt n m_pos)))
      ∙ same-add p m p_pos m_pos (fold m (map pos L)) S (multiple (pos v) term) (multiple z term) s (map_scaled K (pos v) term ∙ ap (λ r. scaled (residues p) r (row term)) (sym e) ∙ sym (map_scaled K z term))
    where
      term : List ℤ
      term = fold m (monomial whole_numbers (n % m))

  -- ---- the places of one list, one after the other, on top of what stands already
  pub places_start : (L : List ℕ) (S : List ℤ) (t : ℕ → List ℤ) → IsPolynomial m S → row (fold m (map pos L)) ≡ row S → row (fold m (map pos L)) ≡ row ((R m).add S (total (adds (R m)) 0 t))
  places_start L S t e s = s ∙ ap row (sym (ap (λ z. z.0) (add_zero (quotient_ring whole_ring (phi m) (phi_is_monic m m_pos)) (S, eq-eqb (length S) (degree m) e))))

  pub place_next : (L : List ℕ) (S : List ℤ) (k : ℕ) (a : List ℤ) (i v : ℕ) → length L ≡ m → residue p (coeff whole_numbers a i) ≡ v % p → row (fold m (map pos L)) ≡ row ((R m).add S (total (adds (R m)) i (place_term m k a))) → row (fold m (map pos (set L ((i * k) % m) ((get_or L ((i * k) % m) 0 + v) % p)))) ≡ row ((R m).add S (total (adds (R m)) (suc i) (place_term m k a)))
  place_next L S k a i v long e s = place_step L ((R m).add S (total (adds (R m)) i (place_term m k a))) (i * k) v (coeff whole_numbers a i) long e s ∙ ap row (plus_assoc S (total (adds (R m)) i (place_term m k a)) (place_term m k a i))

  -- a sum over the numbers below n, in R
  pub sum_total : (n : ℕ) (g : ℕ → List ℤ) → ((j : ℕ) → IsPolynomial m (g j)) → sum (R m) (map g (below n)) ≡ total (adds (R m)) n g
  sum_total n g g_in = ap (sum (R m)) (sym (map_twice (λ z. z.0) in_ring (below n))) ∙ sym (map_sum V (map in_ring (below n))) ∙ ap (λ z. z.0) (sum_below Q n in_ring) ∙ keeps_adds V n in_ring
    where
      Q : CommRing
      Q = quotient_ring whole_ring (phi m) (phi_is_monic m m_pos)

      V : Preserves (quotient_ring whole_ring (phi m) (phi_is_monic m m_pos)).ops (R m) (λ z. z.0)
      V = held_preserves (quotient_laws whole_ring (phi m) (phi_is_monic m m_pos))

      in_ring : ℕ → (quotient_ring whole_ring (phi m) (phi_is_monic m m_pos)).Carrier
      in_ring j = (g j, eq-eqb (length (g j)) (degree m) (g_in j))

module _ (f : Extension) (c : Torus) (P : IsPacking f c) where
  abbrev G : IsMonicFactor f
  G = F f c P

  abbrev i_at : ℕ → List ℕ
  i_at = at f c P

  p_pos : 0 < f.p
  p_pos = p_positive f G

  m_pos : 0 < c.m
  m_pos = m_positive f c P

  -- the product of an element and eps, of residues, stands for the product in R
  pub product_row : (x : List ℕ) → IsElement f x → residue_row f c (fold c.m (map pos (times (residues f.p) x (residue_row f c (eps f c))))) ≡ residue_row f c ((R c.m).mul (lifted f c x) (eps f c))
  product_row x h = same_fold f.p c.m p_pos m_pos (map pos (times (residues f.p) x (residue_row f c (eps f c)))) (times whole_numbers (lifted f c x) (eps f c)) (residues_lifted f.p (times (residues f.p) x (residue_row f c (eps f c))) (times_held (residue_laws f.p p_pos) x (residue_row f c (eps f c)) (element_held f x h) (residues_held f.p p_pos (eps f c))) ∙ ap (λ y. times (residues f.p) y (residue_row f c (eps f c))) (sym (residues_lifted f.p x (element_held f x h))) ∙ sym (map_times (residue_preserves f.p p_pos) (lifted f c x) (eps f c)))

  k_positive : (j : ℕ) → j < slot_count c → 0 < inverse_at f c P j
  k_positive j l = unit_positive c.m (inverse_at f c P j) (m_above f c P) (inverse_at_unit f c P j l)

  places_total : (j : ℕ) → j < slot_count c → (a : List ℤ) → substituted c.m (inverse_at f c P j) (fold c.m a) ≡ total (adds (R c.m)) (length a) (place_term c.m (inverse_at f c P j) a)
  places_total j l a = substituted_fold c.m (inverse_at f c P j) m_pos (k_positive j l) (inverse_at_unit f c P j l) a ∙ substituted_total c.m m_pos (inverse_at f c P j) (k_positive j l) a

  pub slot_sums : SlotSums f c
  slot_sums = record { value = slot_total f c P; places = λ x j l. places_total j l (times whole_numbers (lifted f c x) (eps f c)) }

  -- what is placed for the slot j is the sum over the places of any list that stands for the product
  pub placed_total : (x : List ℕ) (a : List ℤ) (j : ℕ) → j < slot_count c → residue_row f c (fold c.m a) ≡ residue_row f c ((R c.m).mul (lifted f c x) (eps f c)) → residue_row f c (placed f c (lifted f c x) (i_at j)) ≡ residue_row f c (total (adds (R c.m)) (length a) (place_term c.m (inverse_at f c P j) a))
  placed_total x a j l e =
      same_substituted f.p c.m p_pos m_pos (inverse_at f c P j) ((R c.m).mul (lifted f c x) (eps f c)) (fold c.m a) (sym e)
      ∙ ap (residue_row f c) (places_total j l a)

  -- once all places of a are added, the next slot stands too
  pub slot_next : (x : Array) (a L : List ℤ) (j : ℕ) → j < slot_count c → residue_row f c (fold c.m a) ≡ residue_row f c ((R c.m).mul (lifted f c (get_or x j [])) (eps f c)) → residue_row f c (fold c.m L) ≡ residue_row f c ((R c.m).add (total (adds (R c.m)) j (λ j. placed f c (lifted f c (get_or x j [])) (i_at j))) (total (adds (R c.m)) (length a) (place_term c.m (inverse_at f c P j) a))) → residue_row f c (fold c.m L) ≡ residue_row f c (total (adds (R c.m)) (suc j) (λ j. placed f c (lifted f c (get_or x j [])) (i_at j)))
  slot_next x a L j l e s = s ∙ same-add f.p c.m p_pos m_pos before before (total (adds (R c.m)) (length a) (place_term c.m (inverse_at f c P j) a)) (placed f c (lifted f c (get_or x j [])) (i_at j)) refl (sym (placed_total (get_or x j []) a j l e))
    where
      before : List ℤ
      before = total (adds (R c.m)) j (λ j. placed f c (lifted f c (get_or x j [])) (i_at j))

  pub placed_sum_long : (x : Array) (j : ℕ) → IsPolynomial c.m (total (adds (R c.m)) j (λ j. placed f c (lifted f c (get_or x j [])) (i_at j)))
  placed_sum_long x zero = fold_element c.m []
  placed_sum_long x (suc j) = omega (arith, length-plus whole_numbers (total (adds (R c.m)) j (λ j. placed f c (lifted f c (get_or x j [])) (i_at j))) (placed f c (lifted f c (get_or x j [])) (i_at j)), placed_sum_long x j, fold_element c.m (at_power whole_numbers (inverse_at f c P j) ((R c.m).mul (lifted f c (get_or x j [])) (eps f c))))

  -- encode is the balanced residue of the remainder of any list that stands for the sum of what is placed
  pub encode_total : (x : Array) (L : List ℤ) → residue_row f c (fold c.m L) ≡ residue_row f c (total (adds (R c.m)) (slot_count c) (λ j. placed f c (lifted f c (get_or x j [])) (i_at j))) → encode f c x ≡ balanced_row f.p (fold c.m L)
  unfolding encode
  encode_total x L e = balanced_same f.p (sum (R c.m) (map (λ e. placed f c (lifted f c (slot c x e)) e) (indices c.dimensions))) (fold c.m L) (ap (λ xs. residue_row f c (sum (R c.m) xs)) (map_twice (λ e. placed f c (lifted f c (slot c x e)) e) (index c.dimensions) (below (slot_count c)) ∙ map_below (slot_count c) (λ j. placed f c (lifted f c (slot c x (i_at j))) (i_at j)) (λ j. placed f c (lifted f c (get_or x j [])) (i_at j)) (λ j l. ap (λ i. placed f c (lifted f c (get_or x i [])) (i_at j)) (P.cube.place_is j l))) ∙ ap (residue_row f c) (sum_total f.p c.m p_pos m_pos (slot_count c) (λ j. placed f c (lifted f c (get_or x j [])) (i_at j)) (λ j. fold_element c.m (at_power whole_numbers (inverse_at f c P j) ((R c.m).mul (lifted f c (get_or x j [])) (eps f c))))) ∙ sym e)
