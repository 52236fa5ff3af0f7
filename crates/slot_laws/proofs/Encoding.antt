-- What is encoded from the slots of a polynomial is equal to it modulo p.
use Rattle.std.specs.Prelude.{◌≡◌, ℕ, suc, ◌-◌, ◌*◌, ◌/◌, ◌<◌, ◌≤◌, cond, leb, eqb, List, [], ◌∷◌, map, length, ℤ, pos, negsuc, ◌-ℤ◌, nat_abs, refl}
use Rattle.std.proofs.Common.{sym, ◌∙◌, ap, ap₂, subst, arith, eq-eqb, mul-pos}
use Rattle.std.proofs.lemmas.Int.{ints}
use Rattle.std.proofs.lemmas.List.{length-map}
use Rattle.std.proofs.lemmas.Nat.{le-div}
use Rattle.algebra.specs.Ring.{CommRing, whole_numbers, residues}
use Rattle.algebra.specs.Hom.{Preserves}
use Rattle.algebra.specs.Poly.{SameCoeffs, sum, plus, scaled, times, at_power, quotient_by, remainder, modulo}
use Rattle.algebra.specs.Whole.{below, residue, balanced, IsBalanced}
use Rattle.algebra.proofs.Basic.{mul_one}
use Rattle.algebra.proofs.Balanced.{balanced_is}
use Rattle.algebra.proofs.Held.{same_held}
use Rattle.algebra.proofs.HeldLists.{held_preserves}
use Rattle.algebra.proofs.Integers.{whole_ring}
use Rattle.algebra.proofs.Dividing.{divided}
use Rattle.algebra.proofs.Lists.{length-plus}
use Rattle.algebra.proofs.Maps.{map_sum, map_at_power, map_remainder, map_modulo}
use Rattle.algebra.proofs.Quotients.{quotient_ring, reduce, reduce-plus, reduce-times, remainder_same, quotient_laws}
use Rattle.algebra.specs.Expression.{◌:+◌, ◌:*◌, :0}
use Rattle.algebra.proofs.Solver.{solve4}
use Rattle.algebra.proofs.Sums.{sum-scaled}
use Rattle.algebra.proofs.WholeResidues.{residue_preserves}
use Rattle.cyclotomic.specs.Cyclotomic.{phi, degree, R, IsElement, fold, substituted, multiple}
use Rattle.cyclotomic.specs.Norm.{one_norm}
use Rattle.cyclotomic.proofs.PhiLaws.{phi_is_monic}
use Rattle.cyclotomic.proofs.RingR.{fold_element}
use Rattle.cyclotomic.proofs.Substitution.{substitution_keeps, substitutions_compose, substitution_by_residue, substitution_by_one}
use Rattle.hyper_cube.specs.Torus.{Torus, slot_count, T_of, index, indices}
use Rattle.ext_field.specs.Element.{Extension, IsMonicFactor, eta}
use Rattle.ext_field.proofs.Rows.{element_held}
use Rattle.slot_array.specs.Arrays.{Array, slot}
use Rattle.slot_laws.specs.Slots.{balanced_row, slot_of, slots, lifted, eps, placed, encode, inverse_modulo, constant_trace}
use Rattle.slot_laws.specs.Checks.{IsPacking, residue_row, eps_sum}
use Rattle.slot_laws.specs.SlotLaws.{IsPlaintext, EncodesSlots}
use Rattle.slot_laws.proofs.WholeValue.{map_twice, residues_lifted, value, value_in, value_eta, value-at_power, whole_factor, whole_factor_monic, eta_in, p_positive}
use Rattle.slot_laws.proofs.Roots.{unit_positive, value_fold}
use Rattle.slot_laws.proofs.Places.{map_below}
use Rattle.slot_laws.proofs.SlotMaps.{residues_balanced, F, m_positive, m_above, at, unit_here, slots_at}
use Rattle.slot_laws.proofs.Decoding.{inverse_at, inverse_at_is, inverse_at_unit, encode_back}

-- ---- balanced residues
-- they hang on the residues alone
pub balanced_same : (p : ℕ) (a b : List ℤ) → map (residue p) a ≡ map (residue p) b → balanced_row p a ≡ balanced_row p b
balanced_same p a b e = sym (map_twice half (residue p) a) ∙ ap (map half) e ∙ map_twice half (residue p) b
  where
    half : ℕ → ℤ
    half r = cond (leb (2 * r) p) (pos r) (pos r -ℤ pos p)

pub balanced_own : (p : ℕ) → 0 < p → (a : List ℤ) → balanced_row p (balanced_row p a) ≡ balanced_row p a
balanced_own p q a = balanced_same p (balanced_row p a) a (residues_balanced p q a)

half_le : (p : ℕ) (z r : ℤ) → IsBalanced p z r → nat_abs r ≤ p / 2
half_le p z (pos a) B = le-div a p 2 (omega arith) (omega (arith, ints, B.high))
half_le p z (negsuc a) B = le-div (suc a) p 2 (omega arith) (omega (arith, ints, B.low))

pub norm_balanced : (p : ℕ) → 0 < p → (a : List ℤ) → one_norm (balanced_row p a) ≤ length a * (p / 2)
norm_balanced p q [] = omega arith
norm_balanced p q (z ∷ a) = omega (arith, half_le p z (balanced p z) (balanced_is p q z), norm_balanced p q a)

-- ---- equality modulo p of elements of R
module _ (p m : ℕ) (p_pos : 0 < p) (m_pos : 0 < m) where
  abbrev pub Same : List ℤ → List ℤ → Type 0
  Same a b = map (residue p) a ≡ map (residue p) b

  K : Preserves whole_numbers (residues p) (residue p)
  K = residue_preserves p p_pos

  M : Preserves (R m) (modulo (residues p) (map (residue p) (phi m))) (map (residue p))
  M = map_modulo K (phi m)

  pub same-add : (a b x y : List ℤ) → Same a b → Same x y → Same ((R m).add a x) ((R m).add b y)
  same-add a b x y e h = M.keeps_add a x ∙ ap₂ (modulo (residues p) (map (residue p) (phi m))).add e h ∙ sym (M.keeps_add b y)

  pub same-mul : (a b x y : List ℤ) → Same a b → Same x y → Same ((R m).mul a x) ((R m).mul b y)
  same-mul a b x y e h = M.keeps_mul a x ∙ ap₂ (modulo (residues p) (map (residue p) (phi m))).mul e h ∙ sym (M.keeps_mul b y)

  pub same_substituted : (k : ℕ) (a b : List ℤ) → Same a b → Same (substituted m k a) (substituted m k b)
  same_substituted k a b e = image a ∙ ap (λ z. remainder (residues p) (map (residue p) (phi m)) (at_power (residues p) k z)) e ∙ sym (image b)
    where
      image : (a : List ℤ) → map (residue p) (substituted m k a) ≡ remainder (residues p) (map (residue p) (phi m)) (at_power (residues p) k (map (residue p) a))
      image a = map_remainder K (phi m) (at_power whole_numbers k a) ∙ ap (remainder (residues p) (map (residue p) (phi m))) (map_at_power K k a)

  pub same_sum : (n : ℕ) (u v : ℕ → List ℤ) → ((j : ℕ) → j < n → Same (u j) (v j)) → Same (sum (R m) (map u (below n))) (sum (R m) (map v (below n)))
  same_sum n u v e = image u ∙ ap (sum (modulo (residues p) (map (residue p) (phi m)))) (map_below n (λ j. map (residue p) (u j)) (λ j. map (residue p) (v j)) e) ∙ sym (image v)
    where
      image : (u : ℕ → List ℤ) → map (residue p) (sum (R m) (map u (below n))) ≡ sum (modulo (residues p) (map (residue p) (phi m))) (map (λ j. map (residue p) (u j)) (below n))
      image u = map_sum M (map u (below n)) ∙ ap (sum (modulo (residues p) (map (residue p) (phi m)))) (map_twice (map (residue p)) u (below n))

  -- R as a ring
  abbrev Q : CommRing
  Q = quotient_ring whole_ring (phi m) (phi_is_monic m m_pos)

  abbrev red : List ℤ → Q.Carrier
  red = reduce whole_ring (phi m) (phi_is_monic m m_pos)

  abbrev held : (a : List ℤ) → IsElement m a → Q.Carrier
  held a e = (a, eq-eqb (length a) (degree m) e)

  times_red : (a b : List ℤ) → (R m).mul a b ≡ (Q.mul (red a) (red b)).0
  times_red a b = ap (λ z. z.0) (reduce-times whole_ring (phi m) (phi_is_monic m m_pos) a b)

  -- a factor that is 0 modulo p with e is left out
  pub same_reduced : (e q g r b : List ℤ) → SameCoeffs whole_numbers (plus whole_numbers (times whole_numbers q g) r) b → Same ((R m).mul e g) (R m).zero → Same ((R m).mul b e) ((R m).mul r e)
  same_reduced e q g r b s none =
      ap (map (residue p)) split
      ∙ same-add ((R m).mul (fold m q) ((R m).mul e g)) ((R m).mul (fold m q) (R m).zero) ((R m).mul r e) ((R m).mul r e) (same-mul (fold m q) (fold m q) ((R m).mul e g) (R m).zero refl none) refl
      ∙ ap (map (residue p)) clear
    where
      split : (R m).mul b e ≡ (R m).add ((R m).mul (fold m q) ((R m).mul e g)) ((R m).mul r e)
      split =
          times_red b e
          ∙ ap (λ z. (Q.mul z (red e)).0) parts
          ∙ ap (λ z. z.0) (solve4 Q (λ q g r e. (q :* g :+ r) :* e) (λ q g r e. q :* (e :* g) :+ r :* e) refl (red q) (red g) (red r) (red e))
          ∙ ap₂ (λ y z. (R m).add ((R m).mul (fold m q) y) z) (sym (times_red e g)) (sym (times_red r e))
        where
          parts : red b ≡ Q.add (Q.mul (red q) (red g)) (red r)
          parts = same_held (λ a. eqb (length a) (degree m)) (remainder_same whole_ring (phi m) (phi_is_monic m m_pos) b (plus whole_numbers (times whole_numbers q g) r) (λ i. sym (s i))) ∙ reduce-plus whole_ring (phi m) (phi_is_monic m m_pos) (times whole_numbers q g) r ∙ ap (λ z. Q.add z (red r)) (reduce-times whole_ring (phi m) (phi_is_monic m m_pos) q g)

      clear : (R m).add ((R m).mul (fold m q) (R m).zero) ((R m).mul r e) ≡ (R m).mul r e
      clear = ap (λ z. (R m).add ((R m).mul (fold m q) (R m).zero) z) (times_red r e) ∙ ap (λ z. z.0) (solve4 Q (λ q x r e. q :* :0 :+ r :* e) (λ q x r e. r :* e) refl (red q) (red q) (red r) (red e)) ∙ sym (times_red r e)

  -- a factor goes into a sum
  pub mul_sum : (a : List ℤ) → IsElement m a → (n : ℕ) (g : ℕ → List ℤ) → ((j : ℕ) → IsElement m (g j)) → sum (R m) (map (λ j. (R m).mul a (g j)) (below n)) ≡ (R m).mul a (sum (R m) (map g (below n)))
  mul_sum a e n g g_in =
      ap (sum (R m)) (sym (ap (map (λ z. z.0)) (map_twice (Q.mul (held a e)) in_ring (below n)) ∙ map_twice (λ z. z.0) (λ j. Q.mul (held a e) (in_ring j)) (below n)))
      ∙ sym (map_sum V (scaled Q.ops (held a e) (map in_ring (below n))))
      ∙ ap (λ z. z.0) (sum-scaled Q (held a e) (map in_ring (below n)))
      ∙ ap ((R m).mul a) (map_sum V (map in_ring (below n)) ∙ ap (sum (R m)) (map_twice (λ z. z.0) in_ring (below n)))
    where
      V : Preserves Q.ops (R m) (λ z. z.0)
      V = held_preserves (quotient_laws whole_ring (phi m) (phi_is_monic m m_pos))

      in_ring : ℕ → Q.Carrier
      in_ring j = held (g j) (g_in j)

  pub sum_long : {X : Type 0} (g : X → List ℤ) → ((x : X) → IsElement m (g x)) → (xs : List X) → IsElement m (sum (R m) (map g xs))
  sum_long g g_in [] = fold_element m []
  sum_long g g_in (x ∷ xs) = omega (arith, length-plus whole_numbers (g x) (sum (R m) (map g xs)), g_in x, sum_long g g_in xs)

  pub mul_own : (a : List ℤ) → IsElement m a → (R m).mul a (R m).one ≡ a
  mul_own a e = ap (λ z. z.0) (mul_one Q (held a e))

module _ (f : Extension) (c : Torus) (P : IsPacking f c) where
  abbrev G : IsMonicFactor f
  G = F f c P

  abbrev i_at : ℕ → List ℕ
  i_at = at f c P

  p_pos : 0 < f.p
  p_pos = p_positive f G

  m_pos : 0 < c.m
  m_pos = m_positive f c P

  -- b modulo G serves as well as b
  same_value : (b : List ℤ) → residue_row f c ((R c.m).mul (lifted f c (value f G (eta f) b)) (eps f c)) ≡ residue_row f c ((R c.m).mul b (eps f c))
  same_value b =
      same-mul f.p c.m p_pos m_pos (lifted f c (value f G (eta f) b)) r (eps f c) (eps f c) (residues_lifted f.p (value f G (eta f) b) (element_held f (value f G (eta f) b) (value_in f G (eta f) (eta_in f G) b)) ∙ value_eta f G b) refl
      ∙ sym (same_reduced f.p c.m p_pos m_pos (eps f c) (quotient_by whole_numbers (whole_factor f G) b) (whole_factor f G) r b (divided whole_ring (whole_factor f G) (whole_factor_monic f G) b).sum_is P.annihilated)
    where
      r : List ℤ
      r = remainder whole_numbers (whole_factor f G) b

  eps_in : IsElement c.m (eps f c)
  unfolding eps
  eps_in = length-map (fold c.m (multiple (pos (inverse_modulo f.p c.m)) (map (λ i. pos (constant_trace f c (c.m - i))) (below c.m)))) (λ x. pos (residue f.p x)) ∙ fold_element c.m (multiple (pos (inverse_modulo f.p c.m)) (map (λ i. pos (constant_trace f c (c.m - i))) (below c.m)))

  module _ (j : ℕ) (l : j < slot_count c) where
    abbrev T : ℕ
    T = T_of c (i_at j)

    abbrev k : ℕ
    k = inverse_at f c P j

    T_positive : 0 < T
    T_positive = unit_positive c.m T (m_above f c P) (unit_here f c P j l)

    k_positive : 0 < k
    k_positive = unit_positive c.m k (m_above f c P) (inverse_at_unit f c P j l)

    -- X to X^T, then X to X^k
    there_and_back : (a : List ℤ) → IsElement c.m a → substituted c.m k (substituted c.m T a) ≡ a
    there_and_back a e = substitutions_compose c.m k T a m_pos k_positive T_positive (inverse_at_unit f c P j l) ∙ substitution_by_residue c.m (T * k) 1 a m_pos (mul-pos T_positive k_positive) (omega arith) (inverse_at_is f c P j l) ∙ substitution_by_one c.m a m_pos e

    -- a slot is a value at X
    slot_is : (a : List ℤ) → slot_of f c a (i_at j) ≡ value f G (eta f) (substituted c.m T a)
    unfolding slot_of
    slot_is a = sym (value-at_power f G (eta f) (eta_in f G) T T_positive a) ∙ sym (value_fold f G c.m m_pos P.phi_factor (eta f) (eta_in f G) P.phi_factor (at_power whole_numbers T a))

    -- what is placed for the slot j of a is a times eps(X^k), modulo p
    same_placed : (a : List ℤ) → IsElement c.m a → residue_row f c (placed f c (lifted f c (slot_of f c a (i_at j))) (i_at j)) ≡ residue_row f c ((R c.m).mul a (substituted c.m k (eps f c)))
    same_placed a e =
        same_substituted f.p c.m p_pos m_pos k ((R c.m).mul (lifted f c (slot_of f c a (i_at j))) (eps f c)) ((R c.m).mul (substituted c.m T a) (eps f c)) (ap (λ x. residue_row f c ((R c.m).mul (lifted f c x) (eps f c))) (slot_is a) ∙ same_value (substituted c.m T a))
        ∙ ap (residue_row f c) ((substitution_keeps c.m k m_pos k_positive (inverse_at_unit f c P j l)).product (substituted c.m T a) (eps f c) (fold_element c.m (at_power whole_numbers T a)) eps_in ∙ ap (λ z. (R c.m).mul z (substituted c.m k (eps f c))) (there_and_back a e))

  -- the sum over the slots, by the numbers of their indices
  by_number : (y : List ℕ → List ℤ) → map y (indices c.dimensions) ≡ map (λ j. y (i_at j)) (below (slot_count c))
  by_number y = map_twice y (index c.dimensions) (below (slot_count c))

  encode_forth : (a : List ℤ) → IsElement c.m a → encode f c (slots f c a) ≡ balanced_row f.p a
  unfolding encode eps_sum
  encode_forth a e = balanced_same f.p (sum (R c.m) (map (λ e. placed f c (lifted f c (slot c (slots f c a) e)) e) (indices c.dimensions))) a (ap (λ xs. residue_row f c (sum (R c.m) xs)) (by_number (λ e. placed f c (lifted f c (slot c (slots f c a) e)) e)) ∙ same_sum f.p c.m p_pos m_pos (slot_count c) (λ j. placed f c (lifted f c (slot c (slots f c a) (i_at j))) (i_at j)) (λ j. (R c.m).mul a (image j)) (λ j l. ap (λ x. residue_row f c (placed f c (lifted f c x) (i_at j))) (slots_at f c P a j l) ∙ same_placed j l a e) ∙ ap (residue_row f c) (mul_sum f.p c.m p_pos m_pos a e (slot_count c) image (λ j. fold_element c.m (at_power whole_numbers (inverse_at f c P j) (eps f c)))) ∙ same-mul f.p c.m p_pos m_pos a a (sum (R c.m) (map image (below (slot_count c)))) (R c.m).one refl (ap (λ xs. residue_row f c (sum (R c.m) xs)) (sym (by_number (λ e. substituted c.m (inverse_modulo c.m (T_of c e)) (eps f c)))) ∙ P.complete) ∙ ap (residue_row f c) (mul_own f.p c.m p_pos m_pos a e))
    where
      image : ℕ → List ℤ
      image j = substituted c.m (inverse_at f c P j) (eps f c)

  plaintext : (x : Array) → IsPlaintext f c (encode f c x)
  unfolding encode
  plaintext x = record { long = long; own = balanced_own f.p p_pos S; small = subst (λ n. one_norm (balanced_row f.p S) ≤ n * (f.p / 2)) S_long (norm_balanced f.p p_pos S) }
    where
      S : List ℤ
      S = sum (R c.m) (map (λ e. placed f c (lifted f c (slot c x e)) e) (indices c.dimensions))

      S_long : length S ≡ degree c.m
      S_long = sum_long f.p c.m p_pos m_pos (λ e. placed f c (lifted f c (slot c x e)) e) (λ e. fold_element c.m (at_power whole_numbers (inverse_modulo c.m (T_of c e)) ((R c.m).mul (lifted f c (slot c x e)) (eps f c)))) (indices c.dimensions)

      long : length (balanced_row f.p S) ≡ degree c.m
      long = length-map S (balanced f.p) ∙ S_long

  pub encodes_slots : EncodesSlots f c
  encodes_slots = record {
    plaintext = plaintext;
    back = encode_back f c P;
    forth = encode_forth;
    determine = λ a b e h same. sym (residues_balanced f.p p_pos a) ∙ ap (residue_row f c) (sym (encode_forth a e) ∙ ap (encode f c) same ∙ encode_forth b h) ∙ residues_balanced f.p p_pos b;
  }
