-- The checks of a table, as tests of lists.
use Rattle.std.proofs.Common.{◌≡◌, ℕ, ◌+◌, ◌*◌, ◌%◌, ◌<◌, ◌≤◌, ◌⊎◌, inl, inr, Bool, true, false, not, cond, eqb, eq-eqb, IsTrue, List, map, get_or, pos, refl, sym, ap, ap₂, ◌∙◌, arith}
use Rattle.std.specs.Prelude.{◌↔◌, ℤ}
use Rattle.std.proofs.Common.{mul_comm}
use Rattle.std.proofs.lemmas.Bool.{cases_lt}
use Rattle.std.proofs.lemmas.List.{length-map, map-id}
use mathlib.Core.Path.{fun_ext}
use Rattle.algebra.specs.Ring.{whole_numbers, residues}
use Rattle.algebra.specs.Power.{power}
use Rattle.algebra.specs.Range.{total, adds}
use Rattle.algebra.specs.Poly.{coeff, scaled, value_at}
use Rattle.algebra.specs.Whole.{residue}
use Rattle.algebra.proofs.HeldPowers.{held_power-mul}
use Rattle.algebra.proofs.Maps.{map_coeff}
use Rattle.algebra.proofs.WholeResidues.{residue_preserves}
use Rattle.cyclotomic.specs.Cyclotomic.{R, phi, fold, substituted}
use Rattle.hyper_cube.specs.Torus.{Torus, slot_count, T_of, index}
use Rattle.hyper_cube.specs.Checks.{least}
use Rattle.hyper_cube.proofs.Least.{least_is, least_none}
use Rattle.ext_field.specs.Element.{Extension, IsMonicFactor, elements, eta, eta_power, number}
use Rattle.slot_laws.specs.Slots.{slot_of, whole_value, eps}
use Rattle.slot_laws.specs.Checks.{same_row, residue_row, IsPhiFactor, is_phi_factor, unit_slot, is_idempotent_at, bad_slot, is_annihilated, is_complete, eps_sum}
use Rattle.slot_laws.proofs.DecodeSums.{eta_power_is, eta_power_in, value_total, constant-mul}
use Rattle.slot_laws.proofs.Roots.{power_residue}
use Rattle.slot_laws.proofs.Tests.{same_row_is}
use Rattle.slot_laws.proofs.WholeValue.{map_twice, constant, laws, eta_in, power_in, p_positive}
use Rattle.slot_factor.specs.Tables.{value_of}
use Rattle.slot_factor.proofs.PowerSteps.{unequal}
use Rattle.slot_factor.proofs.UnitSteps.{at_power_one}

same_bool : (a b : Bool) → (IsTrue a → IsTrue b) → (IsTrue b → IsTrue a) → a ≡ b
same_bool true true f g = refl
same_bool true false f g = sym (f refl)
same_bool false true f g = g refl
same_bool false false f g = refl

-- a test of two lists
pub tests_same : (b : Bool) (x y u v : List ℕ) → IsTrue b ↔ (x ≡ y) → x ≡ u → y ≡ v → b ≡ same_row u v
tests_same b x y u v h x_is y_is = same_bool b (same_row u v) (λ t. (same_row_is u v).1 (sym x_is ∙ h.0 t ∙ y_is)) (λ t. h.1 (x_is ∙ (same_row_is u v).0 t ∙ sym y_is))

module _ (f : Extension) (c : Torus) where
  pub phi_test : (b : Bool) (v z r : List ℕ) (rs ns ms : List (List ℕ)) (xs : List ℕ) (q m : ℕ) (ps : List ℤ) → q ≡ f.p → m ≡ c.m → ps ≡ phi m → r ≡ eta f → xs ≡ map (residue q) ps → ns ≡ map (number f) xs → ms ≡ ns → v ≡ value_at (elements f) r (map (λ a. a) ms) → z ≡ (elements f).zero → IsTrue b ↔ (v ≡ z) → b ≡ is_phi_factor f c
  unfolding is_phi_factor
  phi_test b v z r rs ns ms xs q m ps q_is m_is ps_is r_is xs_is ns_is ms_is v_is z_is h = tests_same b v z (whole_value f c (eta f) (phi c.m)) (elements f).zero h (v_is ∙ ap₂ (value_at (elements f)) r_is (map-id ms ∙ ms_is ∙ ns_is ∙ ap (map (number f)) (xs_is ∙ ap₂ (λ y z. map (residue y) z) q_is (ps_is ∙ ap phi m_is)) ∙ map_twice (number f) (residue f.p) (phi c.m))) z_is

  -- the least slot that fails
  pub bad_found : (u : ℕ) → u < slot_count c → is_idempotent_at f c u ≡ false → ((v : ℕ) → v < u → not (is_idempotent_at f c v) ≡ false) → u ≡ bad_slot f c
  unfolding bad_slot least
  bad_found u l e h = sym (least_is (slot_count c) (λ j. not (is_idempotent_at f c j)) u l (ap not e) h)

  pub bad_none : (u n : ℕ) → n ≡ slot_count c → n ≤ u → ((v : ℕ) → v < u → not (is_idempotent_at f c v) ≡ false) → n ≡ bad_slot f c
  unfolding bad_slot least
  bad_none u n n_is l h = n_is ∙ sym (least_none (slot_count c) (λ j. not (is_idempotent_at f c j)) (λ v k. h v (omega (arith, k, l, n_is))))

  pub good_more : (u : ℕ) (b : Bool) → b ≡ is_idempotent_at f c u → b ≡ true → ((v : ℕ) → v < u → not (is_idempotent_at f c v) ≡ false) → (v : ℕ) → v < u + 1 → not (is_idempotent_at f c v) ≡ false
  good_more u b b_is e h v l = go (cases_lt v u)
    where
      go : (v < u) ⊎ (u ≤ v) → not (is_idempotent_at f c v) ≡ false
      go (inl s) = h v s
      go (inr s) = ap (λ z. not (is_idempotent_at f c z)) (let q : v ≡ u = omega (arith, s, l) in q) ∙ ap not (sym b_is ∙ e)

  pub annihilated_test : (b : Bool) (q m : ℕ) (u g x y xs ys : List ℕ) → q ≡ f.p → m ≡ c.m → map pos u ≡ eps f c → g ≡ f.factor → xs ≡ map (residue q) ((R m).mul (map pos u) (map pos g)) → ys ≡ map (residue q) (R m).zero → x ≡ xs → y ≡ ys → IsTrue b ↔ (x ≡ y) → b ≡ is_annihilated f c
  unfolding is_annihilated
  annihilated_test b q m u g x y xs ys q_is m_is u_is g_is xs_is ys_is x_is y_is h = tests_same b x y _ _ h (x_is ∙ xs_is ∙ ap₂ (λ y z. map (residue y) ((R z).mul (map pos u) (map pos g))) q_is m_is ∙ ap₂ (λ y z. residue_row f c ((R c.m).mul y (map pos z))) u_is g_is) (y_is ∙ ys_is ∙ ap₂ (λ y z. map (residue y) (R z).zero) q_is m_is)

  pub complete_test : (b : Bool) (q m : ℕ) (x y xs ys : List ℕ) → q ≡ f.p → m ≡ c.m → xs ≡ residue_row f c (eps_sum f c) → ys ≡ map (residue q) (R m).one → x ≡ xs → y ≡ ys → IsTrue b ↔ (x ≡ y) → b ≡ is_complete f c
  unfolding is_complete
  complete_test b q m x y xs ys q_is m_is xs_is ys_is x_is y_is h = tests_same b x y _ _ h (x_is ∙ xs_is) (y_is ∙ ys_is ∙ ap₂ (λ y z. map (residue y) (R z).one) q_is m_is)

  pub right_test : (j : ℕ) (b : Bool) (v w : List ℕ) → IsTrue b ↔ (v ≡ w) → v ≡ slot_of f c (eps f c) (index c.dimensions j) → w ≡ unit_slot f c j → b ≡ is_idempotent_at f c j
  right_test j b v w h v_is w_is = tests_same b v w (slot_of f c (eps f c) (index c.dimensions j)) (unit_slot f c j) h v_is w_is

  -- a slot from the table of powers
  module _ (M : IsMonicFactor f) (m_pos : 0 < c.m) (root : IsPhiFactor f c) where
    pub slot_value : (a : List ℤ) (e : List ℕ) → slot_of f c a e ≡ value_of f c.m (T_of c e) (residue_row f c a)
    unfolding slot_of
    slot_value a e =
        value_total f M (power (elements f) (eta f) (T_of c e)) (power_in f M (T_of c e)) a
        ∙ ap₂ (total (adds (elements f))) (sym (length-map a (residue f.p))) (fun_ext term)
      where
        power_is : (i : ℕ) → power (elements f) (power (elements f) (eta f) (T_of c e)) i ≡ eta_power f ((i * T_of c e) % c.m)
        power_is i = sym (held_power-mul (laws f M) (eta f) (eta_in f M) (T_of c e) i) ∙ ap (power (elements f) (eta f)) (mul_comm (T_of c e) i) ∙ power_residue f M c.m m_pos root (i * T_of c e) ∙ sym (eta_power_is f M ((i * T_of c e) % c.m))

        term : (i : ℕ) → (elements f).mul (constant f M (coeff whole_numbers a i)) (power (elements f) (power (elements f) (eta f) (T_of c e)) i) ≡ scaled (residues f.p) (get_or (residue_row f c a) i 0) (eta_power f ((i * T_of c e) % c.m))
        term i = ap ((elements f).mul (constant f M (coeff whole_numbers a i))) (power_is i) ∙ constant-mul f M (coeff whole_numbers a i) (eta_power f ((i * T_of c e) % c.m)) (eta_power_in f M ((i * T_of c e) % c.m)) ∙ ap (λ z. scaled (residues f.p) z (eta_power f ((i * T_of c e) % c.m))) (map_coeff (residue_preserves f.p (p_positive f M)) a i)

    pub slot_from : (a : List ℤ) (e : List ℕ) (m t : ℕ) (u v : List ℕ) → m ≡ c.m → t ≡ T_of c e → u ≡ residue_row f c a → v ≡ value_of f m t u → v ≡ slot_of f c a e
    slot_from a e m t u v m_is t_is u_is v_is = v_is ∙ ap₂ (λ y z. value_of f y z u) m_is t_is ∙ ap (value_of f c.m (T_of c e)) u_is ∙ sym (slot_value a e)

pub unit_first : (f : Extension) (c : Torus) (j : ℕ) (w v : List ℕ) → w ≡ v → v ≡ (elements f).one → j ≡ 0 → w ≡ unit_slot f c j
unit_first f c j w v w_is v_is e = w_is ∙ v_is ∙ sym (ap (λ b. cond b (elements f).one (elements f).zero) (eq-eqb j 0 e))

pub unit_other : (f : Extension) (c : Torus) (j : ℕ) (w v : List ℕ) → w ≡ v → v ≡ (elements f).zero → (j ≡ 0 → ⊥) → w ≡ unit_slot f c j
unit_other f c j w v w_is v_is n = w_is ∙ v_is ∙ sym (ap (λ b. cond b (elements f).one (elements f).zero) (unequal j 0 (eqb j 0) refl n))

pub by_one : (q m : ℕ) (a : List ℤ) (xs : List ℕ) → xs ≡ map (residue q) (substituted m 1 a) → xs ≡ map (residue q) (fold m a)
by_one q m a xs e = e ∙ ap (λ z. map (residue q) (fold m z)) (at_power_one a)
