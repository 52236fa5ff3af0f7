-- The values in E of polynomials with whole coefficients. Each element of E is such a value at X, and frob takes the value at
-- a power of X to the value at its p-th power.
use Rattle.std.specs.Prelude.{◌≡◌, ℕ, zero, suc, ◌-◌, ◌*◌, ◌%◌, ◌^◌, ◌<◌, nat_lt, IsTrue, List, [], ◌∷◌, map, length, get_or, ℤ, pos, refl}
use Rattle.std.proofs.Common.{sym, ◌∙◌, ap, ap₂, arith, lt-ltb, ltb-true, mod-eq_of_lt, pow-suc, mul-pos}
use Rattle.std.proofs.lemmas.Bool.{and_parts, and_from}
use Rattle.std.proofs.lemmas.List.{length-map, get_or-map}
use Rattle.std.proofs.Math.Nat.{pow-zero}
use Rattle.algebra.specs.Ring.{HeldLaws, whole_numbers, residues}
use Rattle.algebra.specs.Hom.{Preserves}
use Rattle.algebra.specs.Power.{power}
use Rattle.algebra.specs.Poly.{all_held, value_at, plus, negated, times, at_power, IsMonic, degree_of, remainder}
use Rattle.algebra.specs.Whole.{residue}
use Rattle.algebra.proofs.Basic.{mul_zero}
use Rattle.algebra.proofs.Held.{held_ring}
use Rattle.algebra.proofs.Integers.{whole_ring}
use Rattle.algebra.proofs.WholeResidues.{residue_preserves, residue_lt}
use Rattle.algebra.proofs.Residues.{residue_laws}
use Rattle.algebra.proofs.Maps.{map_remainder}
use Rattle.algebra.proofs.HeldQuotients.{number_preserves}
use Rattle.algebra.proofs.HeldRemainders.{held_remainder_small}
use Rattle.algebra.proofs.HeldPowers.{held_power, held_power-mul}
use Rattle.algebra.proofs.Over.{over-plus, over-negated, over-times, over-remainder, over-at_power}
use Rattle.ext_field.specs.Element.{Extension, IsMonicFactor, IsExtension, IsFrobenius, is_element, IsElement, elements, number, eta, frob, frob_times}
use Rattle.ext_field.specs.Laws.{factor_held, factor_monic, element_laws}
use Rattle.ext_field.proofs.Frobenius.{frob_is}
use Rattle.ext_field.proofs.Rows.{element_held, element_long}
use Rattle.ext_field.proofs.Substitution.{row, substituted}

pub map_twice : {A B C : Type 0} (g : B → C) (f : A → B) (xs : List A) → map g (map f xs) ≡ map (λ x. g (f x)) xs
map_twice g f [] = refl
map_twice g f (x ∷ xs) = ap (λ z. g (f x) ∷ z) (map_twice g f xs)

-- X for X changes nothing
at_power_one : (o : ℕ) (a : List ℕ) → at_power (residues o) 1 a ≡ a
unfolding at_power
at_power_one o [] = refl
at_power_one o (x ∷ a) = ap (λ z. x ∷ z) (at_power_one o a)

-- numbers below p are their own residues
pub residues_lifted : (p : ℕ) (a : List ℕ) → IsTrue (all_held (λ c. nat_lt c p) a) → map (residue p) (map pos a) ≡ a
residues_lifted p [] h = refl
residues_lifted p (x ∷ a) h = ap₂ (λ y z. y ∷ z) (mod-eq_of_lt (ltb-true x p (and_parts (nat_lt x p) (all_held (λ c. nat_lt c p) a) h).0)) (residues_lifted p a (and_parts (nat_lt x p) (all_held (λ c. nat_lt c p) a) h).1)

pub power_positive : (b u : ℕ) → 0 < b → 0 < b ^ u
power_positive b zero h = omega (arith, pow-zero b)
power_positive b (suc u) h = omega (arith, pow-suc b u, mul-pos (power_positive b u h) h)

pub residues_held : (p : ℕ) → 0 < p → (a : List ℤ) → IsTrue (all_held (λ c. nat_lt c p) (map (residue p) a))
residues_held p q [] = refl
residues_held p q (x ∷ a) = and_from (nat_lt (residue p x) p) (all_held (λ c. nat_lt c p) (map (residue p) a)) (lt-ltb (residue p x) p (residue_lt p q x)) (residues_held p q a)

module _ (f : Extension) (F : IsMonicFactor f) where
  pub p_positive : 0 < f.p
  p_positive = omega (arith, F.p_low)

  words : HeldLaws (λ c. nat_lt c f.p) (residues f.p)
  words = residue_laws f.p p_positive

  -- a whole number in E
  abbrev pub constant : ℤ → List ℕ
  constant z = number f (residue f.p z)

  pub constant_keeps : Preserves whole_numbers (elements f) constant
  constant_keeps = number_preserves words whole_ring (residue f.p) (residue_preserves f.p p_positive) (λ z. lt-ltb (residue f.p z) f.p (residue_lt f.p p_positive z)) f.factor (factor_held f F) (factor_monic f F)

  pub constant_in : (z : ℤ) → IsElement f (constant z)
  constant_in z = row words f.factor (factor_held f F) (factor_monic f F) (residue f.p z ∷ []) (residues_held f.p p_positive (z ∷ []))

  -- a(x)
  abbrev pub value : List ℕ → List ℤ → List ℕ
  value x a = value_at (elements f) x (map constant a)

  pub laws : HeldLaws (is_element f) (elements f)
  laws = element_laws f F

  pub value_in : (x : List ℕ) → IsElement f x → (a : List ℤ) → IsElement f (value x a)
  value_in x h [] = laws.zero_held
  value_in x h (z ∷ a) = laws.add_held (constant z) ((elements f).mul x (value x a)) (constant_in z) (laws.mul_held x (value x a) h (value_in x h a))

  module _ (x : List ℕ) (h : IsElement f x) where
    pub value-plus : (a b : List ℤ) → value x (plus whole_numbers a b) ≡ (elements f).add (value x a) (value x b)
    value-plus = over-plus laws whole_ring constant constant_keeps constant_in x h

    pub value-negated : (a : List ℤ) → value x (negated whole_numbers a) ≡ (elements f).neg (value x a)
    value-negated = over-negated laws whole_ring constant constant_keeps constant_in x h

    pub value-times : (a b : List ℤ) → value x (times whole_numbers a b) ≡ (elements f).mul (value x a) (value x b)
    value-times = over-times laws whole_ring constant constant_keeps constant_in x h

    pub value-remainder : (g : List ℤ) → IsMonic whole_numbers g → value x g ≡ (elements f).zero → (a : List ℤ) → value x (remainder whole_numbers g a) ≡ value x a
    value-remainder = over-remainder laws whole_ring constant constant_keeps constant_in x h

    pub value-at_power : (k : ℕ) → 0 < k → (a : List ℤ) → value x (at_power whole_numbers k a) ≡ value (power (elements f) x k) a
    value-at_power k q = over-at_power laws whole_ring constant constant_keeps constant_in k q x h

    pub value_one : value x (pos 1 ∷ []) ≡ (elements f).one
    value_one = ap₂ (elements f).add constant_keeps.keeps_one nothing ∙ laws.add_comm (elements f).one (elements f).zero laws.one_held laws.zero_held ∙ laws.zero_add (elements f).one laws.one_held
      where
        nothing : (elements f).mul x (elements f).zero ≡ (elements f).zero
        nothing = ap (λ z. z.0) (mul_zero (held_ring laws) (x, h))

  -- the value sees the coefficients modulo p alone
  pub value_residues : (x : List ℕ) (a b : List ℤ) → map (residue f.p) a ≡ map (residue f.p) b → value x a ≡ value x b
  value_residues x a b e = ap (value_at (elements f) x) (sym (map_twice (number f) (residue f.p) a) ∙ ap (map (number f)) e ∙ map_twice (number f) (residue f.p) b)

  pub eta_in : IsElement f (eta f)
  eta_in = row words f.factor (factor_held f F) (factor_monic f F) (0 ∷ 1 % f.p ∷ []) (and_from (nat_lt 0 f.p) (all_held (λ c. nat_lt c f.p) (1 % f.p ∷ [])) (lt-ltb 0 f.p p_positive) (residues_held f.p p_positive (pos 1 ∷ [])))

  pub power_in : (n : ℕ) → IsElement f (power (elements f) (eta f) n)
  power_in = held_power laws (eta f) eta_in

  pub power_one : power (elements f) (eta f) 1 ≡ eta f
  power_one = laws.mul_comm (eta f) (elements f).one eta_in laws.one_held ∙ laws.one_mul (eta f) eta_in

  -- G over the whole numbers
  abbrev pub whole_factor : List ℤ
  whole_factor = map pos f.factor

  pub whole_factor_monic : IsMonic whole_numbers whole_factor
  whole_factor_monic = record { filled = omega (arith, length-map f.factor pos, F.degree_low); top = ap (λ n. get_or whole_factor n (pos 0)) degree_is ∙ get_or-map pos f.factor (length f.factor - 1) 0 (pos 0) (omega (arith, F.degree_low)) ∙ ap pos F.monic }
    where
      degree_is : degree_of whole_numbers whole_factor ≡ length f.factor - 1
      degree_is = ap (λ n. n - 1) (length-map f.factor pos)

  -- each value at X is the remainder by G
  pub value_eta : (a : List ℤ) → value (eta f) a ≡ map (residue f.p) (remainder whole_numbers whole_factor a)
  value_eta a =
      ap (value_at (elements f) (eta f)) (sym (map_twice (number f) (residue f.p) a))
      ∙ ap (λ x. value_at (elements f) x (map (number f) (map (residue f.p) a))) (sym power_one)
      ∙ sym (substituted words f.factor (factor_held f F) (factor_monic f F) 0 (map (residue f.p) a) (residues_held f.p p_positive a))
      ∙ ap (remainder (residues f.p) f.factor) (at_power_one f.p (map (residue f.p) a))
      ∙ ap (λ g. remainder (residues f.p) g (map (residue f.p) a)) (sym (residues_lifted f.p f.factor (factor_held f F)))
      ∙ sym (map_remainder (residue_preserves f.p p_positive) whole_factor a)

  -- and each element is its own value at X
  pub value_lifted : (x : List ℕ) → IsElement f x → value (eta f) (map pos x) ≡ x
  value_lifted x h =
      value_eta (map pos x)
      ∙ map_remainder (residue_preserves f.p p_positive) whole_factor (map pos x)
      ∙ ap₂ (remainder (residues f.p)) (residues_lifted f.p f.factor (factor_held f F)) (residues_lifted f.p x (element_held f x h))
      ∙ held_remainder_small words f.factor (factor_held f F) (factor_monic f F) x (element_held f x h) (element_long f x h)

  pub frob_lifted : (x : List ℕ) → IsElement f x → frob f x ≡ value (power (elements f) (eta f) f.p) (map pos x)
  frob_lifted x h = sym (frob_is f F x h) ∙ ap (λ y. value_at (elements f) (power (elements f) (eta f) f.p) (map (number f) y)) (sym (residues_lifted f.p x (element_held f x h))) ∙ ap (value_at (elements f) (power (elements f) (eta f) f.p)) (map_twice (number f) (residue f.p) (map pos x))

module _ (f : Extension) (E : IsExtension f) where
  abbrev F : IsMonicFactor f
  F = E.factor

  factor_zero : value f F (power (elements f) (eta f) f.p) (whole_factor f F) ≡ (elements f).zero
  unfolding IsFrobenius
  factor_zero = ap (value_at (elements f) (power (elements f) (eta f) f.p)) (sym (map_twice (number f) (residue f.p) (whole_factor f F)) ∙ ap (map (number f)) (residues_lifted f.p f.factor (factor_held f F))) ∙ E.frobenius

  -- frob takes the value at X to that at X^p
  frob_value : (a : List ℤ) → frob f (value f F (eta f) a) ≡ value f F (power (elements f) (eta f) f.p) a
  frob_value a =
      frob_lifted f F (value f F (eta f) a) (value_in f F (eta f) (eta_in f F) a)
      ∙ value_residues f F (power (elements f) (eta f) f.p) (map pos (value f F (eta f) a)) (remainder whole_numbers (whole_factor f F) a) (residues_lifted f.p (value f F (eta f) a) (element_held f (value f F (eta f) a) (value_in f F (eta f) (eta_in f F) a)) ∙ value_eta f F a)
      ∙ value-remainder f F (power (elements f) (eta f) f.p) (power_in f F f.p) (whole_factor f F) (whole_factor_monic f F) factor_zero a

  -- at each power of X
  pub frob_power : (t : ℕ) → 0 < t → (a : List ℤ) → frob f (value f F (power (elements f) (eta f) t) a) ≡ value f F (power (elements f) (eta f) (t * f.p)) a
  frob_power t q a =
      ap (frob f) (sym (value-at_power f F (eta f) (eta_in f F) t q a))
      ∙ frob_value (at_power whole_numbers t a)
      ∙ value-at_power f F (power (elements f) (eta f) f.p) (power_in f F f.p) t q a
      ∙ ap (λ x. value f F x a) (sym (held_power-mul (laws f F) (eta f) (eta_in f F) f.p t) ∙ ap (power (elements f) (eta f)) (turn f.p t))
    where
      turn : (m n : ℕ) → m * n ≡ n * m
      turn m n = omega arith

  pub frob_times_power : (u t : ℕ) → 0 < t → (a : List ℤ) → frob_times f u (value f F (power (elements f) (eta f) t) a) ≡ value f F (power (elements f) (eta f) (t * f.p ^ u)) a
  unfolding frob_times
  frob_times_power zero t q a = ap (λ n. value f F (power (elements f) (eta f) n) a) (sym (ap (λ z. t * z) (pow-zero f.p) ∙ once t))
    where
      once : (t : ℕ) → t * 1 ≡ t
      once t = omega arith
  frob_times_power (suc u) t q a = ap (frob f) (frob_times_power u t q a) ∙ frob_power (t * f.p ^ u) (mul-pos q (power_positive f.p u (p_positive f F))) a ∙ ap (λ n. value f F (power (elements f) (eta f) n) a) (regroup (f.p ^ u) ∙ ap (λ z. t * z) (sym (pow-suc f.p u)))
    where
      regroup : (s : ℕ) → t * s * f.p ≡ t * (s * f.p)
      regroup s = omega arith
