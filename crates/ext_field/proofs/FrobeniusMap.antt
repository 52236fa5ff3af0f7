-- Where G(eta^p) is 0, the map that takes X to X^p is a map of rings.
use Rattle.std.proofs.Common.{◌≡◌, ℕ, zero, suc, ◌+◌, ◌-◌, ◌*◌, ◌^◌, ◌<◌, true, IsTrue, List, [], ◌∷◌, map, refl, lit<, ◌%◌, ap, ap₂, sym, ◌∙◌, arith}
use Rattle.std.specs.Prelude.{ℤ}
use Rattle.std.proofs.lemmas.Simd.{map-map}
use Rattle.std.proofs.lemmas.Nat.{mod_below}
use Rattle.std.proofs.Math.Nat.{pow-zero, pow-succ', mul-pos}
use Rattle.std.proofs.lemmas.Bool.{lt-ltb, ltb-true, and_parts, and_from}
use Rattle.algebra.specs.Ring.{Ops, HeldLaws, residues}
use Rattle.algebra.specs.Hom.{Hom}
use Rattle.algebra.specs.Power.{power}
use Rattle.algebra.specs.Poly.{all_held, times, value_at, monomial, at_power, remainder}
use Rattle.algebra.proofs.Held.{same_held, held_ring}
use Rattle.algebra.proofs.Homs.{map_zero}
use Rattle.algebra.proofs.HeldLists.{times_held}
use Rattle.algebra.proofs.HeldPowers.{held_power, held_power-mul}
use Rattle.algebra.proofs.HeldRemainders.{held_remainder_small}
use Rattle.algebra.proofs.Basic.{mul_zero, add_zero}
use Rattle.algebra.specs.Expression.{◌:+◌, ◌:*◌, :0, :1}
use Rattle.algebra.proofs.Solver.{solve1}
use Rattle.algebra.specs.Whole.{residue}
use Rattle.algebra.proofs.WholeResidues.{residue_lt}
use Rattle.mod_ring.specs.Laws.{word_laws}
use Rattle.ext_field.specs.Element.{Extension, IsMonicFactor, IsExtension, IsFrobenius, IsElement, is_element, elements, number, eta, frob, frob_times}
use Rattle.ext_field.specs.Laws.{factor_held, factor_monic, element_laws}
use Rattle.ext_field.specs.FrobeniusLaw.{FrobeniusLaw}
use Rattle.ext_field.proofs.Rows.{element_held, element_long}
use Rattle.ext_field.proofs.Substitution.{row, monomial_held, substituted}
use Rattle.ext_field.proofs.Frobenius.{frob_is, frob_element}
use Rattle.ext_field.proofs.ElementValues.{at, word_held, number_element, number_zero, at_element, at-plus, at-times, at-remainder}

-- t times X^p for X, and s times more
pub times-add : (f : Extension) (s t : ℕ) (a : List ℕ) → frob_times f (s + t) a ≡ frob_times f s (frob_times f t a)
unfolding frob_times
times-add f zero t a = ap (λ n. frob_times f n a) (omega arith)
times-add f (suc s) t a = ap (λ n. frob_times f n a) e ∙ ap (frob f) (times-add f s t a)
  where
    e : suc s + t ≡ suc (s + t)
    e = omega arith

-- a(X^1) is a
pub at_first_power : (o : Ops ℕ) (a : List ℕ) → at_power o 1 a ≡ a
unfolding at_power
at_first_power o [] = refl
at_first_power o (c ∷ a) = ap (λ l. c ∷ l) (at_first_power o a)

power_above : (p t : ℕ) → 0 < p → 0 < p ^ t
power_above p zero h = rw (pow-zero p) (lit< tt)
power_above p (suc t) h = let e : p ^ suc t ≡ p * p ^ t = pow-succ' p t in rw e (mul-pos h (power_above p t h))

pow_zero : (n : ℕ) → n ^ 0 ≡ 1
pow_zero n = pow-zero n

module _ (f : Extension) (F : IsMonicFactor f) where
  abbrev laws : HeldLaws (is_element f) (elements f)
  laws = element_laws f F

  pub eta_element : IsElement f (eta f)
  eta_element = row (word_laws f.p F.p_low) f.factor (factor_held f F) (factor_monic f F) (monomial (residues f.p) 1) (monomial_held (word_laws f.p F.p_low) 1)

  pub eta_power_element : (n : ℕ) → IsElement f (power (elements f) (eta f) n)
  eta_power_element = held_power laws (eta f) eta_element

  pub times_element : (t : ℕ) (a : List ℕ) → IsElement f a → IsElement f (frob_times f t a)
  unfolding frob_times
  times_element zero a h = h
  times_element (suc t) a h = frob_element f F (frob_times f t a) (times_element t a h)

  -- the value of X at x is x
  at_root : (x : List ℕ) → IsElement f x → at f F x (monomial (residues f.p) 1) ≡ x
  at_root x h = ap (λ z. (elements f).add z ((elements f).mul x ((elements f).add (elements f).one ((elements f).mul x (elements f).zero)))) (number_zero f F) ∙ ap (λ z. z.0) (solve1 (held_ring laws) (λ x. :0 :+ x :* (:1 :+ x :* :0)) (λ x. x) refl (x, h))

  at_number : (x : List ℕ) → IsElement f x → (c : ℕ) → c < f.p → at f F x (c ∷ []) ≡ number f c
  at_number x h c l = ap (λ z. (elements f).add (number f c) z.0) (mul_zero (held_ring laws) (x, h)) ∙ ap (λ z. z.0) (add_zero (held_ring laws) (number f c, number_element f F c l))

  one_word : (c : ℕ) → c < f.p → IsTrue (all_held (word_held f F) (c ∷ []))
  one_word c l = and_from (word_held f F c) true (lt-ltb c f.p l) refl

  -- a(X^k) is the value at X^k
  pub powered : (k : ℕ) (a : List ℕ) → IsElement f a → 0 < k → remainder (residues f.p) f.factor (at_power (residues f.p) k a) ≡ at f F (power (elements f) (eta f) k) a
  powered k a h l = ap (λ n. remainder (residues f.p) f.factor (at_power (residues f.p) n a)) e ∙ substituted (word_laws f.p F.p_low) f.factor (factor_held f F) (factor_monic f F) (k - 1) a (element_held f a h) ∙ ap (λ n. at f F (power (elements f) (eta f) n) a) (sym e)
    where
      e : k ≡ suc (k - 1)
      e = omega arith

module _ (f : Extension) (E : IsExtension f) where
  abbrev F : IsMonicFactor f
  F = E.factor

  -- X^p
  abbrev image : List ℕ
  image = power (elements f) (eta f) f.p

  image_element : IsElement f image
  image_element = eta_power_element f F f.p

  image_root : at f F image f.factor ≡ (elements f).zero
  unfolding IsFrobenius
  image_root = E.frobenius

  -- a remainder becomes the value of the polynomial at X^p
  pub frob_remainder : (a : List ℕ) → IsTrue (all_held (word_held f F) a) → frob f (remainder (residues f.p) f.factor a) ≡ at f F image a
  frob_remainder a h = sym (frob_is f F (remainder (residues f.p) f.factor a) (row (word_laws f.p F.p_low) f.factor (factor_held f F) (factor_monic f F) a h)) ∙ at-remainder f F image image_element image_root a h

  pub frob-add : (a b : List ℕ) → IsElement f a → IsElement f b → frob f ((elements f).add a b) ≡ (elements f).add (frob f a) (frob f b)
  frob-add a b ha hb = sym (frob_is f F ((elements f).add a b) ((element_laws f F).add_held a b ha hb)) ∙ at-plus f F image image_element a b (element_held f a ha) (element_held f b hb) ∙ ap₂ (elements f).add (frob_is f F a ha) (frob_is f F b hb)

  pub frob-mul : (a b : List ℕ) → IsElement f a → IsElement f b → frob f ((elements f).mul a b) ≡ (elements f).mul (frob f a) (frob f b)
  frob-mul a b ha hb = frob_remainder (times (residues f.p) a b) (times_held (word_laws f.p F.p_low) a b (element_held f a ha) (element_held f b hb)) ∙ at-times f F image image_element a b (element_held f a ha) (element_held f b hb) ∙ ap₂ (elements f).mul (frob_is f F a ha) (frob_is f F b hb)

  pub frob_number : (c : ℕ) → c < f.p → frob f (number f c) ≡ number f c
  frob_number c l = frob_remainder (c ∷ []) (one_word f F c l) ∙ at_number f F image image_element c l

  pub frob_one : frob f (elements f).one ≡ (elements f).one
  frob_one = frob_number (1 % f.p) (mod_below 1 f.p (omega (arith, F.p_low)))

  pub frob_root : frob f (eta f) ≡ image
  frob_root = frob_remainder (monomial (residues f.p) 1) (monomial_held (word_laws f.p F.p_low) 1) ∙ at_root f F image image_element

  -- as a map of rings
  abbrev pub frob_hom : Hom (held_ring (element_laws f F)) (held_ring (element_laws f F))
  frob_hom = record {
    map = λ a. (frob f a.0, frob_element f F a.0 a.1);
    is = record {
      map_add = λ a b. same_held (is_element f) (frob-add a.0 b.0 a.1 b.1);
      map_mul = λ a b. same_held (is_element f) (frob-mul a.0 b.0 a.1 b.1);
      map_one = same_held (is_element f) frob_one;
    };
  }

  pub frob_zero : frob f (elements f).zero ≡ (elements f).zero
  frob_zero = ap (λ z. z.0) (map_zero (held_ring (element_laws f F)) (held_ring (element_laws f F)) frob_hom)

  -- the value of a polynomial at x becomes that at the image of x
  pub frob_at : (x : List ℕ) → IsElement f x → (l : List ℕ) → IsTrue (all_held (word_held f F) l) → frob f (at f F x l) ≡ at f F (frob f x) l
  frob_at x h [] k = frob_zero
  frob_at x h (c ∷ l) k = frob-add (number f c) ((elements f).mul x (at f F x l)) (number_element f F c c_low) ((element_laws f F).mul_held x (at f F x l) h rest) ∙ ap₂ (elements f).add (frob_number c c_low) (frob-mul x (at f F x l) h rest ∙ ap ((elements f).mul (frob f x)) (frob_at x h l l_held))
    where
      c_low : c < f.p
      c_low = ltb-true c f.p (and_parts (word_held f F c) (all_held (word_held f F) l) k).0

      l_held : IsTrue (all_held (word_held f F) l)
      l_held = (and_parts (word_held f F c) (all_held (word_held f F) l) k).1

      rest : IsElement f (at f F x l)
      rest = at_element f F x h l l_held

  frob_power : (x : List ℕ) → IsElement f x → (n : ℕ) → frob f (power (elements f) x n) ≡ power (elements f) (frob f x) n
  frob_power x h zero = frob_one
  frob_power x h (suc n) = frob-mul x (power (elements f) x n) h (held_power (element_laws f F) x h n) ∙ ap ((elements f).mul (frob f x)) (frob_power x h n)

  -- t times the map: the value at X^(p^t)
  pub times_at : (t : ℕ) (a : List ℕ) → IsElement f a → frob_times f t a ≡ at f F (power (elements f) (eta f) (f.p ^ t)) a
  unfolding frob_times
  times_at zero a h = sym (held_remainder_small (word_laws f.p F.p_low) f.factor (factor_held f F) (factor_monic f F) a (element_held f a h) (element_long f a h)) ∙ ap (remainder (residues f.p) f.factor) (sym (at_first_power (residues f.p) a)) ∙ powered f F 1 a h (lit< tt) ∙ ap (λ n. at f F (power (elements f) (eta f) n) a) (sym (pow_zero f.p))
  times_at (suc t) a h = ap (frob f) (times_at t a h) ∙ frob_at (power (elements f) (eta f) (f.p ^ t)) (eta_power_element f F (f.p ^ t)) a (element_held f a h) ∙ ap (λ x. at f F x a) (frob_power (eta f) (eta_element f F) (f.p ^ t) ∙ ap (λ y. power (elements f) y (f.p ^ t)) frob_root ∙ sym (held_power-mul (element_laws f F) (eta f) (eta_element f F) f.p (f.p ^ t)) ∙ ap (power (elements f) (eta f)) (sym (pow-succ' f.p t)))

  -- t times the map: X^(p^t) for X
  pub times_is : (t : ℕ) (a : List ℕ) → IsElement f a → frob_times f t a ≡ remainder (residues f.p) f.factor (at_power (residues f.p) (f.p ^ t) a)
  times_is t a h = times_at t a h ∙ sym (powered f F (f.p ^ t) a h (power_above f.p t (omega (arith, F.p_low))))

  -- whole coefficients
  pub frob_values : (x : List ℕ) → IsElement f x → (a : List ℤ) → frob f (value_at (elements f) x (map (λ k. number f (residue f.p k)) a)) ≡ value_at (elements f) (frob f x) (map (λ k. number f (residue f.p k)) a)
  frob_values x h a = ap (λ l. frob f (value_at (elements f) x l)) (sym (split a)) ∙ frob_at x h (map (residue f.p) a) (residues_held a) ∙ ap (value_at (elements f) (frob f x)) (split a)
    where
      split : (a : List ℤ) → map (number f) (map (residue f.p) a) ≡ map (λ k. number f (residue f.p k)) a
      split a = map-map (number f) (residue f.p) a

      residues_held : (a : List ℤ) → IsTrue (all_held (word_held f F) (map (residue f.p) a))
      residues_held [] = refl
      residues_held (z ∷ a) = and_from (word_held f F (residue f.p z)) (all_held (word_held f F) (map (residue f.p) a)) (lt-ltb (residue f.p z) f.p (residue_lt f.p (omega (arith, F.p_low)) z)) (residues_held a)

  pub frobenius_law : FrobeniusLaw f
  frobenius_law = record {
    element = frob_element f F;
    sums = frob-add;
    products = frob-mul;
    zero = frob_zero;
    one = frob_one;
    numbers = frob_number;
    root = frob_root;
    values = frob_values;
    repeated = times-add f;
    times = times_is;
  }
