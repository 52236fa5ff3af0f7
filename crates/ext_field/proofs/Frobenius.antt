-- The map that takes X to X^p, by powers of X modulo the factor.
use Rattle.std.proofs.Common.{◌≡◌, ℕ, suc, ◌-◌, List, map, ap, sym, ◌∙◌, arith}
use Rattle.algebra.specs.Ring.{residues}
use Rattle.algebra.specs.Power.{power}
use Rattle.algebra.specs.Poly.{value_at, at_power, remainder}
use Rattle.algebra.proofs.HeldLists.{at_power_held}
use Rattle.mod_ring.specs.Laws.{word_laws}
use Rattle.ext_field.specs.Element.{Extension, IsMonicFactor, IsElement, elements, eta, number, frob}
use Rattle.ext_field.specs.Laws.{factor_held, factor_monic}
use Rattle.ext_field.proofs.Rows.{element_held}
use Rattle.ext_field.proofs.Substitution.{row, substituted}

module _ (f : Extension) (F : IsMonicFactor f) (a : List ℕ) (h : IsElement f a) where
  pub frob_is : value_at (elements f) (power (elements f) (eta f) f.p) (map (number f) a) ≡ frob f a
  unfolding frob
  frob_is = ap (λ n. value_at (elements f) (power (elements f) (eta f) n) (map (number f) a)) e ∙ sym (substituted (word_laws f.p F.p_low) f.factor (factor_held f F) (factor_monic f F) (f.p - 1) a (element_held f a h)) ∙ ap (λ n. remainder (residues f.p) f.factor (at_power (residues f.p) n a)) (sym e)
    where
      e : f.p ≡ suc (f.p - 1)
      e = omega (arith, F.p_low)

  pub frob_element : IsElement f (frob f a)
  unfolding frob
  frob_element = row (word_laws f.p F.p_low) f.factor (factor_held f F) (factor_monic f F) (at_power (residues f.p) f.p a) (at_power_held (word_laws f.p F.p_low) f.p a (element_held f a h))
