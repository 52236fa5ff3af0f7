-- Powers and units in the ring of residues, in words of natural numbers.
use Rattle.std.specs.Prelude.{◌≡◌, ℕ, zero, suc, ◌*◌, ◌^◌, ◌%◌, ◌<◌, ltb, IsTrue}
use Rattle.std.proofs.Common.{arith, sym, ◌∙◌, ap, pow-suc, mod-eq_of_lt}
use Rattle.std.proofs.lemmas.Nat.{mul-mod_first, mul-mod_second}
use Rattle.std.proofs.Math.Nat.{mul-add-mod_self_left, pow-zero}
use Rattle.algebra.specs.Ring.{residues}
use Rattle.algebra.specs.Power.{power, IsUnit}
use Rattle.algebra.specs.Divisor.{HasInverse}
use Rattle.algebra.proofs.Residues.{residue_held}
use Rattle.algebra.proofs.Held.{same_held}
use Rattle.algebra.proofs.WholeResidues.{residue_ring}
use Rattle.algebra.proofs.Chinese.{inverse_of_residue}

pub power_residue : (q a n : ℕ) → power (residues q) (a % q) n ≡ a ^ n % q
power_residue q a zero = ap (λ z. z % q) (sym (pow-zero a))
power_residue q a (suc n) = ap (λ z. (a % q * z) % q) (power_residue q a n) ∙ mul-mod_first a (a ^ n % q) q ∙ mul-mod_second a (a ^ n) q ∙ ap (λ z. z % q) (turn (a ^ n) ∙ sym (pow-suc a n))
  where
    turn : (b : ℕ) → a * b ≡ b * a
    turn b = omega arith

-- a number with an inverse modulo q is a unit of the residues
pub unit_residue : (q a : ℕ) (p : 0 < q) (h : IsTrue (ltb a q)) → HasInverse q a → IsUnit (residue_ring q p).ops (a, h)
unit_residue q a p h (u, v, e) = ((u % q, residue_held q u p), same_held (λ a. ltb a q) (sym (mul-mod_second a u q ∙ ap (λ z. z % q) e ∙ mul-add-mod_self_left q v 1)))

-- and the other way round, for q above 1
pub inverse_residue : (q a : ℕ) (p : 1 < q) (l : 0 < q) (h : IsTrue (ltb a q)) → IsUnit (residue_ring q l).ops (a, h) → HasInverse q a
inverse_residue q a p l h (c, e) = inverse_of_residue q a c.0 p (sym (ap (λ z. z.0) e) ∙ mod-eq_of_lt p)
