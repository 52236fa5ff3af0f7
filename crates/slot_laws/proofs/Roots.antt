-- The powers of X modulo G are roots of Phi_m, by exponents that are units modulo m, and hang on the exponent modulo m alone.
use Rattle.std.specs.Prelude.{◌≡◌, ℕ, zero, suc, ◌+◌, ◌*◌, ◌/◌, ◌%◌, ◌<◌, List, [], ◌∷◌, map, ℤ, refl}
use Rattle.std.proofs.Common.{sym, ◌∙◌, ap, arith, div-add-mod', mul_comm}
use Rattle.algebra.specs.Ring.{CommRing, whole_numbers}
use Rattle.algebra.specs.Hom.{Hom}
use Rattle.algebra.specs.Power.{power, less}
use Rattle.algebra.specs.Divisor.{UnitModulo}
use Rattle.algebra.specs.Poly.{value_at, at_power}
use Rattle.algebra.proofs.Basic.{zero_mul, add_cancel}
use Rattle.algebra.proofs.Held.{same_held, held_ring}
use Rattle.algebra.proofs.HeldLists.{values, held_preserves}
use Rattle.algebra.proofs.HeldPowers.{held_power-add, held_power-mul}
use Rattle.algebra.proofs.HeldQuotients.{held_hom}
use Rattle.algebra.proofs.Homs.{keeps_power}
use Rattle.algebra.proofs.Integers.{whole_ring}
use Rattle.algebra.proofs.Maps.{map_value_at}
use Rattle.algebra.proofs.Powers.{power_one}
use Rattle.algebra.proofs.Values as plain
use Rattle.cyclotomic.specs.Cyclotomic.{phi, fold}
use Rattle.cyclotomic.proofs.Family.{member_divides}
use Rattle.cyclotomic.proofs.PhiLaws.{phi_is_monic}
use Rattle.cyclotomic.proofs.PhiValues.{value_law}
use Rattle.cyclotomic.proofs.Substitution.{phi_divides_image_list}
use Rattle.ext_field.specs.Element.{Extension, IsMonicFactor, is_element, IsElement, elements, eta}
use Rattle.slot_laws.proofs.WholeValue.{constant, constant_keeps, constant_in, value, laws, value-remainder, value-at_power, eta_in, power_in}

-- a unit modulo m, for m above 1, is not 0
pub unit_positive : (m t : ℕ) → 1 < m → UnitModulo m t → 0 < t
unit_positive m zero l h = absurd (omega (arith, h m (0, none) (1, one)))
  where
    none : 0 ≡ 0 * m
    none = omega arith

    one : m ≡ 1 * m
    one = omega arith
unit_positive m (suc t) l h = omega arith

module _ (f : Extension) (F : IsMonicFactor f) where
  abbrev pub E : CommRing
  E = held_ring (laws f F)

  -- the whole numbers in E, as a map of rings
  abbrev pub h : Hom whole_ring E
  h = held_hom (laws f F) whole_ring (constant f F) (constant_keeps f F) (constant_in f F)

  abbrev pub X : E.Carrier
  X = (eta f, eta_in f F)

  pub inner : (x : E.Carrier) (a : List ℤ) → (plain.value whole_ring E h x a).0 ≡ value f F x.0 a
  inner x a = map_value_at (held_preserves (laws f F)) x (map h.map a) ∙ ap (value_at (elements f) x.0) (twice a)
    where
      twice : (a : List ℤ) → values (is_element f) (map h.map a) ≡ map (constant f F) a
      twice [] = refl
      twice (b ∷ a) = ap (λ z. constant f F b ∷ z) (twice a)

  -- X^m is 1 where Phi_m is 0 at X
  pub power_m : (m : ℕ) → 0 < m → value f F (eta f) (phi m) ≡ (elements f).zero → power (elements f) (eta f) m ≡ (elements f).one
  power_m zero p z = absurd (omega arith)
  power_m (suc k) p z = sym (keeps_power (held_preserves (laws f F)) X (suc k)) ∙ ap (λ y. y.0) (is_one d)
    where
      at : ℕ → E.Carrier
      at d = plain.value whole_ring E h X (phi d)

      zero_there : at (suc k) ≡ E.zero
      zero_there = same_held (is_element f) (inner X (phi (suc k)) ∙ z)

      d : (c : E.Carrier) × (less E.ops (power E.ops X (suc k)) E.one ≡ E.mul (at (suc k)) c)
      d = member_divides E X at k (value_law E h X k)

      is_one : (c : E.Carrier) × (less E.ops (power E.ops X (suc k)) E.one ≡ E.mul (at (suc k)) c) → power E.ops X (suc k) ≡ E.one
      is_one (c, e) = add_cancel E (E.neg E.one) (power E.ops X (suc k)) E.one (E.add_comm (E.neg E.one) (power E.ops X (suc k)) ∙ e ∙ ap (λ y. E.mul y c) zero_there ∙ zero_mul E c ∙ sym (E.neg_add E.one))

  module _ (m : ℕ) (p : 0 < m) (z : value f F (eta f) (phi m) ≡ (elements f).zero) where
    -- the remainder by Phi_m has the same value at a zero of Phi_m
    pub value_fold : (x : List ℕ) → IsElement f x → value f F x (phi m) ≡ (elements f).zero → (a : List ℤ) → value f F x (fold m a) ≡ value f F x a
    value_fold x i e = value-remainder f F x i (phi m) (phi_is_monic m p) e

    pub power_root : (t : ℕ) → 0 < t → UnitModulo m t → value f F (power (elements f) (eta f) t) (phi m) ≡ (elements f).zero
    power_root t q u =
        sym (value-at_power f F (eta f) (eta_in f F) t q (phi m))
        ∙ sym (value_fold (eta f) (eta_in f F) z (at_power whole_numbers t (phi m)))
        ∙ ap (value f F (eta f)) (phi_divides_image_list m t p q u)
        ∙ value_fold (eta f) (eta_in f F) z []

    pub power_residue : (t : ℕ) → power (elements f) (eta f) t ≡ power (elements f) (eta f) (t % m)
    power_residue t =
        ap (power (elements f) (eta f)) (sym (div-add-mod' t m) ∙ ap (λ n. n + t % m) (mul_comm (t / m) m))
        ∙ held_power-add (laws f F) (eta f) (eta_in f F) (m * (t / m)) (t % m)
        ∙ ap (λ y. (elements f).mul y (power (elements f) (eta f) (t % m))) (held_power-mul (laws f F) (eta f) (eta_in f F) m (t / m) ∙ ap (λ y. power (elements f) y (t / m)) (power_m m p z) ∙ ones (t / m))
        ∙ (laws f F).one_mul (power (elements f) (eta f) (t % m)) (power_in f F (t % m))
      where
        ones : (n : ℕ) → power (elements f) (elements f).one n ≡ (elements f).one
        ones n = sym (keeps_power (held_preserves (laws f F)) E.one n) ∙ ap (λ y. y.0) (power_one E n)

    pub power_same : (s t : ℕ) → s % m ≡ t % m → power (elements f) (eta f) s ≡ power (elements f) (eta f) t
    power_same s t e = power_residue s ∙ ap (power (elements f) (eta f)) e ∙ sym (power_residue t)
