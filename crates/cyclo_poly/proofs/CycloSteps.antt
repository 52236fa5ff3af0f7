-- What the tables of a `Cyclo` say.
use Rattle.std.specs.Prelude.{◌≡◌, ℕ, zero, suc, ◌-◌, ◌<◌, true, false, ◌||◌, List, length, take, map, ℤ}
use Rattle.std.specs.List.{All}
use Rattle.std.proofs.Common.{sym, ◌∙◌, ap, ap₂, subst, arith}
use Rattle.algebra.specs.Ring.{residues}
use Rattle.algebra.specs.Divisor.{number_of_units}
use Rattle.algebra.specs.Poly.{remainder}
use Rattle.algebra.specs.Whole.{residue}
use Rattle.cyclotomic.specs.Cyclotomic.{phi, degree}
use Rattle.cyclotomic.proofs.PhiLists.{phi_degree}
use Rattle.cyclo_poly.specs.Kept.{IsKept}
use Rattle.cyclo_poly.specs.Strides.{AreStrides, IsLess}
use Rattle.cyclo_poly.specs.Tall.{is_tall, has_large_factor, has_large_power}
use Rattle.cyclo_poly.proofs.LargeSteps.{or_true}
use Rattle.cyclo_poly.proofs.MemberSteps.{phi_filled, degree_less}
use Rattle.cyclo_poly.proofs.PowerSteps.{degree_positive}
use Rattle.cyclo_poly.proofs.Folding.{passes_fold}

units_are : (m : ℕ) → 0 < m → degree m ≡ number_of_units m
units_are zero p = absurd (omega arith)
units_are (suc k) p = phi_degree k

under : (m : ℕ) → 1 < m → degree m < m
under zero p = absurd (omega arith)
under (suc k) p = omega (arith, degree_less k (omega arith))

module _ (m : ℕ) (member : List ℤ) (high : ℕ) (above below : List ℕ) (K : IsKept m member high above below) where
  pub kept_filled : 0 < length member
  kept_filled = subst (λ z. 0 < length z) (sym K.member_is) (phi_filled m (omega (arith, K.m_low)))

  pub kept_degree : length member - 1 ≡ degree m
  kept_degree = ap (λ z. length z - 1) K.member_is

  pub kept_units : length member - 1 ≡ number_of_units m
  kept_units = kept_degree ∙ units_are m (omega (arith, K.m_low))

  pub kept_positive : 0 < length member - 1
  kept_positive = subst (λ z. 0 < z) (sym kept_degree) (degree_positive m (omega (arith, K.m_low)))

  pub kept_less : length member - 1 < m
  kept_less = subst (λ z. z < m) (sym kept_degree) (under m (omega (arith, K.m_low)))

-- the rows after each pass of `fold`: the last is the remainder
pub folded : (q : ℕ) → 0 < q → (m : ℕ) (above below f a s c b : List ℕ) → 1 < m → AreStrides m above below → length f ≡ m → length s ≡ m → length b ≡ degree m → All (λ x. x < q) f → All (λ x. x < q) b → IsLess q below f a → IsLess q above s a → IsLess q above (take (degree m) s) c → IsLess q below b c → b ≡ remainder (residues q) (map (residue q) (phi m)) f
folded q positive zero above below f a s c b low S lf ls lb hf hb p1 p2 p3 p4 = absurd (omega arith)
folded q positive (suc k) above below f a s c b low S lf ls lb hf hb p1 p2 p3 p4 = passes_fold q positive k s above below S f a c b lf ls lb (degree_less k (omega arith)) hf hb p1 p2 p3 p4

-- when m is tall
pub tall_by_factor : (m : ℕ) → has_large_factor m ≡ true → is_tall m ≡ true
unfolding is_tall
tall_by_factor m h = ap (λ b. b || has_large_power m) h

pub tall_by_power : (m : ℕ) → has_large_power m ≡ true → is_tall m ≡ true
unfolding is_tall
tall_by_power m h = ap (λ b. has_large_factor m || b) h ∙ or_true (has_large_factor m)

pub not_tall : (m : ℕ) → has_large_factor m ≡ false → has_large_power m ≡ false → is_tall m ≡ false
unfolding is_tall
not_tall m h k = ap₂ (λ a b. a || b) h k
