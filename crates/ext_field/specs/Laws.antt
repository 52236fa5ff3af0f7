-- The remainders by a monic polynomial meet the laws of a ring.
use Rattle.std.proofs.Common.{ℕ, ◌<◌, IsTrue, List, get_or, sym, ◌∙◌, arith}
use Rattle.std.specs.Prelude.{nat_lt}
use Rattle.std.specs.List.{All}
use Rattle.std.proofs.lemmas.Bool.{lt-ltb}
use Rattle.std.proofs.Math.Nat.{mod-eq_of_lt}
use Rattle.algebra.specs.Ring.{HeldLaws, residues}
use Rattle.algebra.specs.Poly.{all_held, IsMonic}
use Rattle.algebra.proofs.HeldLists.{all_from}
use Rattle.algebra.proofs.HeldQuotients.{held_quotient_laws}
use Rattle.mod_ring.specs.Laws.{word_laws}
use Rattle.ext_field.specs.Element.{Extension, IsMonicFactor, is_element, elements}

-- a test of a number below p, as two crates write it
pub below_held : (p : ℕ) (xs : List ℕ) → All (λ c. c < p) xs → All (λ c. IsTrue (nat_lt c p)) xs
below_held p xs all k d l = lt-ltb (get_or xs k d) p (all k d l)

module _ (f : Extension) (F : IsMonicFactor f) where
  pub factor_held : IsTrue (all_held (λ c. nat_lt c f.p) f.factor)
  factor_held = all_from (λ c. nat_lt c f.p) f.factor (below_held f.p f.factor F.below)

  pub factor_monic : IsMonic (residues f.p) f.factor
  factor_monic = record { filled = omega (arith, F.degree_low); top = F.monic ∙ sym (mod-eq_of_lt (omega (arith, F.p_low))) }

  pub element_laws : HeldLaws (is_element f) (elements f)
  element_laws = held_quotient_laws (word_laws f.p F.p_low) f.factor factor_held factor_monic
