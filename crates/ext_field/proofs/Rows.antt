-- What it is to be an element.
use Rattle.std.proofs.Common.{◌≡◌, ℕ, ◌<◌, ◌≤◌, IsTrue, List, length, get_or, eqb, eqb-true, eq-eqb, arith}
use Rattle.std.specs.Prelude.{nat_lt}
use Rattle.std.specs.List.{All}
use Rattle.std.proofs.lemmas.Bool.{ltb-true, and_parts, and_from}
use Rattle.algebra.specs.Poly.{all_held}
use Rattle.algebra.proofs.HeldLists.{all_from, all_to}
use Rattle.ext_field.specs.Element.{Extension, IsMonicFactor, IsElement, degree}
use Rattle.ext_field.specs.Laws.{below_held}

module _ (f : Extension) (a : List ℕ) where
  pub element_from : length a ≡ degree f → All (λ c. c < f.p) a → IsElement f a
  element_from long small = and_from (eqb (length a) (degree f)) (all_held (λ c. nat_lt c f.p) a) (eq-eqb (length a) (degree f) long) (all_from (λ c. nat_lt c f.p) a (below_held f.p a small))

  pub element_long : IsElement f a → length a ≡ degree f
  element_long h = eqb-true (length a) (degree f) (and_parts (eqb (length a) (degree f)) (all_held (λ c. nat_lt c f.p) a) h).0

  pub element_held : IsElement f a → IsTrue (all_held (λ c. nat_lt c f.p) a)
  element_held h = (and_parts (eqb (length a) (degree f)) (all_held (λ c. nat_lt c f.p) a) h).1

  pub element_below : IsElement f a → All (λ c. c < f.p) a
  element_below h k d l = ltb-true (get_or a k d) f.p (all_to (λ c. nat_lt c f.p) a (element_held h) k d l)

  pub element_short : IsMonicFactor f → IsElement f a → length a ≤ 64
  element_short F h = omega (arith, element_long h, F.degree_high)
