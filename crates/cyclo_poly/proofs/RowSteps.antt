-- Rows of held elements: the elements of a ring of remainders.
use Rattle.std.proofs.Common.{◌≡◌, ℕ, Bool, IsTrue, List, [], length, map, replicate, eqb, ap, sym, ◌∙◌, arith}
use Rattle.std.specs.List.{All}
use Rattle.std.proofs.lemmas.Bool.{and_parts}
use Rattle.std.proofs.lemmas.List.{length-map, get_or-map}
use Rattle.std.proofs.lemmas.List.Elements.{All-same}
use Rattle.algebra.specs.Ring.{Ops}
use Rattle.algebra.specs.Poly.{all_held, row_held, remainder, degree_of}
use Rattle.algebra.proofs.HeldLists.{all_to}
use Rattle.cyclo_poly.proofs.HeldSteps.{IsHeld}
use Rattle.cyclo_poly.proofs.DivisionSteps.{rest_none}

-- a test goes along an equation
pub along : {X : Type 0} (test : X → Bool) {x y : X} → x ≡ y → IsTrue (test y) → IsTrue (test x)
along test e passes = ap test e ∙ passes

module _ {E V : Type 0} (value : E → V) (held : V → Bool) where
  pub elements_held : (xs ys : List E) → ys ≡ xs → IsTrue (all_held held (map value xs)) → All (IsHeld value held) ys
  elements_held xs ys e all = All-same (IsHeld value held) ys xs e each
    where
      each : All (IsHeld value held) xs
      each k d l = along held (sym (get_or-map value xs k d (value d) l)) (all_to held (map value xs) all k (value d) (omega (arith, length-map xs value)))

  pub row_elements_held : (n : ℕ) (xs ys : List E) → ys ≡ xs → IsTrue (row_held held n (map value xs)) → All (IsHeld value held) ys
  row_elements_held n xs ys e row = elements_held xs ys e (and_parts (eqb (length (map value xs)) n) (all_held held (map value xs)) row).1

pub zeros_are : {E V : Type 0} (value : E → V) (o : Ops V) (g : List V) (xs : List E) (n : ℕ) → n ≡ degree_of o g → map value xs ≡ replicate n o.zero → map value xs ≡ remainder o g []
zeros_are value o g xs n e zeros = rest_none value o [] g xs (zeros ∙ ap (λ k. replicate k o.zero) e)
