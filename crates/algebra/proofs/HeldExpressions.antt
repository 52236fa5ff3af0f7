-- The solver for held elements.
use Rattle.std.specs.Prelude.{◌≡◌, ℕ, Bool, IsTrue, refl}
use Rattle.std.proofs.Common.{sym, ◌∙◌, ap, ap₂}
use Rattle.algebra.specs.Ring.{Ops, HeldLaws}
use Rattle.algebra.specs.HeldRing.{Held, held_ops}
use Rattle.algebra.specs.Expression.{Expr, var, :0, :1, ◌:+◌, ◌:*◌, minus, Same, value}
use Rattle.algebra.proofs.Held.{held_ring}
use Rattle.algebra.proofs.Solver.{solve}

module _ {C : Type 0} {held : C → Bool} {o : Ops C} (L : HeldLaws held o) (at : ℕ → C) (is_held : (n : ℕ) → IsTrue (held (at n))) where
  abbrev element : ℕ → Held held
  element n = (at n, is_held n)

  value_is : (e : Expr) → (value (held_ops L) element e).0 ≡ value o at e
  value_is (var n) = refl
  value_is :0 = refl
  value_is :1 = refl
  value_is (a :+ b) = ap₂ o.add (value_is a) (value_is b)
  value_is (a :* b) = ap₂ o.mul (value_is a) (value_is b)
  value_is (minus a) = ap o.neg (value_is a)

  pub held_solve : (a b : Expr) → Same a b → value o at a ≡ value o at b
  held_solve a b e = sym (value_is a) ∙ ap (λ z. z.0) (solve (held_ring L) element a b e) ∙ value_is b
