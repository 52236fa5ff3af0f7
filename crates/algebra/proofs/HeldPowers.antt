-- Powers and geometric sums of held elements.
use Rattle.std.specs.Prelude.{◌≡◌, ℕ, ◌+◌, ◌*◌, Bool, IsTrue}
use Rattle.std.proofs.Common.{sym, ◌∙◌, ap, ap₂, subst, subst₂}
use mathlib.Core.Path.{fun_ext}
use Rattle.algebra.specs.Ring.{Ops, HeldLaws}
use Rattle.algebra.specs.Range.{total, adds}
use Rattle.algebra.specs.Power.{power, geometric, less, Divides}
use Rattle.algebra.specs.HeldRing.{Held, held_ops}
use Rattle.algebra.proofs.Held.{held_ring}
use Rattle.algebra.proofs.Homs.{keeps_power, keeps_adds, keeps_divides}
use Rattle.algebra.proofs.Powers.{power-add, power-mul, geometric_is, power_divides}
use Rattle.algebra.proofs.HeldLists.{held_preserves}

module _ {C : Type 0} {held : C → Bool} {o : Ops C} (L : HeldLaws held o) (x : C) (hx : IsTrue (held x)) where
  -- x as an element of the ring of held elements
  element : Held held
  element = (x, hx)

  at : (n : ℕ) → (power (held_ops L) element n).0 ≡ power o x n
  unfolding element
  at n = keeps_power (held_preserves L) (x, hx) n

  pub held_power : (n : ℕ) → IsTrue (held (power o x n))
  unfolding element
  held_power n = subst (λ z. IsTrue (held z)) (at n) (power (held_ops L) element n).1

  pub held_power-add : (m n : ℕ) → power o x (m + n) ≡ o.mul (power o x m) (power o x n)
  held_power-add m n = sym (at (m + n)) ∙ ap (λ z. z.0) (power-add (held_ring L) element m n) ∙ ap₂ o.mul (at m) (at n)

  pub held_power-mul : (m n : ℕ) → power o x (m * n) ≡ power o (power o x m) n
  held_power-mul m n = sym (at (m * n)) ∙ ap (λ z. z.0) (power-mul (held_ring L) element m n) ∙ keeps_power (held_preserves L) (power (held_ops L) element m) n ∙ ap (λ y. power o y n) (at m)

  pub held_geometric : (n : ℕ) → o.mul (less o x o.one) (geometric o x n) ≡ less o (power o x n) o.one
  unfolding element
  held_geometric n = ap (o.mul (less o x o.one)) (sym (keeps_adds (held_preserves L) n (power (held_ops L) element) ∙ ap (total (adds o) n) (fun_ext at))) ∙ ap (λ z. z.0) (geometric_is (held_ring L) element n) ∙ ap (λ y. less o y o.one) (at n)

  pub held_power_divides : (m n : ℕ) → Divides o (less o (power o x m) o.one) (less o (power o x (m * n)) o.one)
  held_power_divides m n = subst₂ (Divides o) (ap (λ y. less o y o.one) (at m)) (ap (λ y. less o y o.one) (at (m * n))) (keeps_divides (held_preserves L) (less (held_ops L) (power (held_ops L) element m) (held_ops L).one) (less (held_ops L) (power (held_ops L) element (m * n)) (held_ops L).one) (power_divides (held_ring L) element m n))
