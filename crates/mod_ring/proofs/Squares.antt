-- Powers in a ring by squaring.
use Rattle.std.proofs.Common.{◌≡◌, ℕ, zero, suc, ◌+◌, Bool, IsTrue, refl, ap, sym, ◌∙◌}
use Rattle.algebra.specs.Ring.{Ops, HeldLaws}
use Rattle.algebra.specs.Power.{power}
use Rattle.algebra.specs.HeldRing.{held_ops}
use Rattle.algebra.proofs.Held.{held_ring}
use Rattle.algebra.proofs.Powers.{power-add}

module _ {V : Type 0} {held : V → Bool} {o : Ops V} (L : HeldLaws held o) where
  -- a power in the ring of the held values
  power_value : (a : V) (a_held : IsTrue (held a)) (n : ℕ) → (power (held_ops L) (a, a_held) n).0 ≡ power o a n
  power_value a a_held zero = refl
  power_value a a_held (suc n) = ap (o.mul a) (power_value a a_held n)

  pub power_even : (a h s : V) (k e : ℕ) → IsTrue (held a) → h ≡ power o a k → s ≡ o.mul h h → e ≡ k + k → s ≡ power o a e
  power_even a h s k e a_held half square twice =
      square ∙ ap (λ v. o.mul v v) (half ∙ sym (power_value a a_held k)) ∙ ap (λ v. v.0) (sym (power-add (held_ring L) (a, a_held) k k)) ∙ power_value a a_held (k + k) ∙ ap (power o a) (sym twice)

  pub power_odd : (a h s r : V) (k e : ℕ) → IsTrue (held a) → IsTrue (held s) → h ≡ power o a k → s ≡ o.mul h h → r ≡ o.mul s a → e ≡ suc (k + k) → r ≡ power o a e
  power_odd a h s r k e a_held s_held half square more twice =
      more ∙ L.mul_comm s a s_held a_held ∙ ap (o.mul a) (power_even a h s k (k + k) a_held half square refl) ∙ ap (power o a) (sym twice)
