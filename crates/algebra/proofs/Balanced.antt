-- The balanced residue is the one number in its range that is congruent to a given one.
use Rattle.std.specs.Prelude.{◌≡◌, ℕ, suc, ◌-◌, ◌*◌, ◌<◌, ◌≤◌, Bool, true, false, cond, leb, ℤ, pos, negsuc, ◌+ℤ◌, ◌-ℤ◌, refl}
use Rattle.std.proofs.Common.{arith, sym, ◌∙◌, ap, leb-true, leb-false, le-leb, mod-eq_of_lt, subst}
use Rattle.std.proofs.lemmas.Bool.{lt-leb}
use Rattle.std.proofs.lemmas.Int.{ints}
use Rattle.algebra.specs.Whole.{residue, balanced, quotient, IsBalanced}
use Rattle.algebra.proofs.Integers.{whole_ring}
use Rattle.algebra.proofs.WholeResidues.{residue_lt, residue_quotient, same_residue}
use Rattle.algebra.specs.Expression.{◌:+◌, ◌:-◌, ◌:*◌, :1}
use Rattle.algebra.proofs.Solver.{solve3}

pub balanced_is : (n : ℕ) → 0 < n → (z : ℤ) → IsBalanced n z (balanced n z)
balanced_is n p z = go (leb (2 * residue n z) n) refl
  where
    r : ℕ
    r = residue n z

    go : (b : Bool) → leb (2 * residue n z) n ≡ b → IsBalanced n z (cond b (pos r) (pos r -ℤ pos n))
    go true e = record { same = (quotient n z, residue_quotient n p z); high = omega (arith, ints, leb-true (2 * residue n z) n e); low = omega (arith, ints) }
    go false e = record { same = (quotient n z +ℤ pos 1, residue_quotient n p z ∙ solve3 whole_ring (λ r n q. r :+ n :* q) (λ r n q. r :- n :+ n :* (q :+ :1)) refl (pos r) (pos n) (quotient n z)); high = omega (arith, ints, residue_lt n p z); low = omega (arith, ints, leb-false (2 * residue n z) n e) }

pub balanced_only : (n : ℕ) → 0 < n → (z r : ℤ) → IsBalanced n z r → r ≡ balanced n z
balanced_only n p z (pos a) B = at (residue n z) (sym (mod-eq_of_lt small) ∙ sym (same_residue n p z (pos a) B.same))
  where
    half : 2 * a ≤ n
    half = omega (arith, ints, B.high)

    small : a < n
    small = omega (arith, half)

    at : (r : ℕ) → a ≡ r → pos a ≡ cond (leb (2 * r) n) (pos r) (pos r -ℤ pos n)
    at r e = subst (λ r. pos a ≡ cond (leb (2 * r) n) (pos r) (pos r -ℤ pos n)) e (ap (λ b. cond b (pos a) (pos a -ℤ pos n)) (sym (le-leb (2 * a) n half)))
balanced_only n p z (negsuc a) B = at (residue n z) (ap (λ k. n - 1 - k) (sym (mod-eq_of_lt small)) ∙ sym (same_residue n p z (negsuc a) B.same))
  where
    half : 2 * suc a < n
    half = omega (arith, ints, B.low)

    small : a < n
    small = omega (arith, half)

    at : (r : ℕ) → n - 1 - a ≡ r → negsuc a ≡ cond (leb (2 * r) n) (pos r) (pos r -ℤ pos n)
    at r e = subst (λ r. negsuc a ≡ cond (leb (2 * r) n) (pos r) (pos r -ℤ pos n)) e (back ∙ ap (λ b. cond b (pos (n - 1 - a)) (pos (n - 1 - a) -ℤ pos n)) (sym (lt-leb (2 * (n - 1 - a)) n (omega (arith, half)))))
      where
        back : negsuc a ≡ pos (n - 1 - a) -ℤ pos n
        back = omega (arith, ints, half)
