-- The balanced residue.
use Rattle.std.proofs.Common.{◌≡◌, ℕ, suc, ◌+◌, ◌-◌, ◌*◌, ◌/◌, ◌%◌, ◌<◌, Bool, true, false, nat_le, if◌then◌else◌, min, refl, ap, ◌∙◌, arith, ℤ, pos, negsuc, ◌-ℤ◌, nat_abs}
use Rattle.std.proofs.Math.Nat.{mod-lt, div-add-mod, mul-suc}
use Rattle.std.proofs.lemmas.Int.{ints}
use Rattle.std.proofs.lemmas.Bool.{leb-true, leb-false}
use Rattle.noise_bound.specs.Machine.{IsBalanced, balanced}

signed : Bool → ℕ → ℕ → ℤ
signed b r n = if b then pos r else pos r -ℤ pos n

signed_abs : (b : Bool) (r n : ℕ) → nat_le (2 * r) n ≡ b → r < n → nat_abs (signed b r n) ≡ min r (n - r)
unfolding signed
signed_abs true r n is under = omega (arith, leb-true (2 * r) n is)
signed_abs false r n is under =
    let negative : pos r -ℤ pos n ≡ negsuc (n - r - 1) = omega (arith, ints, under) in
    ap nat_abs negative ∙ omega (arith, leb-false (2 * r) n is)

-- its absolute value
pub abs-balanced : (n x : ℕ) → 0 < n → nat_abs (balanced n x) ≡ min (x % n) (n - x % n)
unfolding signed
abs-balanced n x some = signed_abs (nat_le (2 * (x % n)) n) (x % n) n refl (mod-lt x some)

signed_is : (b : Bool) (r n x k : ℕ) → nat_le (2 * r) n ≡ b → r < n → n * k + r ≡ x → IsBalanced n x (signed b r n)
unfolding signed
signed_is true r n x k is under parts =
    let whole : x ≡ r + n * k = omega (arith, parts) in
    record {
      congruent = (pos k, ap pos whole);
      above = omega (arith, ints, under);
      at_most = omega (arith, ints, leb-true (2 * r) n is);
    }
signed_is false r n x k is under parts = record {
  congruent = (pos (suc k), omega (arith, ints, parts, mul-suc n k));
  above = omega (arith, ints, leb-false (2 * r) n is);
  at_most = omega (arith, ints, under);
}

pub IsBalanced-balanced : (n x : ℕ) → 0 < n → IsBalanced n x (balanced n x)
unfolding signed
IsBalanced-balanced n x some = signed_is (nat_le (2 * (x % n)) n) (x % n) n x (x / n) refl (mod-lt x some) (div-add-mod x n)
