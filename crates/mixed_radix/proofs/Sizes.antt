-- Absolute values of sums and products, and balanced numbers.
use Rattle.std.specs.Prelude.{◌≡◌, ℕ, ◌+◌, ◌*◌, ◌%◌, ◌<◌, ◌≤◌, ◌<ℤ◌, ◌≤ℤ◌, cond, leb, ℤ, pos, negsuc, ◌+ℤ◌, ◌-ℤ◌, ◌*ℤ◌, neg_ℤ, nat_abs, refl}
use Rattle.std.proofs.Common.{arith, sym, ◌∙◌, ap}
use Rattle.std.proofs.lemmas.Int.{ints}
use borrow.Author.Differences.{product_is, abs_is}
use Rattle.algebra.specs.Whole.{residue, balanced}
use Rattle.algebra.proofs.Balanced.{balanced_only}
use Rattle.algebra.proofs.Chinese.{same_refl}

pub abs_sum : (a b : ℤ) → nat_abs (a +ℤ b) ≤ nat_abs a + nat_abs b
abs_sum a b = omega (arith, ints)

pub abs_less : (a b : ℤ) → nat_abs a ≤ nat_abs (b +ℤ a) + nat_abs b
abs_less a b = omega (arith, ints)

pub abs_multiple : (q : ℕ) (k : ℤ) → nat_abs (pos q *ℤ k) ≡ q * nat_abs k
abs_multiple q (pos k) = refl
abs_multiple q (negsuc k) = omega (arith, product_is (pos q) (negsuc k), abs_is (pos q *ℤ negsuc k))

pub small_is_balanced : (n : ℕ) (a : ℤ) → 2 * nat_abs a < n → a ≡ balanced n a
small_is_balanced n a l = balanced_only n (omega (arith, l)) a a (record { same = same_refl n a; high = omega (arith, ints, l); low = omega (arith, ints, l) })

-- numbers below half of n with one residue modulo n are equal
pub small_same : (n : ℕ) (a b : ℤ) → 2 * nat_abs a < n → 2 * nat_abs b < n → residue n a ≡ residue n b → a ≡ b
small_same n a b k l e = small_is_balanced n a k ∙ ap (λ r. cond (leb (2 * r) n) (pos r) (pos r -ℤ pos n)) e ∙ sym (small_is_balanced n b l)

-- an odd modulus has no residue at the half
pub balanced_odd : (n : ℕ) → n % 2 ≡ 1 → (r : ℤ) → neg_ℤ (pos n) <ℤ (pos 2 *ℤ r) → (pos 2 *ℤ r) ≤ℤ pos n → 2 * nat_abs r < n
balanced_odd n odd r low high = omega (arith, ints)
