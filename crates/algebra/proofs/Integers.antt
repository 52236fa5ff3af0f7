-- The whole numbers are a ring.
use Rattle.std.specs.Prelude.{◌≡◌, ◌+◌, ◌*◌, ℤ, pos, ◌+ℤ◌, ◌*ℤ◌}
use Rattle.std.proofs.Common.{arith, ap}
use borrow.Author.Differences.{up, down, same_in, sum_is_lem, product_is}
use lib.IntN.{+ℤ_assoc, +ℤ_comm, +ℤ_idl, +ℤ_invl, *ℤ_comm}
use Rattle.algebra.specs.Ring.{CommRing, RingLaws, whole_numbers}

add-mul : (a b c : ℤ) → (a +ℤ b) *ℤ c ≡ a *ℤ c +ℤ b *ℤ c
add-mul a b c = same_in ((a +ℤ b) *ℤ c) (a *ℤ c +ℤ b *ℤ c) (omega (arith, product_is (a +ℤ b) c, product_is a c, product_is b c, sum_is_lem (a *ℤ c) (b *ℤ c), ap (λ z. z * up c) (sum_is_lem a b), ap (λ z. z * down c) (sum_is_lem a b)))

mul-assoc : (a b c : ℤ) → (a *ℤ b) *ℤ c ≡ a *ℤ (b *ℤ c)
mul-assoc a b c = same_in ((a *ℤ b) *ℤ c) (a *ℤ (b *ℤ c)) (omega (arith, product_is (a *ℤ b) c, product_is a (b *ℤ c), by (up c), by (down c), from (up a), from (down a)))
  where
    by : (k : _) → (up (a *ℤ b) * k ≡ (up a * up b + down a * down b) * k) × (down (a *ℤ b) * k ≡ (up a * down b + down a * up b) * k)
    by k = (ap (λ z. z * k) (product_is a b).0, ap (λ z. z * k) (product_is a b).1)

    from : (k : _) → (k * up (b *ℤ c) ≡ k * (up b * up c + down b * down c)) × (k * down (b *ℤ c) ≡ k * (up b * down c + down b * up c))
    from k = (ap (λ z. k * z) (product_is b c).0, ap (λ z. k * z) (product_is b c).1)

one-mul : (a : ℤ) → pos 1 *ℤ a ≡ a
one-mul a = same_in (pos 1 *ℤ a) a (omega (arith, product_is (pos 1) a))

pub whole_laws : RingLaws whole_numbers
whole_laws = record { add_assoc = +ℤ_assoc; add_comm = +ℤ_comm; zero_add = +ℤ_idl; neg_add = +ℤ_invl; mul_assoc = mul-assoc; mul_comm = *ℤ_comm; one_mul = one-mul; add_mul = add-mul }

abbrev pub whole_ring : CommRing
whole_ring = record { Carrier = ℤ; ops = whole_numbers; laws = whole_laws }
