-- Barrett's reduction of p by M with u = B C / M: the guess h = p / B * u / C at p / M is at most 2 too low.
use Rattle.std.proofs.Common.{◌≡◌, ℕ, zero, ◌+◌, ◌-◌, ◌*◌, ◌/◌, ◌%◌, ◌^◌, ◌<◌, ◌≤◌, min, inl, inr, ap, sym, ◌∙◌, arith}
use Rattle.std.proofs.Math.Nat.{div-add-mod', le_of_mul-le-mul_right, lt_of_mul-lt-mul_right, add-mul-mod_self_right, mul-lt-mul_of_pos_right, mul-div_cancel, pow-le-pow_right, pow-suc}
use Rattle.std.proofs.lemmas.Nat.{mod_below, mul-lt, mul-le, mod-mul-add, pow_pos, leading_top, pow-add}
use Rattle.std.proofs.lemmas.Bool.{cases_lt}
use lib.Count.{count_leading_zeros}
use Rattle.mod_ring.proofs.Wrapped.{mod_low, min_wrapped}

-- the three divisions together: p B C is h M B C and the rests
rests : (B C M u p t h r s v : ℕ) → t * B + r ≡ p → u * M + s ≡ B * C → h * C + v ≡ t * u → p * (B * C) ≡ h * M * (B * C) + (v * (B * M) + t * B * s + r * (B * C))
rests B C M u p t h r s v d e f = omega (arith, ap (λ z. z * (B * C)) d, ap (λ z. t * B * z) e, ap (λ z. z * (B * M)) f)

small : (B C M p t r s v : ℕ) → 0 < B → B ≤ M → r < B → s < M → v < C → t * B ≤ B * C → v * (B * M) + t * B * s + r * (B * C) < 3 * M * (B * C)
small B C M p t r s v B_on M_in r_in s_in v_in t_in =
    omega (arith, mul-lt-mul_of_pos_right {k = B * M} v_in (mul-lt zero zero B M B_on (omega arith)), mul-le (t * B) s (B * C) M t_in (omega arith), mul-le r (B * C) M (B * C) (omega arith) (omega arith))

the_rests : (B C M u p : ℕ) → u ≡ B * C / M → p * (B * C) ≡ p / B * u / C * M * (B * C) + (p / B * u % C * (B * M) + p / B * B * (B * C % M) + p % B * (B * C))
the_rests B C M u p e =
    rests B C M u p (p / B) (p / B * u / C) (p % B) (B * C % M) (p / B * u % C) (div-add-mod' p B) (ap (λ z. z * M + B * C % M) e ∙ div-add-mod' (B * C) M) (div-add-mod' (p / B * u) C)

the_bound : (B C M u p : ℕ) → 0 < B → 0 < C → B ≤ M → p < B * C → p / B * u % C * (B * M) + p / B * B * (B * C % M) + p % B * (B * C) < 3 * M * (B * C)
the_bound B C M u p B_on C_on M_in p_in =
    small B C M p (p / B) (p % B) (B * C % M) (p / B * u % C) B_on M_in (mod_below p B B_on) (mod_below (B * C) M (omega arith)) (mod_below (p / B * u) C C_on) (omega (arith, div-add-mod' p B))

pub guess_low : (B C M u p : ℕ) → 0 < B → 0 < C → u ≡ B * C / M → p / B * u / C * M ≤ p
guess_low B C M u p B_on C_on e =
    le_of_mul-le-mul_right {k = B * C} (omega (arith, the_rests B C M u p e)) (mul-lt zero zero B C B_on C_on)

pub guess_near : (B C M u p : ℕ) → 0 < B → 0 < C → B ≤ M → p < B * C → u ≡ B * C / M → p < p / B * u / C * M + 3 * M
guess_near B C M u p B_on C_on M_in p_in e =
    lt_of_mul-lt-mul_right (B * C) (omega (arith, the_rests B C M u p e, the_bound B C M u p B_on C_on M_in p_in))

less_multiple : (x h M : ℕ) → h * M ≤ x → (x - h * M) % M ≡ x % M
less_multiple x h M below = sym (add-mul-mod_self_right (x - h * M) h M) ∙ ap (λ n. n % M) (together below)
  where
    together : h * M ≤ x → x - h * M + h * M ≡ x
    together low = omega arith

-- twice the modulus away where that leaves a number, and once more
pub settled : (x y z M : ℕ) → x < 3 * M → M < 2 ^ 62 → y ≡ min x ((x + (2 ^ 64 - 2 * M)) % 2 ^ 64) → z ≡ min y ((y + (2 ^ 64 - M)) % 2 ^ 64) → z ≡ x % M
settled x y z M below small e f = elim (cases_lt x (2 * M)) [ inl h ↦ kept h | inr h ↦ taken h ]
  where
    kept : x < 2 * M → z ≡ x % M
    kept h = let k : y ≡ x = omega arith in f ∙ ap (λ n. min n ((n + (2 ^ 64 - M)) % 2 ^ 64)) k ∙ min_wrapped x M h (omega arith)

    taken : 2 * M ≤ x → z ≡ x % M
    taken h = let k : y ≡ x - 2 * M = omega arith in f ∙ ap (λ n. min n ((n + (2 ^ 64 - M)) % 2 ^ 64)) k ∙ min_wrapped (x - 2 * M) M (omega arith) (omega arith) ∙ less_multiple x 2 M h

pub reduced : (B C M u p y z : ℕ) → 0 < B → 0 < C → B ≤ M → M < 2 ^ 62 → p < B * C → u ≡ B * C / M → y ≡ min (p - p / B * u / C * M) ((p - p / B * u / C * M + (2 ^ 64 - 2 * M)) % 2 ^ 64) → z ≡ min y ((y + (2 ^ 64 - M)) % 2 ^ 64) → z ≡ p % M
reduced B C M u p y z B_on C_on M_in small p_in e f g =
    settled (p - p / B * u / C * M) y z M (omega (arith, guess_near B C M u p B_on C_on M_in p_in e)) small f g ∙ less_multiple p (p / B * u / C) M (guess_low B C M u p B_on C_on e)

-- a modulus moved up by a factor, and the product with it
pub moved : (k q a b : ℕ) → 0 < k → 0 < q → a * k * b % (q * k) / k ≡ a * b % q
moved k q a b k_on q_on =
    ap (λ n. n / k) (ap (λ n. n % (q * k)) together ∙ mod-mul-add (a * b / q) (q * k) (a * b % q * k) (mul-lt-mul_of_pos_right (mod_below (a * b) q q_on) k_on)) ∙ mul-div_cancel (a * b % q) k_on
  where
    together : a * k * b ≡ a * b / q * (q * k) + a * b % q * k
    together = omega (arith, ap (λ z. z * k) (div-add-mod' (a * b) q))

-- the room above a number below 2^62
pub room : (q : ℕ) → 0 < q → q < 2 ^ 62 → (j : ℕ) × (count_leading_zeros 64 q + j ≡ 63) × (j < 62) × (2 ^ j ≤ q) × (q < 2 * 2 ^ j)
room q q_on q_in =
    let top = leading_top 64 q q_on (omega arith) in
    (top.0, omega (arith, top.1), elim (cases_lt top.0 62) [ inl h ↦ h | inr h ↦ absurd (omega (arith, pow-le-pow_right {n = 2} (omega arith) h, top.2)) ], top.2, omega (arith, pow-suc 2 top.0, top.3))

pub room_low : (q j z : ℕ) → z + 2 + j ≡ 63 → 2 ^ j ≤ q → 2 ^ 61 ≤ q * 2 ^ z
room_low q j z e low = omega (arith, mul-le (2 ^ j) (2 ^ z) q (2 ^ z) low (omega arith), sym (pow-add 2 j z), ap (λ n. 2 ^ n) (exact e))
  where
    exact : z + 2 + j ≡ 63 → j + z ≡ 61
    exact h = omega arith

pub room_high : (q j z : ℕ) → z + 2 + j ≡ 63 → q < 2 * 2 ^ j → q * 2 ^ z < 2 ^ 62
room_high q j z e high = omega (arith, mul-lt-mul_of_pos_right {k = 2 ^ z} high (pow_pos z), pow-add 2 j z, ap (λ n. 2 ^ n) (exact e))
  where
    exact : z + 2 + j ≡ 63 → j + z ≡ 61
    exact h = omega arith

pub moved_product : (k q m a b r : ℕ) → 0 < k → a < q → m ≡ q * k → m < 2 ^ 62 → r ≡ (a * k % 2 ^ 64 * b) % m → r / k ≡ a * b % q
moved_product k q m a b r k_on a_in e small h =
    ap (λ n. n / k) (h ∙ ap (λ n. (n * b) % m) (mod_low (a * k) (2 ^ 64) (omega (arith, mul-le a k q k (omega arith) (omega arith)))) ∙ ap (λ n. (a * k * b) % n) e) ∙ moved k q a b k_on (omega arith)
