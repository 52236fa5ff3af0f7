-- A word below 2 m less m, wrapping, is the greater where the word is below m: so the lesser of both is the residue.
use Rattle.std.proofs.Common.{◌≡◌, ℕ, ◌+◌, ◌-◌, ◌*◌, ◌%◌, ◌^◌, ◌<◌, ◌≤◌, min, inl, inr, ◌∙◌, arith}
use Rattle.std.proofs.Math.Nat.{mod-eq_of_lt, mod-eq-sub-mod}
use Rattle.std.proofs.lemmas.Bool.{cases_lt}

-- the residue of a number below 2 m
pub mod_low : (x m : ℕ) → x < m → x % m ≡ x
mod_low x m h = mod-eq_of_lt h

pub mod_high : (x m : ℕ) → m ≤ x → x < 2 * m → x % m ≡ x - m
mod_high x m h below = mod-eq-sub-mod h ∙ mod-eq_of_lt (omega arith)

pub min_wrapped : (x m : ℕ) → x < 2 * m → m < 2 ^ 63 → min x ((x + (2 ^ 64 - m)) % 2 ^ 64) ≡ x % m
min_wrapped x m below small =
    elim (cases_lt x m) [ inl h ↦ omega (arith, mod_low x m h) | inr h ↦ omega (arith, mod_high x m h below) ]

-- a difference that wrapped is brought back by q
pub wrapped_difference : (a b q : ℕ) → a < q → b < q → q < 2 ^ 62 → min ((a + (2 ^ 64 - b)) % 2 ^ 64) (((a + (2 ^ 64 - b)) % 2 ^ 64 + q) % 2 ^ 64) ≡ (a + (q - b)) % q
wrapped_difference a b q a_in b_in small =
    elim (cases_lt a b) [ inl h ↦ omega (arith, mod_low (a + (q - b)) q (omega arith)) | inr h ↦ omega (arith, mod_high (a + (q - b)) q (omega arith) (omega arith)) ]
