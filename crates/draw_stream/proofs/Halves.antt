-- The residue of a number of two digits, from congruent parts.
use Rattle.std.proofs.Common.{◌≡◌, ℕ, ◌+◌, ◌*◌, ◌%◌, ap, sym, ◌∙◌, arith}
use Rattle.std.proofs.Math.Nat.{mod-add-mod, add-mod-mod}
use Rattle.std.proofs.lemmas.Nat.{mul-mod_first}

-- a part congruent to the product by a residue
part : (q B w x p : ℕ) → w ≡ B % q → p % q ≡ (w * x) % q → p % q ≡ (B * x) % q
part q B w x p e h = h ∙ ap (λ v. (v * x) % q) e ∙ mul-mod_first B x q

sum_of_parts : (q x y m n : ℕ) → x % q ≡ m % q → y % q ≡ n % q → (x + y) % q ≡ (m + n) % q
sum_of_parts q x y m n e f =
    sym (mod-add-mod x q y) ∙ ap (λ v. (v + y) % q) e ∙ mod-add-mod m q y ∙ sym (add-mod-mod m y q) ∙ ap (λ v. (m + v) % q) f ∙ add-mod-mod m n q

pub residue_of_halves : (q B w u high low x y : ℕ) → w ≡ B % q → u ≡ 1 % q → x % q ≡ (w * high) % q → y % q ≡ (u * low) % q → (x + y) % q ≡ (B * high + low) % q
residue_of_halves q B w u high low x y w_is u_is e f =
    sum_of_parts q x y (B * high) low (part q B w high x w_is e) (part q 1 u low y u_is f ∙ ap (λ v. v % q) (omega arith))

-- the residue of B from that of B - 1
pub residue_of_next : (q n : ℕ) → (n % q + 1) % q ≡ (n + 1) % q
residue_of_next q n = mod-add-mod n q 1
