-- What a radix is made of.
use Rattle.std.specs.Prelude.{◌≡◌, ℕ, ◌*◌, ◌%◌, ◌^◌, ◌<◌, ◌≤◌, All, List, [], length, get_or}

-- moduli q_0, q_1, .. and for each the list of the inverses modulo it of the moduli before it
pub record Basis : Type 0 where
  pub moduli : List ℕ
  pub inverse : List (List ℕ)

-- e is the inverse of k modulo q
pub record IsInverse (q k e : ℕ) : Type 0 where
  pub below : e < q
  pub one : (k * e) % q ≡ 1

-- odd moduli from 3 to 2^62 - 1, and right inverses
pub record IsBasis (b : Basis) : Type 0 where
  pub odd : All (λ q. q % 2 ≡ 1) b.moduli
  pub range : All (λ q. (3 ≤ q) × (q < 2 ^ 62)) b.moduli
  pub lists : length b.inverse ≡ length b.moduli
  pub entries : (j : ℕ) → j < length b.moduli → length (get_or b.inverse j []) ≡ j
  pub right : (i j : ℕ) → i < j → j < length b.moduli → IsInverse (get_or b.moduli j 0) (get_or b.moduli i 0) (get_or (get_or b.inverse j []) i 0)
