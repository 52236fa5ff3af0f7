-- A polynomial at the roots of unity whose order is a power of two, which stand in a tree: the roots of nodes 2k and
-- 2k + 1 are the two square roots of the root of node k.
use Rattle.std.specs.Prelude.{◌≡◌, ℕ, ◌+◌, ◌-◌, ◌*◌, ◌/◌, ◌%◌, ◌^◌, ◌<◌, nat_eq, cond, List, [], ◌∷◌, length, get_or}

-- the value at x
abbrev pub value : List ℕ → ℕ → ℕ
value [] x = 0
value (a ∷ p) x = a + x * value p x

-- the root of a node: entry k of the list is that of node 2k, and its negative that of node 2k + 1
unfoldable pub root : ℕ → List ℕ → ℕ → ℕ
root q ws k = cond (nat_eq (k % 2) 0) (get_or ws (k / 2) 0) (q - get_or ws (k / 2) 0)

-- constant factors below q with the quotients for products by them
pub record AreFactors (q : ℕ) (ws quotients : List ℕ) : Type 0 where
  pub long : length quotients ≡ length ws
  pub below : (k : ℕ) → k < length ws → get_or ws k 0 < q
  pub right : (k : ℕ) → k < length ws → get_or quotients k 0 ≡ get_or ws k 0 * 2 ^ 64 / q

-- the square of each entry is the root of its node
pub record IsTree (q : ℕ) (ws : List ℕ) : Type 0 where
  pub below : (k : ℕ) → k < length ws → get_or ws k 0 < q
  pub squares : (k : ℕ) → k < length ws → (get_or ws k 0 * get_or ws k 0) % q ≡ root q ws k % q

-- each entry is the inverse of the other one
pub record AreInverses (q : ℕ) (ws vs : List ℕ) : Type 0 where
  pub long : length vs ≡ length ws
  pub one : (k : ℕ) → k < length ws → (get_or ws k 0 * get_or vs k 0) % q ≡ 1 % q

-- each entry, also 0 past the end, is below the bound
abbrev pub EachBelow : ℕ → List ℕ → Type 0
EachBelow bound xs = (i : ℕ) → get_or xs i 0 < bound

-- zs is xs + c ys, place by place
abbrev pub Combines : (q c : ℕ) (xs ys zs : List ℕ) → Type 0
Combines q c xs ys zs = (i : ℕ) → get_or zs i 0 % q ≡ (get_or xs i 0 + c * get_or ys i 0) % q

-- xs are the values of p at the roots of the 2^levels nodes below a node
abbrev pub AreValues : (q : ℕ) (ws : List ℕ) (levels node : ℕ) (p xs : List ℕ) → Type 0
AreValues q ws levels node p xs = (j : ℕ) → j < 2 ^ levels → get_or xs j 0 % q ≡ value p (root q ws (node * 2 ^ levels + j)) % q

-- xs are s times the coefficients p
abbrev pub AreMultiples : (q s : ℕ) (p xs : List ℕ) → Type 0
AreMultiples q s p xs = (i : ℕ) → get_or xs i 0 % q ≡ (s * get_or p i 0) % q

-- to has the entries of from times c
abbrev pub IsScaled : (q c : ℕ) (from to : List ℕ) → Type 0
IsScaled q c from to = (i : ℕ) → i < length from → get_or to i 0 ≡ (c * get_or from i 0) % q

-- the tree of 2^levels entries for the root psi of order 2^(levels + 1): the next level has psi times the roots of the last
pub record IsGrown (q levels psi : ℕ) (ws vs : List ℕ) : Type 0 where
  pub ws_long : length ws ≡ 2 ^ levels
  pub vs_long : length vs ≡ 2 ^ levels
  pub first : get_or ws 0 0 ≡ 1
  pub tree : IsTree q ws
  pub inverses : AreInverses q ws vs
  pub next : (j : ℕ) → j < 2 ^ levels → root q ws (2 ^ levels + j) % q ≡ (psi * root q ws j) % q
