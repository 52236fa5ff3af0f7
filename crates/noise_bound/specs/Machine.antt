-- The bounds that encryption, key switching and modulus drops give, and the limit of each level.
use Rattle.std.specs.Prelude.{◌≡◌, ℕ, suc, ◌+◌, ◌*◌, ◌/◌, ◌%◌, ◌^◌, ◌<◌, ◌≤◌, List, length, get_or, take, map, sum, fold, nat_le, if◌then◌else◌, ℤ, pos, nat_abs, ◌+ℤ◌, ◌-ℤ◌, ◌*ℤ◌, ◌<ℤ◌, ◌≤ℤ◌, neg_ℤ}
use Rattle.std.specs.List.{All}
use Rattle.std.specs.Int.{div_ceil}
use Rattle.noise_bound.specs.Groups.{groups}
use Rattle.noise_bound.specs.Rounding.{up, plus, times, scale, scale_down, over, ratio, half_over}

-- what the bounds are made from
pub record Sizes : Type 0 where
  -- the degree of the ring
  pub n : ℕ
  -- the plaintext modulus
  pub p : ℕ
  -- how many coefficients of the secret are not 0
  pub weight : ℕ
  -- the largest absolute coefficient of a power of X in the ring
  pub height : ℕ
  -- q_0, q_1, .. up to the top level
  pub chain : List ℕ
  -- the special moduli
  pub special : List ℕ
  -- how many moduli of the chain each group has
  pub digits : List ℕ

abbrev pub IsModulus : ℕ → Type 0
IsModulus q = (3 ≤ q) × (q < 2 ^ 62)

pub record IsSizes (t : Sizes) : Type 0 where
  pub n_some : 1 ≤ t.n
  pub n_most : t.n ≤ 65536
  pub p_some : 2 ≤ t.p
  pub p_most : t.p ≤ 131071
  pub weight_some : 1 ≤ t.weight
  pub weight_most : t.weight ≤ t.n
  pub height_some : 1 ≤ t.height
  pub height_most : t.height < 2 ^ 31
  pub chain_some : 1 ≤ length t.chain
  pub chain_most : length t.chain ≤ 32
  pub special_some : 1 ≤ length t.special
  pub special_most : length t.special ≤ 16
  pub chain_moduli : All IsModulus t.chain
  pub special_moduli : All IsModulus t.special
  pub digits_some : All (λ d. 0 < d) t.digits
  pub digits_sum : sum t.digits ≡ length t.chain

-- a product that is rounded at each factor; it starts as 1, so that its first step rounds the first factor
abbrev pub product_up : List ℕ → ℕ
product_up qs = fold scale 1 qs

abbrev pub product_down : List ℕ → ℕ
product_down qs = fold scale_down 1 qs

-- the r congruent to x modulo n with -n/2 < r <= n/2
abbrev pub balanced : ℕ → ℕ → ℤ
balanced n x = let r = x % n in if nat_le (2 * r) n then pos r else pos r -ℤ pos n

-- what balanced is
pub record IsBalanced (n x : ℕ) (r : ℤ) : Type 0 where
  pub congruent : (k : ℤ) × (pos x ≡ r +ℤ (pos n *ℤ k))
  pub above : neg_ℤ (pos n) <ℤ (pos 2 *ℤ r)
  pub at_most : (pos 2 *ℤ r) ≤ℤ pos n

-- what a group of digits adds when keys are switched: k times the group's product, over the special one
unfoldable pub group_added : ℕ → ℕ → List ℕ → ℕ
group_added k special g = ratio (times k (product_up g)) special

-- the sum over the groups that these moduli have
unfoldable pub groups_added : ℕ → ℕ → List ℕ → List ℕ → ℕ
groups_added k special digits qs = fold plus 0 (map (group_added k special) (groups digits qs))

module _ (t : Sizes) where
  -- of a fresh cipher
  unfoldable pub fresh : ℕ
  fresh = up (t.n * (t.p / 2) + t.p * (10 * t.n * t.n + 10 * t.n + 10 * t.n * t.weight))

  -- what one division adds: n (p + 1) (1 + weight) / 2, the half rounded up
  unfoldable pub divided : ℕ
  divided = up (div_ceil (t.n * (t.p + 1) * (1 + t.weight)) 2)

  -- above it an operand is settled
  unfoldable pub settled : ℕ
  settled = plus divided divided

  -- the product of q_0 to q_level, rounded down at each
  unfoldable pub modulus_of : ℕ → ℕ
  modulus_of level = product_down (take (suc level) t.chain)

  -- a cipher of this level is too noisy where its bound is at least this
  unfoldable pub limit : ℕ → ℕ
  limit level = half_over (modulus_of level) t.height

  -- what switching keys adds at a level, which has the chain's moduli up to its own
  unfoldable pub switched : ℕ → ℕ
  switched level =
      groups_added (up (5 * t.p * t.n * t.n)) (product_down t.special) t.digits (take (suc level) t.chain)

  -- after the drop from a level to the one below it
  unfoldable pub dropped : ℕ → ℕ → ℕ
  dropped level b =
      let q = get_or t.chain level 1 in
      plus (over b (nat_abs (balanced t.p q)) q) divided

  -- of a product at a level
  unfoldable pub multiplied : ℕ → ℕ → ℕ → ℕ
  multiplied level a b = plus (plus (times a b) (switched level)) divided

  -- of an automorphism's image at a level
  unfoldable pub moved : ℕ → ℕ → ℕ
  moved level a = plus (plus a (switched level)) divided
