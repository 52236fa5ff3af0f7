-- One pass from a node to its two children: the values below the children are those below the node.
use Rattle.std.proofs.Common.{◌≡◌, ℕ, suc, ◌+◌, ◌-◌, ◌*◌, ◌%◌, ◌^◌, ◌<◌, ◌≤◌, List, ◌++◌, length, get_or, sym, ◌∙◌, ap, arith, inl, inr}
use Rattle.std.proofs.Math.Nat.{pow-succ'}
use Rattle.std.proofs.lemmas.List.{get_or_append_left, get_or-append_right}
use Rattle.std.proofs.lemmas.Bool.{cases_lt}
use Rattle.two_power.specs.Tree.{value, root, IsTree, Combines, AreValues}
use Rattle.two_power.proofs.Values.{value_half}
use Rattle.two_power.proofs.Trees.{root_even, root_odd, root_power}

module _ (q : ℕ) (ws : List ℕ) (T : IsTree q ws) (l n : ℕ) (fits : (n + 1) * 2 ^ suc l ≤ 2 * length ws) where
  pub double : 2 ^ suc l ≡ 2 * 2 ^ l
  double = pow-succ' 2 l

  -- the places of the children's leaves
  pub left_place : (j : ℕ) → 2 * n * 2 ^ l + j ≡ n * 2 ^ suc l + j
  left_place j = go (2 ^ l) (2 ^ suc l) double
    where
      go : (p p' : ℕ) → p' ≡ 2 * p → 2 * n * p + j ≡ n * p' + j
      go p p' e = omega (arith, ap (λ z. n * z) e)

  pub right_place : (j : ℕ) → 2 ^ l ≤ j → (2 * n + 1) * 2 ^ l + (j - 2 ^ l) ≡ n * 2 ^ suc l + j
  right_place j m = go (2 ^ l) (2 ^ suc l) double m
    where
      go : (p p' : ℕ) → p' ≡ 2 * p → p ≤ j → (2 * n + 1) * p + (j - p) ≡ n * p' + j
      go p p' e m = omega (arith, ap (λ z. n * z) e)

  pub left_fits : (2 * n + 1) * 2 ^ l ≤ 2 * length ws
  left_fits = go (2 ^ l) (2 ^ suc l) double fits
    where
      go : (p p' : ℕ) → p' ≡ 2 * p → (n + 1) * p' ≤ 2 * length ws → (2 * n + 1) * p ≤ 2 * length ws
      go p p' e f = omega (arith, ap (λ z. n * z) e)

  pub right_fits : (2 * n + 1 + 1) * 2 ^ l ≤ 2 * length ws
  right_fits = go (2 ^ l) (2 ^ suc l) double fits
    where
      go : (p p' : ℕ) → p' ≡ 2 * p → (n + 1) * p' ≤ 2 * length ws → (2 * n + 1 + 1) * p ≤ 2 * length ws
      go p p' e f = omega (arith, ap (λ z. n * z) e)

  -- at a leaf below a child the combination has the value of the whole
  pub left_value : (xs ys us : List ℕ) → length xs ≡ 2 ^ l → length us ≡ 2 ^ l → length ys ≡ 2 ^ l → Combines q (get_or ws n 0) xs ys us → (j : ℕ) → j < 2 ^ l → value us (root q ws (2 * n * 2 ^ l + j)) % q ≡ value (xs ++ ys) (root q ws (2 * n * 2 ^ l + j)) % q
  left_value xs ys us a b c h j m = value_half q (get_or ws n 0) (root q ws (2 * n * 2 ^ l + j)) xs ys us (a ∙ sym b) (c ∙ sym b) h (ap (λ z. root q ws (2 * n * 2 ^ l + j) ^ z % q) a ∙ root_power q ws T l (2 * n) j m left_fits ∙ ap (λ z. z % q) (root_even q ws (2 * n) n (λ i. 2 * n)))

  pub right_value : (xs ys vs : List ℕ) → length xs ≡ 2 ^ l → length vs ≡ 2 ^ l → length ys ≡ 2 ^ l → Combines q (q - get_or ws n 0) xs ys vs → (j : ℕ) → j < 2 ^ l → value vs (root q ws ((2 * n + 1) * 2 ^ l + j)) % q ≡ value (xs ++ ys) (root q ws ((2 * n + 1) * 2 ^ l + j)) % q
  right_value xs ys vs a b c h j m = value_half q (q - get_or ws n 0) (root q ws ((2 * n + 1) * 2 ^ l + j)) xs ys vs (a ∙ sym b) (c ∙ sym b) h (ap (λ z. root q ws ((2 * n + 1) * 2 ^ l + j) ^ z % q) a ∙ root_power q ws T l (2 * n + 1) j m right_fits ∙ ap (λ z. z % q) (root_odd q ws (2 * n + 1) n (λ i. 2 * n + 1)))

  pub descended : (xs ys us vs ss ts : List ℕ) → length xs ≡ 2 ^ l → length ys ≡ 2 ^ l → length us ≡ 2 ^ l → length vs ≡ 2 ^ l → length ss ≡ 2 ^ l → Combines q (get_or ws n 0) xs ys us → Combines q (q - get_or ws n 0) xs ys vs → AreValues q ws l (2 * n) us ss → AreValues q ws l (2 * n + 1) vs ts → AreValues q ws (suc l) n (xs ++ ys) (ss ++ ts)
  descended xs ys us vs ss ts a b c d e f g left right j m = elim (cases_lt j (2 ^ l)) [
    | inl k ↦
        ap (λ z. z % q) (get_or_append_left ss ts 0 j (omega (arith, e))) ∙ left j k ∙ left_value xs ys us a c b f j k ∙ ap (λ z. value (xs ++ ys) (root q ws z) % q) (left_place j)
    | inr k ↦
        ap (λ z. z % q) (get_or-append_right ss ts (2 ^ l) j 0 e k) ∙ right (j - 2 ^ l) (within k) ∙ right_value xs ys vs a d b g (j - 2 ^ l) (within k) ∙ ap (λ z. value (xs ++ ys) (root q ws z) % q) (right_place j k)
  ]
    where
      within : 2 ^ l ≤ j → j - 2 ^ l < 2 ^ l
      within k = omega (arith, double)
