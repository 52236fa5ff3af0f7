-- The roots of a tree: squares, and so powers of two, lead up.
use Rattle.std.proofs.Common.{◌≡◌, ℕ, zero, suc, ◌+◌, ◌-◌, ◌*◌, ◌/◌, ◌%◌, ◌^◌, ◌<◌, ◌≤◌, nat_eq, cond, false, List, length, get_or, refl, sym, ◌∙◌, ap, arith, inl, inr, eq-eqb}
use Rattle.std.proofs.Math.Nat.{pow-succ', pow-zero, add-mul-mod_self_left}
use Rattle.std.proofs.lemmas.Bool.{cases_eq}
use Rattle.two_power.specs.Tree.{root, IsTree}
use Rattle.two_power.proofs.Congruent.{pow-mul, pow_congruent}

pub root_even : (q : ℕ) (ws : List ℕ) (k j : ℕ) → k ≡ 2 * j → root q ws k ≡ get_or ws j 0
unfolding root
root_even q ws k j e = ap (λ b. cond b (get_or ws (k / 2) 0) (q - get_or ws (k / 2) 0)) (eq-eqb (k % 2) 0 (omega arith)) ∙ ap (λ z. get_or ws z 0) (half j k e)
  where
    half : (j k : ℕ) → k ≡ 2 * j → k / 2 ≡ j
    half j k e = omega arith

pub root_odd : (q : ℕ) (ws : List ℕ) (k j : ℕ) → k ≡ 2 * j + 1 → root q ws k ≡ q - get_or ws j 0
unfolding root
root_odd q ws k j e = ap (λ b. cond b (get_or ws (k / 2) 0) (q - get_or ws (k / 2) 0)) other ∙ ap (λ z. q - get_or ws z 0) (half j k e)
  where
    half : (j k : ℕ) → k ≡ 2 * j + 1 → k / 2 ≡ j
    half j k e = omega arith

    other : nat_eq (k % 2) 0 ≡ false
    other = let r : k % 2 ≡ 1 = omega arith in ap (λ z. nat_eq z 0) r

-- the square of a negative
pub square_negative : (q w : ℕ) → w ≤ q → ((q - w) * (q - w)) % q ≡ (w * w) % q
square_negative q w l = go (q - w) (omega arith)
  where
    go : (u : ℕ) → u + w ≡ q → (u * u) % q ≡ (w * w) % q
    go u e = sym (add-mul-mod_self_left (u * u) q w) ∙ ap (λ z. z % q) (turn (ap (λ z. z * w) e) (ap (λ z. u * z) e)) ∙ add-mul-mod_self_left (w * w) q u
      where
        turn : (u + w) * w ≡ q * w → u * (u + w) ≡ u * q → u * u + q * w ≡ w * w + q * u
        turn f g = omega (arith, f, g)

module _ (q : ℕ) (ws : List ℕ) (T : IsTree q ws) where
  root_square : (k j b : ℕ) → k ≡ 2 * j + b → b < 2 → j < length ws → (root q ws k * root q ws k) % q ≡ root q ws j % q
  root_square k j b e l n = elim (cases_eq b 0) [
    | inl f ↦ ap (λ z. (z * z) % q) (root_even q ws k j (omega arith)) ∙ T.squares j n
    | inr f ↦ ap (λ z. (z * z) % q) (root_odd q ws k j (omega arith)) ∙ square_negative q (get_or ws j 0) (omega (arith, T.below j n)) ∙ T.squares j n
  ]

  -- leaf j of the 2^t below a node has the node's root as its power 2^t
  pub root_power : (t node j : ℕ) → j < 2 ^ t → (node + 1) * 2 ^ t ≤ 2 * length ws → root q ws (node * 2 ^ t + j) ^ (2 ^ t) % q ≡ root q ws node % q
  root_power zero node j l n = ap (λ z. z % q) (ap (λ z. root q ws z ^ 1) (alone (2 ^ 0) refl l) ∙ first (root q ws node))
    where
      alone : (p : ℕ) → p ≡ 1 → j < p → node * p + j ≡ node
      alone p e l = omega (arith, ap (λ z. node * z) e)

      first : (a : ℕ) → a ^ 1 ≡ a
      first a = pow-succ' a 0 ∙ rw (pow-zero a) (omega arith)
  root_power (suc t) node j l n =
      ap (λ z. root q ws (node * 2 ^ suc t + j) ^ z % q) (pow-succ' 2 t) ∙ ap (λ z. z % q) (pow-mul (root q ws (node * 2 ^ suc t + j)) 2 (2 ^ t))
      ∙ pow_congruent q (root q ws (node * 2 ^ suc t + j) ^ 2) (root q ws (node * 2 ^ t + j / 2)) (2 ^ t) (ap (λ z. z % q) (twice (root q ws (node * 2 ^ suc t + j))) ∙ root_square (node * 2 ^ suc t + j) (node * 2 ^ t + j / 2) (j % 2) (split (2 ^ t) (2 ^ suc t) (pow-succ' 2 t)) (omega arith) (inside (2 ^ t) (2 ^ suc t) (pow-succ' 2 t) l n))
      ∙ root_power t node (j / 2) (less (2 ^ t) (2 ^ suc t) (pow-succ' 2 t) l) (fits (2 ^ t) (2 ^ suc t) (pow-succ' 2 t) n)
    where
      twice : (a : ℕ) → a ^ 2 ≡ a * a
      twice a = pow-succ' a 1 ∙ ap (λ z. a * z) (pow-succ' a 0 ∙ rw (pow-zero a) (omega arith))

      split : (p p' : ℕ) → p' ≡ 2 * p → node * p' + j ≡ 2 * (node * p + j / 2) + j % 2
      split p p' e = omega (arith, ap (λ z. node * z) e)

      inside : (p p' : ℕ) → p' ≡ 2 * p → j < p' → (node + 1) * p' ≤ 2 * length ws → node * p + j / 2 < length ws
      inside p p' e l n = omega (arith, ap (λ z. node * z) e)

      less : (p p' : ℕ) → p' ≡ 2 * p → j < p' → j / 2 < p
      less p p' e l = omega arith

      fits : (p p' : ℕ) → p' ≡ 2 * p → (node + 1) * p' ≤ 2 * length ws → (node + 1) * p ≤ 2 * length ws
      fits p p' e n = omega (arith, ap (λ z. node * z) e)
