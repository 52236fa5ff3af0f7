-- One pass from the two children of a node back to it.
use Rattle.std.proofs.Common.{◌≡◌, ℕ, suc, ◌+◌, ◌-◌, ◌*◌, ◌%◌, ◌^◌, ◌<◌, ◌≤◌, List, ◌++◌, length, get_or, sym, ◌∙◌, ap, arith}
use Rattle.std.proofs.Math.Nat.{add-mul-mod_self_left}
use Rattle.std.proofs.lemmas.List.{get_or_append_left, get_or-append_right}
use Rattle.two_power.specs.Tree.{value, root, IsTree, AreValues, AreMultiples}
use Rattle.two_power.proofs.Congruent.{add_congruent, mul_congruent, times_congruent, cancel}
use Rattle.two_power.proofs.Values.{combined, length-combined, get_or-combined}
use Rattle.two_power.proofs.Descent.{double, left_place, right_place, left_value, right_value}

-- zs is c (xs + ys')
module _ (q : ℕ) (on : 0 < q) (s w v a b x y : ℕ) (w_in : w < q) (one : (w * v) % q ≡ 1 % q) (xe : x % q ≡ (s * (a + w * b)) % q) (ye : y % q ≡ (s * (a + (q - w) * b)) % q) where
  both : s * (a + w * b) + s * (a + (q - w) * b) ≡ 2 * s * a + q * (s * b)
  both = go (q - w) (omega arith)
    where
      go : (u : ℕ) → u + w ≡ q → s * (a + w * b) + s * (a + u * b) ≡ 2 * s * a + q * (s * b)
      go u e = omega (arith, ap (λ z. z * (s * b)) e)

  pub low_back : (x + y) % q ≡ (2 * s * a) % q
  low_back = add_congruent q x (s * (a + w * b)) y (s * (a + (q - w) * b)) xe ye ∙ ap (λ z. z % q) both ∙ add-mul-mod_self_left (2 * s * a) q (s * b)

  -- x - y, where y is below 2q
  apart : (d : ℕ) → d + y ≡ 2 * q → (x + d) % q ≡ (w * (2 * s * b)) % q
  apart d e = cancel q (x + d) (w * (2 * s * b)) y on (ap (λ z. z % q) (turn d e) ∙ add-mul-mod_self_left x q 2 ∙ xe ∙ sym (add_congruent q (w * (2 * s * b)) (w * (2 * s * b)) y (s * (a + (q - w) * b)) (λ i. (w * (2 * s * b)) % q) ye ∙ ap (λ z. z % q) (other (q - w) (omega arith)) ∙ add-mul-mod_self_left (s * (a + w * b)) q (s * b)))
    where
      turn : (d : ℕ) → d + y ≡ 2 * q → (x + d) + y ≡ x + q * 2
      turn d e = omega (arith, e)

      other : (u : ℕ) → u + w ≡ q → w * (2 * s * b) + s * (a + u * b) ≡ s * (a + w * b) + q * (s * b)
      other u e = omega (arith, ap (λ z. z * (s * b)) e)

  pub high_back : y < 2 * q → (v * (x + (2 * q - y))) % q ≡ (2 * s * b) % q
  high_back l = times_congruent q v (x + (2 * q - y)) (w * (2 * s * b)) (apart (2 * q - y) (omega arith)) ∙ ap (λ z. z % q) (turn (2 * s * b)) ∙ mul_congruent q (w * v) 1 (2 * s * b) (2 * s * b) one (λ i. (2 * s * b) % q) ∙ ap (λ z. z % q) (single (2 * s * b))
    where
      turn : (t : ℕ) → v * (w * t) ≡ w * v * t
      turn t = omega arith

      single : (t : ℕ) → 1 * t ≡ t
      single t = omega arith

module _ (q : ℕ) (ws : List ℕ) (T : IsTree q ws) (l n : ℕ) (fits : (n + 1) * 2 ^ suc l ≤ 2 * length ws) where
  -- what the values below a node say of each child
  pub left_values : (ps rs xs ys : List ℕ) → length ps ≡ 2 ^ l → length rs ≡ 2 ^ l → length xs ≡ 2 ^ l → AreValues q ws (suc l) n (ps ++ rs) (xs ++ ys) → AreValues q ws l (2 * n) (combined (get_or ws n 0) ps rs) xs
  left_values ps rs xs ys a b c h j m =
      ap (λ z. z % q) (sym (get_or_append_left xs ys 0 j (omega (arith, c)))) ∙ h j (omega (arith, double q ws T l n fits)) ∙ ap (λ z. value (ps ++ rs) (root q ws z) % q) (sym (left_place q ws T l n fits j))
      ∙ sym (left_value q ws T l n fits ps rs (combined (get_or ws n 0) ps rs) a (length-combined (get_or ws n 0) ps rs (a ∙ sym b) ∙ a) b (λ i. ap (λ z. z % q) (get_or-combined (get_or ws n 0) ps rs i (a ∙ sym b))) j m)

  pub right_values : (ps rs xs ys : List ℕ) → length ps ≡ 2 ^ l → length rs ≡ 2 ^ l → length xs ≡ 2 ^ l → AreValues q ws (suc l) n (ps ++ rs) (xs ++ ys) → AreValues q ws l (2 * n + 1) (combined (q - get_or ws n 0) ps rs) ys
  right_values ps rs xs ys a b c h j m =
      ap (λ z. z % q) (sym (ap (λ z. get_or ys z 0) (back j)) ∙ sym (get_or-append_right xs ys (2 ^ l) (2 ^ l + j) 0 c (omega arith))) ∙ h (2 ^ l + j) (omega (arith, double q ws T l n fits))
      ∙ ap (λ z. value (ps ++ rs) (root q ws z) % q) (sym (right_place q ws T l n fits (2 ^ l + j) (omega arith)) ∙ ap (λ z. (2 * n + 1) * 2 ^ l + z) (back j))
      ∙ sym (right_value q ws T l n fits ps rs (combined (q - get_or ws n 0) ps rs) a (length-combined (q - get_or ws n 0) ps rs (a ∙ sym b) ∙ a) b (λ i. ap (λ z. z % q) (get_or-combined (q - get_or ws n 0) ps rs i (a ∙ sym b))) j m)
    where
      back : (j : ℕ) → 2 ^ l + j - 2 ^ l ≡ j
      back j = omega arith

-- what a pass up gives from the multiples at the children
module _ (q : ℕ) (on : 0 < q) (w v : ℕ) (w_in : w < q) (one : (w * v) % q ≡ 1 % q) (s : ℕ) (ps rs xs ys : List ℕ) (long : length ps ≡ length rs) (left : AreMultiples q s (combined w ps rs) xs) (right : AreMultiples q s (combined (q - w) ps rs) ys) where
  left_at : (i : ℕ) → get_or xs i 0 % q ≡ (s * (get_or ps i 0 + w * get_or rs i 0)) % q
  left_at i = left i ∙ ap (λ z. (s * z) % q) (get_or-combined w ps rs i long)

  right_at : (i : ℕ) → get_or ys i 0 % q ≡ (s * (get_or ps i 0 + (q - w) * get_or rs i 0)) % q
  right_at i = right i ∙ ap (λ z. (s * z) % q) (get_or-combined (q - w) ps rs i long)

  pub low_multiples : (i : ℕ) → (get_or xs i 0 + get_or ys i 0) % q ≡ (2 * s * get_or ps i 0) % q
  low_multiples i = low_back q on s w v (get_or ps i 0) (get_or rs i 0) (get_or xs i 0) (get_or ys i 0) w_in one (left_at i) (right_at i)

  pub high_multiples : (i : ℕ) → get_or ys i 0 < 2 * q → (v * (get_or xs i 0 + (2 * q - get_or ys i 0))) % q ≡ (2 * s * get_or rs i 0) % q
  high_multiples i l = high_back q on s w v (get_or ps i 0) (get_or rs i 0) (get_or xs i 0) (get_or ys i 0) w_in one (left_at i) (right_at i) l
