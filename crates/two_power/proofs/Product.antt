-- The convolution comes back from the products of values below the two nodes of the first level.
use Rattle.std.proofs.Common.{◌≡◌, ℕ, suc, ◌+◌, ◌-◌, ◌*◌, ◌/◌, ◌%◌, ◌^◌, ◌<◌, ◌≤◌, List, map, length, take, drop, get_or, refl, sym, ◌∙◌, ap, ap₂, subst, arith}
use Rattle.std.proofs.Math.Nat.{pow-succ', add-mul-mod_self_left, mod-eq_of_lt}
use Rattle.std.proofs.lemmas.Nat.{mul-mod_second, mul-mod, pow-add, pow_pos}
use Rattle.std.proofs.lemmas.List.{get_or-take, get_or-drop, length-take-le, length-drop}
use Rattle.algebra.specs.Whole.{below}
use Rattle.two_power.specs.Tree.{value, root, IsTree, AreFactors, AreValues, AreMultiples}
use Rattle.two_power.specs.Convolution.{convolved}
use Rattle.two_power.proofs.Congruent.{mul_congruent}
use Rattle.two_power.proofs.Values.{combined, length-combined, get_or-combined}
use Rattle.two_power.proofs.Trees.{root_even, root_power}
use Rattle.two_power.proofs.Descent.{left_value, right_value}
use Rattle.two_power.proofs.Ascent.{low_multiples}
use Rattle.two_power.proofs.Steps.{AreHalves, halves_of}
use Rattle.two_power.proofs.Round.{convolved_value, length-over, get_or-over}

-- psi^(N - 1) is the inverse of psi, where psi^(N / 2) is -1
pub inverse_of_half : (q levels l n psi v : ℕ) → 2 ≤ q → levels ≡ suc l → n ≡ 2 ^ levels → psi ^ (2 ^ (levels - 1)) % q ≡ q - 1 → v ≡ psi ^ (n - 1) % q → (psi * v) % q ≡ 1
inverse_of_half q levels l n psi v big e f h g =
    ap (λ z. (psi * z) % q) g ∙ mul-mod_second psi (psi ^ (n - 1)) q ∙ ap (λ z. z % q) (sym (pow-succ' psi (n - 1)) ∙ ap (λ z. psi ^ z) whole ∙ pow-add psi (2 ^ l) (2 ^ l)) ∙ mul-mod (psi ^ (2 ^ l)) (psi ^ (2 ^ l)) q ∙ ap (λ z. (z * z) % q) half ∙ square (q - 1) (omega arith)
  where
    half : psi ^ (2 ^ l) % q ≡ q - 1
    half = let d : levels - 1 ≡ l = omega arith in subst (λ z. psi ^ (2 ^ z) % q ≡ q - 1) d h

    double : n ≡ 2 * 2 ^ l
    double = f ∙ ap (λ z. 2 ^ z) e ∙ pow-succ' 2 l

    whole : suc (n - 1) ≡ 2 ^ l + 2 ^ l
    whole = omega (arith, double, pow_pos l)

    square : (u : ℕ) → u + 1 ≡ q → (u * u) % q ≡ 1
    square u k = ap (λ z. z % q) (turn u k) ∙ fall
      where
        both : (t : ℕ) → (t + 1) * (t + 1) ≡ 1 + (t + 2) * t
        both t = omega arith

        turn : (u : ℕ) → u + 1 ≡ q → u * u ≡ 1 + q * (u - 1)
        turn u k =
            let a : u ≡ (u - 1) + 1 = omega (arith, big) in
            let b : (u - 1) + 2 ≡ q = omega (arith, big) in
            ap (λ z. z * z) a ∙ both (u - 1) ∙ ap (λ z. 1 + z * (u - 1)) b

        fall : (1 + q * (u - 1)) % q ≡ 1
        fall = let a : (1 + q * (u - 1)) % q ≡ 1 % q = add-mul-mod_self_left 1 q (u - 1) in a ∙ mod-eq_of_lt big

-- constant factors in two parts
pub factors_front : (q n : ℕ) (ws ps us qs : List ℕ) → n ≤ length ws → AreFactors q ws ps → us ≡ take n ws → qs ≡ take n ps → AreFactors q us qs
factors_front q n ws ps us qs l F e f = record {
  long = ap length f ∙ length-take-le n ps (omega (arith, F.long)) ∙ sym (ap length e ∙ length-take-le n ws l);
  below = λ k m. let i = in_range k m in subst (λ z. z < q) (sym (ap (λ z. get_or z k 0) e ∙ get_or-take n ws k 0 i)) (F.below k (omega arith));
  right = λ k m. let i = in_range k m in ap (λ z. get_or z k 0) f ∙ get_or-take n ps k 0 i ∙ F.right k (omega arith) ∙ ap (λ z. z * 2 ^ 64 / q) (sym (ap (λ z. get_or z k 0) e ∙ get_or-take n ws k 0 i));
}
  where
    in_range : (k : ℕ) → k < length us → k < n
    in_range k m = omega (arith, ap length e, length-take-le n ws l)

pub factors_back : (q n : ℕ) (ws ps us qs : List ℕ) → n ≤ length ws → AreFactors q ws ps → us ≡ drop n ws → qs ≡ drop n ps → AreFactors q us qs
factors_back q n ws ps us qs l F e f = record {
  long = ap length f ∙ length-drop n ps ∙ ap (λ z. z - n) F.long ∙ sym (ap length e ∙ length-drop n ws);
  below = λ k m. let i = in_range k m in subst (λ z. z < q) (sym (ap (λ z. get_or z k 0) e ∙ get_or-drop n ws k 0)) (F.below (n + k) i);
  right = λ k m. let i = in_range k m in ap (λ z. get_or z k 0) f ∙ get_or-drop n ps k 0 ∙ F.right (n + k) i ∙ ap (λ z. z * 2 ^ 64 / q) (sym (ap (λ z. get_or z k 0) e ∙ get_or-drop n ws k 0));
}
  where
    in_range : (k : ℕ) → k < length us → n + k < length ws
    in_range k m = omega (arith, ap length e, length-drop n ws)

module _ (q : ℕ) (big : 2 ≤ q) (ws : List ℕ) (T : IsTree q ws) (first : get_or ws 0 0 ≡ 1) (levels l : ℕ) (is_suc : levels ≡ suc l) (size : length ws ≡ 2 ^ l) (f x fs : List ℕ) (long : length f ≡ 2 ^ levels) (x_long : length x ≡ 2 ^ l) (are : AreValues q ws levels 0 f fs) where
  double : 2 ^ levels ≡ 2 * 2 ^ l
  double = ap (λ z. 2 ^ z) is_suc ∙ pow-succ' 2 l

  -- the whole convolution, and its halves
  product : List ℕ
  product = map (convolved f x) (below (length f))

  product_long : length product ≡ 2 ^ levels
  unfolding product
  product_long = length-over (convolved f x) (length f) ∙ long

  fits : (0 + 1) * 2 ^ suc l ≤ 2 * length ws
  fits = omega (arith, size, pow-succ' 2 l)

  -- at each leaf the value of the product is the product of the values
  root_one : (i : ℕ) → i < 2 ^ levels → root q ws (0 * 2 ^ levels + i) ^ length f % q ≡ 1 % q
  root_one i m = ap (λ z. root q ws (0 * 2 ^ levels + i) ^ z % q) long ∙ root_power q ws T levels 0 i m (omega (arith, size, double)) ∙ ap (λ z. z % q) (root_even q ws 0 0 refl ∙ first)

  product_value : (i : ℕ) → i < 2 ^ levels → value product (root q ws (0 * 2 ^ levels + i)) % q ≡ (get_or fs i 0 * value x (root q ws (0 * 2 ^ levels + i))) % q
  unfolding product
  product_value i m =
      convolved_value q f x (root q ws (0 * 2 ^ levels + i)) (omega (arith, long, pow_pos levels)) (omega (arith, long, x_long, double)) (root_one i m)
      ∙ ap (λ z. z % q) (turn (value x (root q ws (0 * 2 ^ levels + i))) (value f (root q ws (0 * 2 ^ levels + i))))
      ∙ mul_congruent q (value f (root q ws (0 * 2 ^ levels + i))) (get_or fs i 0) (value x (root q ws (0 * 2 ^ levels + i))) (value x (root q ws (0 * 2 ^ levels + i))) (sym (are i m)) (λ k. value x (root q ws (0 * 2 ^ levels + i)) % q)
    where
      turn : (a b : ℕ) → a * b ≡ b * a
      turn a b = omega arith

  ps : List ℕ
  ps = take (2 ^ l) product

  rs : List ℕ
  rs = drop (2 ^ l) product

  halves : AreHalves l product ps rs
  unfolding ps rs
  halves = halves_of levels l (2 ^ l) product ps rs is_suc product_long refl refl refl

  same : length ps ≡ length rs
  same = halves.low_long ∙ sym halves.high_long

  w : ℕ
  w = get_or ws 0 0

  left_place : (j : ℕ) → 0 * 2 ^ levels + j ≡ 0 * 2 ^ l + j
  left_place j = omega arith

  right_place : (j : ℕ) → 0 * 2 ^ levels + (2 ^ l + j) ≡ 1 * 2 ^ l + j
  right_place j = omega arith

  low_product : (j : ℕ) → j < 2 ^ l → value (combined (get_or ws 0 0) ps rs) (root q ws (0 * 2 ^ l + j)) % q ≡ (get_or fs j 0 * value x (root q ws (0 * 2 ^ l + j))) % q
  low_product j m =
      left_value q ws T l 0 fits ps rs (combined (get_or ws 0 0) ps rs) halves.low_long (length-combined (get_or ws 0 0) ps rs same ∙ halves.low_long) halves.high_long (λ i. ap (λ z. z % q) (get_or-combined (get_or ws 0 0) ps rs i same)) j m
      ∙ ap (λ z. value z (root q ws (0 * 2 ^ l + j)) % q) halves.whole
      ∙ ap (λ z. value product (root q ws z) % q) (sym (left_place j)) ∙ product_value j (omega (arith, double)) ∙ ap (λ z. (get_or fs j 0 * value x (root q ws z)) % q) (left_place j)

  high_product : (j : ℕ) → j < 2 ^ l → value (combined (q - get_or ws 0 0) ps rs) (root q ws (1 * 2 ^ l + j)) % q ≡ (get_or fs (2 ^ l + j) 0 * value x (root q ws (1 * 2 ^ l + j))) % q
  high_product j m =
      right_value q ws T l 0 fits ps rs (combined (q - get_or ws 0 0) ps rs) halves.low_long (length-combined (q - get_or ws 0 0) ps rs same ∙ halves.low_long) halves.high_long (λ i. ap (λ z. z % q) (get_or-combined (q - get_or ws 0 0) ps rs i same)) j m
      ∙ ap (λ z. value z (root q ws (1 * 2 ^ l + j)) % q) halves.whole
      ∙ ap (λ z. value product (root q ws z) % q) (sym (right_place j)) ∙ product_value (2 ^ l + j) (omega (arith, double)) ∙ ap (λ z. (get_or fs (2 ^ l + j) 0 * value x (root q ws z)) % q) (right_place j)

  low_at : (j : ℕ) → j < 2 ^ l → get_or ps j 0 ≡ convolved f x j
  unfolding ps product
  low_at j m = get_or-take (2 ^ l) product j 0 m ∙ get_or-over (convolved f x) (length f) j (omega (arith, long, double))

  -- both halves together
  pub both_halves : (gs hs us vs : List ℕ) → gs ≡ take (2 ^ l) fs → hs ≡ drop (2 ^ l) fs
      → ((p : List ℕ) → length p ≡ 2 ^ l → ((j : ℕ) → j < 2 ^ l → value p (root q ws (0 * 2 ^ l + j)) % q ≡ (get_or gs j 0 * value x (root q ws (0 * 2 ^ l + j))) % q) → AreMultiples q (2 ^ l) p us)
      → ((p : List ℕ) → length p ≡ 2 ^ l → ((j : ℕ) → j < 2 ^ l → value p (root q ws (1 * 2 ^ l + j)) % q ≡ (get_or hs j 0 * value x (root q ws (1 * 2 ^ l + j))) % q) → AreMultiples q (2 ^ l) p vs)
      → (j : ℕ) → j < 2 ^ l → (get_or us j 0 + get_or vs j 0) % q ≡ (2 ^ levels * convolved f x j) % q
  both_halves gs hs us vs ge he low high j m =
      low_multiples q (omega arith) (get_or ws 0 0) 1 (subst (λ z. z < q) (sym first) (omega arith)) (ap (λ z. (z * 1) % q) first) (2 ^ l) ps rs us vs same lefts rights j
      ∙ ap₂ (λ y z. (y * z) % q) (sym double) (low_at j m)
    where
      lefts : AreMultiples q (2 ^ l) (combined (get_or ws 0 0) ps rs) us
      lefts = low (combined (get_or ws 0 0) ps rs) (length-combined (get_or ws 0 0) ps rs same ∙ halves.low_long) (λ i k. low_product i k ∙ ap (λ z. (z * value x (root q ws (0 * 2 ^ l + i))) % q) (sym (ap (λ z. get_or z i 0) ge ∙ get_or-take (2 ^ l) fs i 0 k)))

      rights : AreMultiples q (2 ^ l) (combined (q - get_or ws 0 0) ps rs) vs
      rights = high (combined (q - get_or ws 0 0) ps rs) (length-combined (q - get_or ws 0 0) ps rs same ∙ halves.low_long) (λ i k. high_product i k ∙ ap (λ z. (z * value x (root q ws (1 * 2 ^ l + i))) % q) (sym (ap (λ z. get_or z i 0) he ∙ get_or-drop (2 ^ l) fs i 0)))
