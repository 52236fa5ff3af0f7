-- 2 i j = i^2 + j^2 - (i - j)^2: so the values at the powers of z^2 are one cyclic convolution with the powers of the
-- inverse of z whose exponents are squares.
use Rattle.std.proofs.Common.{◌≡◌, ℕ, zero, suc, ◌+◌, ◌-◌, ◌*◌, ◌%◌, ◌^◌, ◌<◌, ◌≤◌, List, length, get_or, refl, sym, ◌∙◌, ap, arith, inl, inr, All, mod-eq_of_lt}
use Rattle.std.proofs.Math.Nat.{pow-zero, pow-succ', mod-mod, mod-add-mod, add-mod-mod, add-mod_right}
use Rattle.std.proofs.lemmas.Nat.{mul-mod_first, mul-mod_second, mul-pow, pow-add, mod_below}
use Rattle.std.proofs.lemmas.List.{get_or_past}
use Rattle.std.proofs.lemmas.Bool.{cases_lt}
use mathlib.Core.Path.{fun_ext}
use Rattle.algebra.specs.Ring.{residues}
use Rattle.algebra.specs.Range.{total, adds, counts}
use Rattle.algebra.specs.Power.{power}
use Rattle.algebra.specs.Poly.{value_at}
use Rattle.algebra.proofs.Ranges.{total_split, total_units, count_laws}
use Rattle.algebra.proofs.ResidueUnits.{power_residue}
use Rattle.two_power.specs.Convolution.{convolved}
use Rattle.two_power.proofs.Congruent.{add_congruent, mul_congruent, times_congruent, pow_congruent}
use Rattle.two_power.proofs.Round.{total_scaled}
use Rattle.bluestein.specs.Plan.{square}
use Rattle.bluestein.specs.Chirps.{IsMirrored}
use Rattle.bluestein.proofs.Inverse.{value_sum}

power_of_one : (n : ℕ) → 1 ^ n ≡ 1
power_of_one zero = pow-zero 1
power_of_one (suc n) = pow-succ' 1 n ∙ ap (λ z. 1 * z) (power_of_one n)

-- powers of v take powers of its inverse away
taken_away : (q z v d e : ℕ) → (z * v) % q ≡ 1 % q → (z ^ (d + e) * v ^ d) % q ≡ z ^ e % q
taken_away q z v d e one = ap (λ a. a % q) (ap (λ a. a * v ^ d) (pow-add z d e) ∙ turn (z ^ d) (z ^ e) (v ^ d) ∙ ap (λ a. a * z ^ e) (sym (mul-pow z v d))) ∙ mul_congruent q ((z * v) ^ d) (1 ^ d) (z ^ e) (z ^ e) (pow_congruent q (z * v) 1 d one) (λ i. z ^ e % q) ∙ ap (λ a. (a * z ^ e) % q) (power_of_one d) ∙ ap (λ a. a % q) (single (z ^ e))
  where
    turn : (a b c : ℕ) → a * b * c ≡ a * c * b
    turn a b c = omega arith

    single : (a : ℕ) → 1 * a ≡ a
    single a = omega arith

gap_above : (i j d : ℕ) → i ≡ j + d → j * j + i * i ≡ d * d + (j * i + j * i)
gap_above i j d e = ap (λ z. j * j + z * z) e ∙ go j d ∙ ap (λ z. d * d + (j * z + j * z)) (sym e)
  where
    go : (j d : ℕ) → j * j + (j + d) * (j + d) ≡ d * d + (j * (j + d) + j * (j + d))
    go j d = omega arith

gap_below : (i j d : ℕ) → j ≡ i + d → j * j + i * i ≡ d * d + (j * i + j * i)
gap_below i j d e = ap (λ z. z * z + i * i) e ∙ go i d ∙ ap (λ z. d * d + (z * i + z * i)) (sym e)
  where
    go : (i d : ℕ) → (i + d) * (i + d) + i * i ≡ d * d + ((i + d) * i + (i + d) * i)
    go i d = omega arith

-- one term of the convolution
one_term : (q z v i j d c x f : ℕ) → (z * v) % q ≡ 1 % q → j * j + i * i ≡ d * d + (j * i + j * i) → x % q ≡ (z ^ (i * i) * c) % q → f % q ≡ v ^ (d * d) % q → (z ^ (j * j) * (x * f)) % q ≡ (c * (z * z) ^ (j * i)) % q
one_term q z v i j d c x f one gap xe fe =
    times_congruent q (z ^ (j * j)) (x * f) (z ^ (i * i) * c * v ^ (d * d)) (mul_congruent q x (z ^ (i * i) * c) f (v ^ (d * d)) xe fe)
    ∙ ap (λ a. a % q) (turn (z ^ (j * j)) (z ^ (i * i)) c (v ^ (d * d)) ∙ ap (λ a. c * (a * v ^ (d * d))) (sym (pow-add z (j * j) (i * i)) ∙ ap (λ a. z ^ a) gap))
    ∙ times_congruent q c (z ^ (d * d + (j * i + j * i)) * v ^ (d * d)) (z ^ (j * i + j * i)) (taken_away q z v (d * d) (j * i + j * i) one)
    ∙ ap (λ a. (c * a) % q) (pow-add z (j * i) (j * i) ∙ sym (mul-pow z z (j * i)))
  where
    turn : (a b c d : ℕ) → a * (b * c * d) ≡ c * (a * b * d)
    turn a b c d = omega arith

total_congruent : (q n : ℕ) (f g : ℕ → ℕ) → ((i : ℕ) → i < n → f i % q ≡ g i % q) → total counts n f % q ≡ total counts n g % q
total_congruent q zero f g h = refl
total_congruent q (suc n) f g h = add_congruent q (total counts n f) (total counts n g) (f n) (g n) (total_congruent q n f g (λ i l. h i (omega arith))) (h n (omega arith))

total_reduced : (q n : ℕ) (g : ℕ → ℕ) → 0 < q → total (adds (residues q)) n (λ i. g i % q) ≡ total counts n g % q
total_reduced q zero g on = sym (mod-eq_of_lt on)
total_reduced q (suc n) g on = ap (λ a. (a + g n % q) % q) (total_reduced q n g on) ∙ simp (mod-add-mod, add-mod-mod)

total_short : (n h : ℕ) (g : ℕ → ℕ) → n ≤ h → ((i : ℕ) → n ≤ i → g i ≡ 0) → total counts h g ≡ total counts n g
total_short n h g l zeros = ap (λ z. total counts z g) fill ∙ total_split counts count_laws n (h - n) g ∙ ap (λ z. total counts n g + z) (total_units counts count_laws (h - n) (λ i. g (n + i)) (λ i m. zeros (n + i) (omega arith))) ∙ none (total counts n g)
  where
    fill : h ≡ n + (h - n)
    fill = omega arith

    none : (a : ℕ) → a + 0 ≡ a
    none a = omega arith

-- a value as a sum over the natural numbers
value_total : (q : ℕ) → 0 < q → (z : ℕ) (c : List ℕ) → All (λ a. a < q) c → (j : ℕ) → value_at (residues q) (power (residues q) (square q z) j) c ≡ total counts (length c) (λ i. get_or c i 0 * (z * z) ^ (j * i)) % q
value_total q on z c c_in j =
    value_sum q on (square q z) (mod_below (z * z) q on) c c_in j
    ∙ ap (total (adds (residues q)) (length c)) (fun_ext (λ i. ap (λ a. (get_or c i 0 * a) % q) (power_residue q (z * z) (j * i)) ∙ mul-mod_second (get_or c i 0) ((z * z) ^ (j * i)) q))
    ∙ total_reduced q (length c) (λ i. get_or c i 0 * (z * z) ^ (j * i)) on

module _ (q : ℕ) (on : 0 < q) (z v m h : ℕ) (one : (z * v) % q ≡ 1 % q) (f c x : List ℕ) (f_long : length f ≡ 2 * h) (m_in : 2 * m ≤ 2 * h + 1) (F : IsMirrored q v m f) (few : length c ≤ m) (c_in : All (λ a. a < q) c) (x_long : length x ≡ h) (x_is : (i : ℕ) → i < length c → get_or x i 0 % q ≡ (z ^ (i * i) * get_or c i 0) % q) (x_zero : (i : ℕ) → length c ≤ i → get_or x i 0 ≡ 0) where
  -- the place of f that meets i at j
  near_place : (i j : ℕ) → i ≤ j → j < m → (j + (length f - i)) % length f ≡ j - i
  near_place i j l n = ap (λ z. z % length f) turn ∙ add-mod_right (j - i) (length f) ∙ mod-eq_of_lt (omega (arith, f_long))
    where
      turn : j + (length f - i) ≡ j - i + length f
      turn = omega (arith, f_long)

  far_place : (i j : ℕ) → j < i → i < m → (j + (length f - i)) % length f ≡ length f - (i - j)
  far_place i j l n = ap (λ z. z % length f) turn ∙ mod-eq_of_lt (omega (arith, f_long))
    where
      turn : j + (length f - i) ≡ length f - (i - j)
      turn = omega (arith, f_long)

  term : (j : ℕ) → j < m → (i : ℕ) → i < length c → (z ^ (j * j) * (get_or x i 0 * get_or f ((j + (length f - i)) % length f) 0)) % q ≡ (get_or c i 0 * (z * z) ^ (j * i)) % q
  term j m_j i l = elim (cases_lt j i) [
    | inl k ↦ one_term q z v i j (i - j) (get_or c i 0) (get_or x i 0) (get_or f ((j + (length f - i)) % length f) 0) one (gap_above i j (i - j) (omega arith)) (x_is i l) (ap (λ a. get_or f a 0 % q) (far_place i j k (omega arith)) ∙ ap (λ a. a % q) (F.far (i - j) (omega arith) (omega arith)) ∙ mod-mod (v ^ ((i - j) * (i - j))) q)
    | inr k ↦ one_term q z v i j (j - i) (get_or c i 0) (get_or x i 0) (get_or f ((j + (length f - i)) % length f) 0) one (gap_below i j (j - i) (omega arith)) (x_is i l) (ap (λ a. get_or f a 0 % q) (near_place i j k m_j) ∙ ap (λ a. a % q) (F.near (j - i) (omega arith)) ∙ mod-mod (v ^ ((j - i) * (j - i))) q)
  ]

  past : (j i : ℕ) → length c ≤ i → (z ^ (j * j) * (get_or x i 0 * get_or f ((j + (length f - i)) % length f) 0)) % q ≡ (get_or c i 0 * (z * z) ^ (j * i)) % q
  past j i l = ap (λ a. (z ^ (j * j) * (a * get_or f ((j + (length f - i)) % length f) 0)) % q) (x_zero i l) ∙ ap (λ a. a % q) (none (z ^ (j * j)) (get_or f ((j + (length f - i)) % length f) 0) ((z * z) ^ (j * i))) ∙ ap (λ a. (a * (z * z) ^ (j * i)) % q) (sym (get_or_past c i 0 l))
    where
      none : (a b d : ℕ) → a * (0 * b) ≡ 0 * d
      none a b d = omega arith

  pub chirped_convolution : (j : ℕ) → j < m → (z ^ (j * j) * convolved f x j) % q ≡ value_at (residues q) (power (residues q) (square q z) j) c
  unfolding convolved
  chirped_convolution j l =
      ap (λ a. a % q) (ap (λ n. z ^ (j * j) * total counts n (λ i. get_or x i 0 * get_or f ((j + (length f - i)) % length f) 0)) x_long ∙ sym (total_scaled (z ^ (j * j)) h (λ i. get_or x i 0 * get_or f ((j + (length f - i)) % length f) 0)))
      ∙ total_congruent q h (λ i. z ^ (j * j) * (get_or x i 0 * get_or f ((j + (length f - i)) % length f) 0)) (λ i. get_or c i 0 * (z * z) ^ (j * i)) (λ i k. elim (cases_lt i (length c)) [ inl n ↦ term j l i n | inr n ↦ past j i n ])
      ∙ ap (λ a. a % q) (total_short (length c) h (λ i. get_or c i 0 * (z * z) ^ (j * i)) (omega arith) (λ i n. ap (λ a. a * (z * z) ^ (j * i)) (get_or_past c i 0 n) ∙ none ((z * z) ^ (j * i))))
      ∙ sym (value_total q on z c c_in j)
    where
      none : (a : ℕ) → 0 * a ≡ 0
      none a = omega arith

  -- what comes out at place j
  pub out_at : (j s p e u y : ℕ) → j < m → u % q ≡ (p * convolved f x j) % q → e ≡ (s * z ^ (j * j)) % q → y ≡ (e * u) % q → y ≡ (s * p * value_at (residues q) (power (residues q) (square q z) j) c) % q
  out_at j s p e u y l ue ee ye =
      ye ∙ ap (λ a. (a * u) % q) ee ∙ mul-mod_first (s * z ^ (j * j)) u q ∙ times_congruent q (s * z ^ (j * j)) u (p * convolved f x j) ue ∙ ap (λ a. a % q) (turn s (z ^ (j * j)) p (convolved f x j))
      ∙ sym (mul-mod_second (s * p) (z ^ (j * j) * convolved f x j) q) ∙ ap (λ a. (s * p * a) % q) (chirped_convolution j l)
    where
      turn : (a b c d : ℕ) → a * b * (c * d) ≡ a * c * (b * d)
      turn a b c d = omega arith
