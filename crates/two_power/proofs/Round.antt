-- The value of a cyclic convolution at a root of unity is the product of the values.
use Rattle.std.proofs.Common.{◌≡◌, ℕ, zero, suc, ◌+◌, ◌-◌, ◌*◌, ◌%◌, ◌^◌, ◌<◌, ◌≤◌, List, [], ◌∷◌, ◌++◌, map, length, get_or, refl, sym, ◌∙◌, ap, ap₂, arith, mod-eq_of_lt}
use Rattle.std.proofs.Math.Nat.{pow-succ', pow-zero, add-mul-mod_self_left, add-mod_right}
use Rattle.algebra.specs.Range.{total, counts}
use Rattle.algebra.specs.Whole.{below}
use Rattle.algebra.proofs.Ranges.{total_first, count_laws}
use Rattle.two_power.specs.Tree.{value}
use Rattle.two_power.specs.Convolution.{convolved}
use Rattle.two_power.proofs.Congruent.{add_congruent, mul_congruent, times_congruent}
use Rattle.std.proofs.Common.{inl, inr}
use Rattle.std.proofs.lemmas.List.{length_push, length-map, map-append, ext_get_or, get_or_at, get_or_append_left}
use Rattle.std.proofs.lemmas.Bool.{cases_eq}
use Rattle.two_power.proofs.Values.{value-append}

-- the sum of r^j g_j over j < n
abbrev pub powers : ℕ → (ℕ → ℕ) → ℕ → ℕ
powers n g r = total counts n (λ j. r ^ j * g j)

pub total_equal : (n : ℕ) (f g : ℕ → ℕ) → ((i : ℕ) → i < n → f i ≡ g i) → total counts n f ≡ total counts n g
total_equal zero f g h = refl
total_equal (suc n) f g h = ap₂ (λ a b. a + b) (total_equal n f g (λ i l. h i (omega arith))) (h n (omega arith))

pub total_scaled : (c n : ℕ) (f : ℕ → ℕ) → total counts n (λ i. c * f i) ≡ c * total counts n f
total_scaled c zero f = omega arith
total_scaled c (suc n) f = ap (λ z. z + c * f n) (total_scaled c n f) ∙ spread c (total counts n f) (f n)
  where
    spread : (c a b : ℕ) → c * a + c * b ≡ c * (a + b)
    spread c a b = omega arith

total_sum : (n : ℕ) (f g : ℕ → ℕ) → total counts n (λ i. f i + g i) ≡ total counts n f + total counts n g
total_sum zero f g = refl
total_sum (suc n) f g = ap (λ z. z + (f n + g n)) (total_sum n f g) ∙ spread (total counts n f) (total counts n g) (f n) (g n)
  where
    spread : (a b c d : ℕ) → a + b + (c + d) ≡ a + c + (b + d)
    spread a b c d = omega arith

length-below : (n : ℕ) → length (below n) ≡ n
length-below zero = refl
length-below (suc n) = omega (arith, length_push (below n) n, length-below n)

pub length-over : (g : ℕ → ℕ) (n : ℕ) → length (map g (below n)) ≡ n
length-over g n = length-map (below n) g ∙ length-below n

pub value_over : (g : ℕ → ℕ) (n r : ℕ) → value (map g (below n)) r ≡ powers n g r
value_over g zero r = refl
value_over g (suc n) r = ap (λ z. value z r) (map-append g (below n) (n ∷ [])) ∙ value-append (map g (below n)) (g n ∷ []) r ∙ ap₂ (λ a k. a + r ^ k * (g n + r * 0)) (value_over g n r) (length-over g n) ∙ last (powers n g r) (r ^ n) (g n) r
  where
    last : (a p b r : ℕ) → a + p * (b + r * 0) ≡ a + p * b
    last a p b r = omega arith

pub get_or-over : (g : ℕ → ℕ) (n i : ℕ) → i < n → get_or (map g (below n)) i 0 ≡ g i
get_or-over g zero i l = absurd (omega arith)
get_or-over g (suc n) i l = ap (λ z. get_or z i 0) (map-append g (below n) (n ∷ [])) ∙ elim (cases_eq i n) as (λ _. get_or (map g (below n) ++ g n ∷ []) i 0 ≡ g i) [
  | inl e ↦ ap (λ k. get_or (map g (below n) ++ g n ∷ []) k 0) e ∙ get_or_at (map g (below n)) (g n) [] 0 n (length-over g n) ∙ ap g (sym e)
  | inr e ↦ get_or_append_left (map g (below n)) (g n ∷ []) 0 i (omega (arith, length-over g n)) ∙ get_or-over g n i (omega arith)
]

pub value_places : (f : List ℕ) (g : ℕ → ℕ) (r : ℕ) → ((i : ℕ) → i < length f → get_or f i 0 ≡ g i) → value f r ≡ powers (length f) g r
value_places f g r h = ap (λ z. value z r) (ext_get_or 0 f (map g (below (length f))) (sym (length-over g (length f))) (λ i l. h i l ∙ sym (get_or-over g (length f) i l))) ∙ value_over g (length f) r

-- moved by one place round, the values are those times r
turned : (q n r : ℕ) (g : ℕ → ℕ) → ((j : ℕ) → g (j + suc n) ≡ g j) → r ^ suc n % q ≡ 1 % q → powers (suc n) (λ j. g (j + n)) r % q ≡ (r * powers (suc n) g r) % q
turned q n r g periodic e =
    ap (λ z. z % q) (total_first counts count_laws n (λ j. r ^ j * g (j + n)) ∙ ap₂ (λ y z. y + z) (front (r ^ 0) (pow-zero r)) (total_equal n (λ j. r ^ suc j * g (suc j + n)) (λ j. r * (r ^ j * g j)) (λ j l. ap₂ (λ y z. y * z) (pow-succ' r j) (ap g (move j) ∙ periodic j) ∙ assoc r (r ^ j) (g j)) ∙ total_scaled r n (λ j. r ^ j * g j)))
    ∙ add_congruent q (1 * g n) (r ^ suc n * g n) (r * powers n g r) (r * powers n g r) (mul_congruent q 1 (r ^ suc n) (g n) (g n) (sym e) (λ i. g n % q)) (λ i. (r * powers n g r) % q)
    ∙ ap (λ z. z % q) (ap (λ z. z * g n + r * powers n g r) (pow-succ' r n) ∙ back r (r ^ n) (g n) (powers n g r))
  where
    front : (p : ℕ) → p ≡ 1 → p * g (0 + n) ≡ 1 * g n
    front p e = ap₂ (λ y z. y * g z) e (start n)
      where
        start : (n : ℕ) → 0 + n ≡ n
        start n = omega arith

    move : (j : ℕ) → suc j + n ≡ j + suc n
    move j = omega arith

    assoc : (a b c : ℕ) → a * b * c ≡ a * (b * c)
    assoc a b c = omega arith

    back : (r p b a : ℕ) → r * p * b + r * a ≡ r * (a + p * b)
    back r p b a = omega arith

-- the convolution with g, of period suc n, place by place
round : ℕ → List ℕ → (ℕ → ℕ) → ℕ → ℕ
round n [] g j = 0
round n (a ∷ x) g j = a * g j + round n x g (j + n)

round_periodic : (n : ℕ) (x : List ℕ) (g : ℕ → ℕ) → ((j : ℕ) → g (j + suc n) ≡ g j) → (j : ℕ) → round n x g (j + suc n) ≡ round n x g j
unfolding round
round_periodic n [] g h j = refl
round_periodic n (a ∷ x) g h j = ap₂ (λ y z. a * y + z) (h j) (ap (round n x g) (swap j (suc n) n) ∙ round_periodic n x g h (j + n))
  where
    swap : (a b c : ℕ) → a + b + c ≡ a + c + b
    swap a b c = omega arith

round_value : (q n r : ℕ) (x : List ℕ) (g : ℕ → ℕ) → ((j : ℕ) → g (j + suc n) ≡ g j) → r ^ suc n % q ≡ 1 % q → powers (suc n) (round n x g) r % q ≡ (value x r * powers (suc n) g r) % q
unfolding round
round_value q n r [] g h e = ap (λ z. z % q) (total_equal (suc n) (λ j. r ^ j * 0) (λ j. 0 * 0) (λ j l. none (r ^ j)) ∙ total_scaled 0 (suc n) (λ j. 0) ∙ zeros (total counts (suc n) (λ j. 0)) (powers (suc n) g r))
  where
    none : (p : ℕ) → p * 0 ≡ 0 * 0
    none p = omega arith

    zeros : (a b : ℕ) → 0 * a ≡ 0 * b
    zeros a b = omega arith
round_value q n r (a ∷ x) g h e =
    ap (λ z. z % q) (total_equal (suc n) (λ j. r ^ j * (a * g j + round n x g (j + n))) (λ j. a * (r ^ j * g j) + r ^ j * round n x g (j + n)) (λ j l. spread (r ^ j) a (g j) (round n x g (j + n))) ∙ total_sum (suc n) (λ j. a * (r ^ j * g j)) (λ j. r ^ j * round n x g (j + n)) ∙ ap (λ z. z + powers (suc n) (λ j. round n x g (j + n)) r) (total_scaled a (suc n) (λ j. r ^ j * g j)))
    ∙ add_congruent q (a * powers (suc n) g r) (a * powers (suc n) g r) (powers (suc n) (λ j. round n x g (j + n)) r) (r * (value x r * powers (suc n) g r)) (λ i. (a * powers (suc n) g r) % q) (turned q n r (round n x g) (round_periodic n x g h) e ∙ times_congruent q r (powers (suc n) (round n x g) r) (value x r * powers (suc n) g r) (round_value q n r x g h e))
    ∙ ap (λ z. z % q) (join a (powers (suc n) g r) r (value x r))
  where
    spread : (p a b c : ℕ) → p * (a * b + c) ≡ a * (p * b) + p * c
    spread p a b c = omega arith

    join : (a s r v : ℕ) → a * s + r * (v * s) ≡ (a + r * v) * s
    join a s r v = omega arith

round_is : (n : ℕ) (x : List ℕ) (g : ℕ → ℕ) (j : ℕ) → round n x g j ≡ total counts (length x) (λ i. get_or x i 0 * g (j + i * n))
unfolding round
round_is n [] g j = refl
round_is n (a ∷ x) g j = ap₂ (λ y z. a * y + z) (ap g (start j n)) (round_is n x g (j + n) ∙ total_equal (length x) (λ i. get_or x i 0 * g (j + n + i * n)) (λ i. get_or x i 0 * g (j + suc i * n)) (λ i l. ap (λ z. get_or x i 0 * g z) (more j n i))) ∙ sym (total_first counts count_laws (length x) (λ i. get_or (a ∷ x) i 0 * g (j + i * n)))
  where
    start : (j n : ℕ) → j ≡ j + 0 * n
    start j n = omega arith

    more : (j n i : ℕ) → j + n + i * n ≡ j + suc i * n
    more j n i = let e : suc i ≡ i + 1 = omega arith in omega (arith, ap (λ z. z * n) e)

-- the value of the list of all convolved places
pub convolved_value : (q : ℕ) (f x : List ℕ) (r : ℕ) → 0 < length f → length x ≤ length f → r ^ length f % q ≡ 1 % q → value (map (convolved f x) (below (length f))) r % q ≡ (value x r * value f r) % q
unfolding convolved
convolved_value q f x r some l e = go (length f) refl
  where
    go : (k : ℕ) → k ≡ length f → value (map (convolved f x) (below (length f))) r % q ≡ (value x r * value f r) % q
    go zero k = absurd (omega arith)
    go (suc n) k = ap (λ z. z % q) (value_over (convolved f x) (length f) r ∙ total_equal (length f) (λ j. r ^ j * convolved f x j) (λ j. r ^ j * round n x g j) (λ j m. ap (λ z. r ^ j * z) (places j)) ∙ ap (λ z. powers z (round n x g) r) (sym k)) ∙ round_value q n r x g periodic (ap (λ z. r ^ z % q) k ∙ e) ∙ ap (λ z. (value x r * z) % q) (ap (λ z. powers z g r) k ∙ sym (value_places f g r (λ i m. ap (λ z. get_or f z 0) (sym (mod-eq_of_lt m)))))
      where
        g : ℕ → ℕ
        g i = get_or f (i % length f) 0

        periodic : (j : ℕ) → g (j + suc n) ≡ g j
        periodic j = ap (λ z. get_or f z 0) (ap (λ z. (j + z) % length f) k ∙ add-mod_right j (length f))

        places : (j : ℕ) → convolved f x j ≡ round n x g j
        places j = total_equal (length x) (λ i. get_or x i 0 * get_or f ((j + (length f - i)) % length f) 0) (λ i. get_or x i 0 * g (j + i * n)) (λ i m. ap (λ z. get_or x i 0 * get_or f z 0) (same i (omega arith))) ∙ sym (round_is n x g j)
          where
            -- j - i, in two ways
            same : (i : ℕ) → i ≤ length f → (j + (length f - i)) % length f ≡ (j + i * n) % length f
            same i m = sym (add-mul-mod_self_left (j + (length f - i)) (length f) i) ∙ ap (λ z. z % length f) (turn (length f) (sym k) m) ∙ add-mod_right (j + i * n) (length f)
              where
                turn : (p : ℕ) → p ≡ suc n → i ≤ p → j + (p - i) + p * i ≡ j + i * n + p
                turn p e m = let e' : p ≡ n + 1 = omega arith in omega (arith, ap (λ z. z * i) e')
