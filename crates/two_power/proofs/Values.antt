-- Values of polynomials that stand in two halves.
use Rattle.std.proofs.Common.{◌≡◌, ℕ, zero, suc, ◌+◌, ◌*◌, ◌%◌, ◌^◌, List, [], ◌∷◌, ◌++◌, length, get_or, refl, sym, ◌∙◌, ap, arith}
use Rattle.std.proofs.Math.Nat.{pow-succ', pow-zero}
use Rattle.two_power.specs.Tree.{value, Combines}
use Rattle.two_power.proofs.Congruent.{add_congruent, mul_congruent, times_congruent}

pub value-append : (xs ys : List ℕ) (x : ℕ) → value (xs ++ ys) x ≡ value xs x + x ^ length xs * value ys x
value-append [] ys x = rw (pow-zero x) (omega arith)
value-append (a ∷ xs) ys x = ap (λ z. a + x * z) (value-append xs ys x) ∙ spread a x (value xs x) (x ^ length xs) (value ys x) ∙ ap (λ z. a + x * value xs x + z * value ys x) (sym (pow-succ' x (length xs)))
  where
    spread : (a x u p v : ℕ) → a + x * (u + p * v) ≡ a + x * u + x * p * v
    spread a x u p v = omega arith

pub value_combined : (q c x : ℕ) (xs ys zs : List ℕ) → length xs ≡ length zs → length ys ≡ length zs → Combines q c xs ys zs → value zs x % q ≡ (value xs x + c * value ys x) % q
value_combined q c x [] [] [] m n h = ap (λ z. z % q) (none c)
  where
    none : (c : ℕ) → 0 ≡ 0 + c * 0
    none c = omega arith
value_combined q c x [] [] (z ∷ zs) m n h = absurd (omega arith)
value_combined q c x [] (y ∷ ys) [] m n h = absurd (omega arith)
value_combined q c x [] (y ∷ ys) (z ∷ zs) m n h = absurd (omega arith)
value_combined q c x (u ∷ xs) [] [] m n h = absurd (omega arith)
value_combined q c x (u ∷ xs) [] (z ∷ zs) m n h = absurd (omega arith)
value_combined q c x (u ∷ xs) (y ∷ ys) [] m n h = absurd (omega arith)
value_combined q c x (u ∷ xs) (y ∷ ys) (z ∷ zs) m n h =
    add_congruent q z (u + c * y) (x * value zs x) (x * (value xs x + c * value ys x)) (h 0) (times_congruent q x (value zs x) (value xs x + c * value ys x) (value_combined q c x xs ys zs (omega arith) (omega arith) (λ i. h (suc i))))
    ∙ ap (λ z. z % q) (spread u c y x (value xs x) (value ys x))
  where
    spread : (u c y x a b : ℕ) → (u + c * y) + x * (a + c * b) ≡ (u + x * a) + c * (y + x * b)
    spread u c y x a b = omega arith

-- where x to the power of the half is c, the combination has the value of the whole
pub value_half : (q c x : ℕ) (xs ys zs : List ℕ) → length xs ≡ length zs → length ys ≡ length zs → Combines q c xs ys zs → x ^ length xs % q ≡ c % q → value zs x % q ≡ value (xs ++ ys) x % q
value_half q c x xs ys zs m n h e = value_combined q c x xs ys zs m n h ∙ add_congruent q (value xs x) (value xs x) (c * value ys x) (x ^ length xs * value ys x) (λ i. value xs x % q) (mul_congruent q c (x ^ length xs) (value ys x) (value ys x) (sym e) (λ i. value ys x % q)) ∙ ap (λ z. z % q) (sym (value-append xs ys x))

-- xs + c ys, for lists of one length
abbrev pub combined : ℕ → List ℕ → List ℕ → List ℕ
combined c [] ys = []
combined c (x ∷ xs) [] = x ∷ xs
combined c (x ∷ xs) (y ∷ ys) = (x + c * y) ∷ combined c xs ys

pub length-combined : (c : ℕ) (xs ys : List ℕ) → length xs ≡ length ys → length (combined c xs ys) ≡ length xs
length-combined c [] ys e = refl
length-combined c (x ∷ xs) [] e = refl
length-combined c (x ∷ xs) (y ∷ ys) e = ap suc (length-combined c xs ys (omega arith))

pub get_or-combined : (c : ℕ) (xs ys : List ℕ) (i : ℕ) → length xs ≡ length ys → get_or (combined c xs ys) i 0 ≡ get_or xs i 0 + c * get_or ys i 0
get_or-combined c [] [] i e = none c
  where
    none : (c : ℕ) → 0 ≡ 0 + c * 0
    none c = omega arith
get_or-combined c [] (y ∷ ys) i e = absurd (omega arith)
get_or-combined c (x ∷ xs) [] i e = absurd (omega arith)
get_or-combined c (x ∷ xs) (y ∷ ys) zero e = refl
get_or-combined c (x ∷ xs) (y ∷ ys) (suc i) e = get_or-combined c xs ys i (omega arith)
