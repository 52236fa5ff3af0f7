-- Sums of balanced digits: their range, that each number of the range is one, and in one way.
use Rattle.std.specs.Prelude.{◌≡◌, ℕ, ◌+◌, ◌*◌, ◌%◌, ◌<◌, ◌≤◌, All, List, [], ◌∷◌, get_or, ℤ, pos, negsuc, ◌+ℤ◌, ◌*ℤ◌, nat_abs, refl}
use Rattle.std.specs.List.{AllZip}
use Rattle.std.proofs.Common.{arith, sym, ◌∙◌, ap, ap₂, subst, inl, inr}
use Rattle.std.proofs.lemmas.Bool.{cases_lt}
use Rattle.std.proofs.Math.Nat.{mul-le-mul_left, le_of_mul-le-mul_left}
use Rattle.std.proofs.lemmas.Nat.{mul-mod}
use Rattle.std.proofs.lemmas.List.{get_or_default}
use Rattle.std.proofs.lemmas.List.Elements.{All-nil, All-cons, All-head, All-tail}
use borrow.Author.Differences.{up, down, same_in, sum_is_lem, product_is}
use Rattle.algebra.specs.Divisor.{HasInverse}
use Rattle.algebra.specs.Whole.{residue, balanced, IsBalanced, SameModulo, product_of, AreInvertible}
use Rattle.algebra.proofs.Balanced.{balanced_is}
use Rattle.algebra.proofs.Chinese.{inverse_of_residue, product_positive, same_product}
use Rattle.algebra.proofs.WholeResidues.{same_residue, same_modulo}
use Rattle.mixed_radix.specs.Basis.{Basis, IsBasis}
use Rattle.mixed_radix.specs.Mixed.{mixed, AreBalanced, AreDigits}
use Rattle.mixed_radix.proofs.Sizes.{abs_sum, abs_less, abs_multiple, small_same, balanced_odd}

pub mixed_small : (qs : List ℕ) (vs : List ℤ) → AreBalanced qs vs → 2 * nat_abs (mixed qs vs) < product_of qs
mixed_small [] [] h = omega arith
mixed_small [] (v ∷ vs) h = absurd h
mixed_small (q ∷ qs) [] h = absurd h
mixed_small (q ∷ qs) (v ∷ vs) h = step (nat_abs v) (nat_abs (mixed qs vs)) (product_of qs) (nat_abs (v +ℤ pos q *ℤ mixed qs vs)) (nat_abs (pos q *ℤ mixed qs vs)) (abs_sum v (pos q *ℤ mixed qs vs)) (abs_multiple q (mixed qs vs)) h.0 (mixed_small qs vs h.1)
  where
    step : (a m p s t : ℕ) → s ≤ a + t → t ≡ q * m → 2 * a < q → 2 * m < p → 2 * s < q * p
    step a m p s t l e k n = let more : 2 * m + 1 ≤ p = omega arith in omega (arith, mul-le-mul_left q more)

product_odd : (qs : List ℕ) → All (λ q. q % 2 ≡ 1) qs → product_of qs % 2 ≡ 1
product_odd [] h = refl
product_odd (q ∷ qs) h = mul-mod q (product_of qs) 2 ∙ ap₂ (λ a b. (a * b) % 2) (All-head (λ q. q % 2 ≡ 1) q qs h) (product_odd qs (All-tail (λ q. q % 2 ≡ 1) q qs h))

-- what is left of a number after its first digit is small again
rest_small : (q p x a k t : ℕ) → p % 2 ≡ 1 → 2 * x < q * p → 2 * a < q → t ≡ q * k → t ≤ x + a → 2 * k < p
rest_small q p x a k t odd l m e n = elim (cases_lt (2 * k) p) [ inl h ↦ h | inr h ↦ absurd (over h) ]
  where
    over : p ≤ 2 * k → ⊥
    over h = let more : p + 1 ≤ 2 * k = omega arith in omega (arith, mul-le-mul_left q more)

some_more : (q : ℕ) (qs : List ℕ) → q % 2 ≡ 1 → All (λ q. q % 2 ≡ 1) qs → (x : ℤ) → 2 * nat_abs x < q * product_of qs → ((k : ℤ) → 2 * nat_abs k < product_of qs → (vs : List ℤ) × AreBalanced qs vs × (mixed qs vs ≡ k)) → (vs : List ℤ) × AreBalanced (q ∷ qs) vs × (mixed (q ∷ qs) vs ≡ x)
some_more q qs odd odds x l rest = from (balanced_is q (omega arith) x)
  where
    v : ℤ
    v = balanced q x

    from : IsBalanced q x v → (vs : List ℤ) × AreBalanced (q ∷ qs) vs × (mixed (q ∷ qs) vs ≡ x)
    from B = go B.same
      where
        small : 2 * nat_abs v < q
        small = balanced_odd q odd v B.low B.high

        go : SameModulo q x v → (vs : List ℤ) × AreBalanced (q ∷ qs) vs × (mixed (q ∷ qs) vs ≡ x)
        go (k, e) = put (rest k (rest_small q (product_of qs) (nat_abs x) (nat_abs v) (nat_abs k) (nat_abs (pos q *ℤ k)) (product_odd qs odds) l small (abs_multiple q k) (subst (λ z. nat_abs (pos q *ℤ k) ≤ nat_abs z + nat_abs v) (sym e) (abs_less (pos q *ℤ k) v))))
          where
            put : (vs : List ℤ) × AreBalanced qs vs × (mixed qs vs ≡ k) → (vs : List ℤ) × AreBalanced (q ∷ qs) vs × (mixed (q ∷ qs) vs ≡ x)
            put (vs, b, f) = (v ∷ vs, (small, b), ap (λ z. v +ℤ pos q *ℤ z) f ∙ sym e)

pub mixed_some : (qs : List ℕ) → All (λ q. q % 2 ≡ 1) qs → (x : ℤ) → 2 * nat_abs x < product_of qs → (vs : List ℤ) × AreBalanced qs vs × (mixed qs vs ≡ x)
mixed_some [] h (pos n) l = ([], tt, ap pos (omega arith))
mixed_some [] h (negsuc n) l = absurd (omega arith)
mixed_some (q ∷ qs) h x l = some_more q qs (All-head (λ q. q % 2 ≡ 1) q qs h) (All-tail (λ q. q % 2 ≡ 1) q qs h) x l (mixed_some qs (All-tail (λ q. q % 2 ≡ 1) q qs h))

multiple_cancel : (q : ℕ) → 0 < q → (v m n : ℤ) → v +ℤ pos q *ℤ m ≡ v +ℤ pos q *ℤ n → m ≡ n
multiple_cancel q p v m n e = same_in m n (same (up m + down n) (up n + down m) (omega (arith, sum_is_lem v (pos q *ℤ m), sum_is_lem v (pos q *ℤ n), product_is (pos q) m, product_is (pos q) n, ap up e, ap down e)))
  where
    same : (a b : ℕ) → q * a ≡ q * b → a ≡ b
    same a b f = let low : a ≤ b = le_of_mul-le-mul_left (omega arith) p in let high : b ≤ a = le_of_mul-le-mul_left (omega arith) p in omega arith

pub first_residue : (q : ℕ) → 0 < q → (v m : ℤ) → residue q (v +ℤ pos q *ℤ m) ≡ residue q v
first_residue q p v m = same_residue q p (v +ℤ pos q *ℤ m) v (m, refl)

pub mixed_one : (qs : List ℕ) (vs ws : List ℤ) → AreBalanced qs vs → AreBalanced qs ws → mixed qs vs ≡ mixed qs ws → vs ≡ ws
mixed_one [] [] [] h k e = refl
mixed_one [] [] (w ∷ ws) h k e = absurd k
mixed_one [] (v ∷ vs) ws h k e = absurd h
mixed_one (q ∷ qs) [] ws h k e = absurd h
mixed_one (q ∷ qs) (v ∷ vs) [] h k e = absurd k
mixed_one (q ∷ qs) (v ∷ vs) (w ∷ ws) h k e = ap₂ (λ x xs. x ∷ xs) first (mixed_one qs vs ws h.1 k.1 (multiple_cancel q p v (mixed qs vs) (mixed qs ws) (e ∙ ap (λ z. z +ℤ pos q *ℤ mixed qs ws) (sym first))))
  where
    p : 0 < q
    p = omega (arith, h.0)

    first : v ≡ w
    first = small_same q v w h.0 k.0 (sym (first_residue q p v (mixed qs vs)) ∙ ap (residue q) e ∙ first_residue q p w (mixed qs ws))

pub moduli_positive : (qs : List ℕ) (vs : List ℤ) → AreBalanced qs vs → All (λ q. 0 < q) qs
moduli_positive [] vs h = All-nil (λ q. 0 < q)
moduli_positive (q ∷ qs) [] h = absurd h
moduli_positive (q ∷ qs) (v ∷ vs) h = All-cons (λ q. 0 < q) q qs (omega (arith, h.0)) (moduli_positive qs vs h.1)

same_each_modulus : (qs rs : List ℕ) (a b : ℤ) → All (λ q. 0 < q) qs → AllZip (λ q r. residue q a ≡ r) qs rs → AllZip (λ q r. residue q b ≡ r) qs rs → All (λ q. SameModulo q a b) qs
same_each_modulus [] rs a b h y z = All-nil (λ q. SameModulo q a b)
same_each_modulus (q ∷ qs) [] a b h y z = absurd y
same_each_modulus (q ∷ qs) (r ∷ rs) a b h y z = All-cons (λ q. SameModulo q a b) q qs (same_modulo q (All-head (λ q. 0 < q) q qs h) a b (y.0 ∙ sym z.0)) (same_each_modulus qs rs a b (All-tail (λ q. 0 < q) q qs h) y.1 z.1)

pub digits_value : (qs rs : List ℕ) (vs : List ℤ) (x : ℤ) → AreInvertible qs → AreDigits qs rs vs → AllZip (λ q r. residue q x ≡ r) qs rs → 2 * nat_abs x < product_of qs → mixed qs vs ≡ x
digits_value qs rs vs x m D h l = small_same (product_of qs) (mixed qs vs) x (mixed_small qs vs D.balanced) l (same_residue (product_of qs) (product_positive qs positive) (mixed qs vs) x (same_product qs (mixed qs vs) x m (same_each_modulus qs rs (mixed qs vs) x positive D.residues h)))
  where
    positive : All (λ q. 0 < q) qs
    positive = moduli_positive qs vs D.balanced

pub digits_only : (qs rs : List ℕ) (vs ws : List ℤ) → AreInvertible qs → AreDigits qs rs vs → AreDigits qs rs ws → vs ≡ ws
digits_only qs rs vs ws m D E = mixed_one qs vs ws D.balanced E.balanced (digits_value qs rs vs (mixed qs ws) m D E.residues (mixed_small qs ws E.balanced))

pub basis_invertible : (b : Basis) → IsBasis b → AreInvertible b.moduli
basis_invertible b B i j d l m = subst (λ z. HasInverse z (get_or b.moduli i d)) (get_or_default b.moduli j 0 d m) (subst (λ z. HasInverse (get_or b.moduli j 0) z) (get_or_default b.moduli i 0 d (omega arith)) (inverse_of_residue (get_or b.moduli j 0) (get_or b.moduli i 0) (get_or (get_or b.inverse j []) i 0) (omega (arith, (B.range j 0 m).0)) (B.right i j l m).one))
