-- Bounds of the entries of rows and their halves.
use Rattle.std.proofs.Common.{◌≡◌, ℕ, zero, suc, ◌+◌, ◌-◌, ◌*◌, ◌/◌, ◌^◌, ◌<◌, ◌≤◌, List, ◌++◌, length, take, drop, get_or, sym, ◌∙◌, ap, subst, arith, inl, inr, All}
use Rattle.std.proofs.lemmas.List.{get_or_append_left, get_or-append_right, get_or-take, get_or-drop, get_or_past, length-take}
use Rattle.std.proofs.lemmas.Bool.{cases_lt}
use Rattle.std.proofs.Math.Nat.{pow-succ'}
use Rattle.two_power.specs.Tree.{EachBelow}

pub some_bound : (b : ℕ) (xs : List ℕ) → EachBelow b xs → 0 < b
some_bound b xs h = let e = get_or_past xs (length xs) 0 (omega arith) in let l = h (length xs) in omega arith

pub both_below : (b : ℕ) (xs ys : List ℕ) → EachBelow b xs → EachBelow b ys → EachBelow b (xs ++ ys)
both_below b xs ys h k i = elim (cases_lt i (length xs)) [
  | inl l ↦ let e = get_or_append_left xs ys 0 i l in let f = h i in omega arith
  | inr l ↦ let e = get_or-append_right xs ys (length xs) i 0 (λ _. length xs) l in let f = k (i - length xs) in omega arith
]

pub front_below : (b n : ℕ) (xs ys : List ℕ) → EachBelow b xs → ys ≡ take n xs → EachBelow b ys
front_below b n xs ys h e = subst (EachBelow b) (sym e) (λ i. at i)
  where
    at : (i : ℕ) → get_or (take n xs) i 0 < b
    at i = elim (cases_lt i n) [
      | inl l ↦ let f = get_or-take n xs i 0 l in let g = h i in omega arith
      | inr l ↦ let f = get_or_past (take n xs) i 0 (omega (arith, length-take n xs)) in let g = some_bound b xs h in omega arith
    ]

pub back_below : (b n : ℕ) (xs ys : List ℕ) → EachBelow b xs → ys ≡ drop n xs → EachBelow b ys
back_below b n xs ys h e = subst (EachBelow b) (sym e) (λ i. let f = get_or-drop n xs i 0 in let g = h (n + i) in omega arith)

-- the half of a power of two
pub half_is : (levels n : ℕ) → 0 < levels → n ≡ 2 ^ levels → n / 2 ≡ 2 ^ (levels - 1)
half_is zero n l e = absurd (omega arith)
half_is (suc k) n l e = half (2 ^ k) n (e ∙ pow-succ' 2 k) ∙ ap (λ z. 2 ^ z) (back k)
  where
    half : (p n : ℕ) → n ≡ 2 * p → n / 2 ≡ p
    half p n e = omega arith

    back : (k : ℕ) → k ≡ suc k - 1
    back k = omega arith

pub each_from_all : (q b : ℕ) (xs : List ℕ) → 0 < b → q ≤ b → All (λ a. a < q) xs → EachBelow b xs
each_from_all q b xs some m h i = elim (cases_lt i (length xs)) [ inl l ↦ let e = h i 0 l in omega arith | inr l ↦ let e = get_or_past xs i 0 l in omega arith ]
