-- Paths along links, and ascending lists.
use Rattle.std.proofs.Common.{◌≡◌, ◌≢◌, ℕ, suc, ◌+◌, ◌<◌, ◌≤◌, List, [], ◌∷◌, ◌++◌, length, ◌⊎◌, inl, inr, refl, sym, ap, subst, ◌∙◌, arith}
use Rattle.use_chain.specs.Rings.{Path, Rising, IsIn}
use Rattle.use_chain.proofs.Links.{Relinks}

-- ---- membership

pub IsIn-append_left : (k : ℕ) (xs ys : List ℕ) → IsIn k xs → IsIn k (xs ++ ys)
IsIn-append_left k [] ys h = absurd h
IsIn-append_left k (x ∷ xs) ys (inl e) = inl e
IsIn-append_left k (x ∷ xs) ys (inr h) = inr (IsIn-append_left k xs ys h)

pub IsIn-append_right : (k : ℕ) (xs ys : List ℕ) → IsIn k ys → IsIn k (xs ++ ys)
IsIn-append_right k [] ys h = h
IsIn-append_right k (x ∷ xs) ys h = inr (IsIn-append_right k xs ys h)

pub IsIn-append_cases : (k : ℕ) (xs ys : List ℕ) → IsIn k (xs ++ ys) → IsIn k xs ⊎ IsIn k ys
IsIn-append_cases k [] ys h = inr h
IsIn-append_cases k (x ∷ xs) ys (inl e) = inl (inl e)
IsIn-append_cases k (x ∷ xs) ys (inr h) = elim (IsIn-append_cases k xs ys h) [ inl i ↦ inl (inr i) | inr i ↦ inr i ]

-- an element of a list with one more in the middle
pub IsIn-middle : (k x : ℕ) (l r : List ℕ) → IsIn k (l ++ r) → IsIn k (l ++ x ∷ r)
IsIn-middle k x l r h = elim (IsIn-append_cases k l r h) [ inl i ↦ IsIn-append_left k l (x ∷ r) i | inr i ↦ IsIn-append_right k l (x ∷ r) (inr i) ]

pub IsIn-middle_cases : (k x : ℕ) (l r : List ℕ) → IsIn k (l ++ x ∷ r) → (k ≡ x) ⊎ IsIn k (l ++ r)
IsIn-middle_cases k x l r h = elim (IsIn-append_cases k l (x ∷ r) h) [
  | inl i ↦ inr (IsIn-append_left k l r i)
  | inr i ↦ elim i [ inl e ↦ inl e | inr j ↦ inr (IsIn-append_right k l r j) ]
]

-- ---- ascending lists

pub rising_low : (low high k : ℕ) (xs : List ℕ) → Rising low xs high → IsIn k xs → low ≤ k
rising_low low high k [] r h = absurd h
rising_low low high k (x ∷ xs) r (inl e) = omega (arith, r.0, e)
rising_low low high k (x ∷ xs) r (inr h) = omega (arith, r.0, rising_low (suc x) high k xs r.2 h)

pub rising_high : (low high k : ℕ) (xs : List ℕ) → Rising low xs high → IsIn k xs → k < high
rising_high low high k [] r h = absurd h
rising_high low high k (x ∷ xs) r (inl e) = omega (arith, r.1, e)
rising_high low high k (x ∷ xs) r (inr h) = rising_high (suc x) high k xs r.2 h

pub rising_from : (low low' high : ℕ) (xs : List ℕ) → low ≤ low' → Rising low' xs high → Rising low xs high
rising_from low low' high [] le r = tt
rising_from low low' high (x ∷ xs) le r = (omega (arith, r.0), r.1, r.2)

pub rising_right : (low high : ℕ) (l r : List ℕ) → Rising low (l ++ r) high → Rising low r high
rising_right low high [] r h = h
rising_right low high (x ∷ l) r h = rising_from low (suc x) high r (omega (arith, h.0)) (rising_right (suc x) high l r h.2)

-- what stands after x is above it
pub rising_after : (low high x : ℕ) (l r : List ℕ) → Rising low (l ++ x ∷ r) high → Rising (suc x) r high
rising_after low high x l r h = (rising_right low high l (x ∷ r) h).2

-- what stands before x is below it
pub rising_before : (low high x : ℕ) (l r : List ℕ) → Rising low (l ++ x ∷ r) high → Rising low l x
rising_before low high x [] r h = tt
rising_before low high x (k ∷ l) r h = (h.0, rising_low (suc k) high x (l ++ x ∷ r) h.2 (IsIn-append_right x l (x ∷ r) (inl refl)), rising_before (suc k) high x l r h.2)

pub rising_without : (low high x : ℕ) (l r : List ℕ) → Rising low (l ++ x ∷ r) high → Rising low (l ++ r) high
rising_without low high x [] r h = rising_from low (suc x) high r (omega (arith, h.0)) h.2
rising_without low high x (k ∷ l) r h = (h.0, h.1, rising_without (suc k) high x l r h.2)

-- two ascending lists, of which the second begins where the first ends
pub rising_join : (low mid high : ℕ) (l r : List ℕ) → low ≤ mid → mid ≤ high → Rising low l mid → Rising mid r high → Rising low (l ++ r) high
rising_join low mid high [] r le lh a b = rising_from low mid high r le b
rising_join low mid high (k ∷ l) r le lh a b = (a.0, omega (arith, a.1), rising_join (suc k) mid high l r (omega (arith, a.1)) lh a.2 b)

pub rising-length : (low high : ℕ) (xs : List ℕ) → low ≤ high → Rising low xs high → low + length xs ≤ high
rising-length low high [] le r = omega arith
rising-length low high (x ∷ xs) le r = omega (arith, rising-length (suc x) high xs (omega (arith, r.1)) r.2, r.0)

-- ---- paths

-- the first element, or z where there is none
abbrev pub head_or : ℕ → List ℕ → ℕ
head_or z [] = z
head_or z (k ∷ ks) = k

-- links that are the same along a path have the path
pub path_frame : (f g f' g' : ℕ → ℕ) (a z : ℕ) (ks : List ℕ) → ((k : ℕ) → (k ≡ a) ⊎ IsIn k ks → f' k ≡ f k) → ((k : ℕ) → (k ≡ z) ⊎ IsIn k ks → g' k ≡ g k) → Path f g a ks z → Path f' g' a ks z
path_frame f g f' g' a z [] sf sg p = (sf a (inl refl) ∙ p.0, sg z (inl refl) ∙ p.1)
path_frame f g f' g' a z (x ∷ ks) sf sg p = (
  sf a (inl refl) ∙ p.0,
  sg x (inr (inl refl)) ∙ p.1,
  path_frame f g f' g' x z ks (λ k h. sf k (inr h)) (λ k h. elim h [ inl e ↦ sg k (inl e) | inr i ↦ sg k (inr (inr i)) ]) p.2,
)

-- the two parts of a path through x
pub path_to : (f g : ℕ → ℕ) (a x z : ℕ) (l r : List ℕ) → Path f g a (l ++ x ∷ r) z → Path f g a l x
path_to f g a x z [] r p = (p.0, p.1)
path_to f g a x z (k ∷ l) r p = (p.0, p.1, path_to f g k x z l r p.2)

pub path_on : (f g : ℕ → ℕ) (a x z : ℕ) (l r : List ℕ) → Path f g a (l ++ x ∷ r) z → Path f g x r z
path_on f g a x z [] r p = p.2
path_on f g a x z (k ∷ l) r p = path_on f g k x z l r p.2

-- the first part of a path, which ends where the second begins
pub path_front : (f g : ℕ → ℕ) (a z : ℕ) (l r : List ℕ) → Path f g a (l ++ r) z → Path f g a l (head_or z r)
path_front f g a z [] [] p = p
path_front f g a z [] (k ∷ r) p = (p.0, p.1)
path_front f g a z (k ∷ l) r p = (p.0, p.1, path_front f g k z l r p.2)

-- the links at the end of a path
pub path_end : (f g : ℕ → ℕ) (a z : ℕ) (ks : List ℕ) → Path f g a ks z → f (g z) ≡ z
path_end f g a z [] p = ap f p.1 ∙ p.0
path_end f g a z (k ∷ ks) p = path_end f g k z ks p.2

-- the node before the end, and the one after the start
pub path_last : (f g : ℕ → ℕ) (a z : ℕ) (ks : List ℕ) → Path f g a ks z → (g z ≡ a) ⊎ IsIn (g z) ks
path_last f g a z [] p = inl p.1
path_last f g a z (k ∷ ks) p = elim (path_last f g k z ks p.2) [ inl e ↦ inr (inl e) | inr h ↦ inr (inr h) ]

pub path_first : (f g : ℕ → ℕ) (a z : ℕ) (ks : List ℕ) → Path f g a ks z → f a ≡ head_or z ks
path_first f g a z [] p = p.0
path_first f g a z (k ∷ ks) p = p.0

pub head_or_cases : (z : ℕ) (ks : List ℕ) → (head_or z ks ≡ z) ⊎ IsIn (head_or z ks) ks
head_or_cases z [] = inl refl
head_or_cases z (k ∷ ks) = inr (inl refl)

-- a path without x, where the node before x was linked with the one after it
pub path_cut : (f g f' g' : ℕ → ℕ) (low high a x z : ℕ) (l r : List ℕ) → Relinks f g f' g' (g x) (f x) → Rising low (l ++ x ∷ r) high → high ≤ z → ((k : ℕ) → IsIn k (l ++ x ∷ r) → k ≢ a) → Path f g a l x → Path f g x r z → Path f' g' a (l ++ r) z
path_cut f g f' g' low high a x z [] [] link rise hz fresh p q =
    (ap f' (sym p.1) ∙ link.ahead ∙ q.0, ap g' (sym q.0) ∙ link.back ∙ p.1)
path_cut f g f' g' low high a x z [] (y ∷ ys) link rise hz fresh p q = (
  ap f' (sym p.1) ∙ link.ahead ∙ q.0,
  ap g' (sym q.0) ∙ link.back ∙ p.1,
  path_frame f g f' g' y z ys
      (λ k h. link.other_ahead k (λ e. fresh k (inr h) (e ∙ p.1)))
      (λ k h. link.other_back k (λ e. let at_y : k ≡ y = e ∙ q.0 in
      elim h [ inl ez ↦ omega (arith, at_y, ez, hz, rise.2.1) | inr i ↦ omega (arith, at_y, rising_low (suc y) high k ys rise.2.2 i) ]))
      q.2,
)
path_cut f g f' g' low high a x z (b ∷ l) r link rise hz fresh p q =
    let x_above : suc b ≤ x = rising_low (suc b) high x (l ++ x ∷ r) rise.2 (IsIn-append_right x l (x ∷ r) (inl refl)) in
    let after_x : f x ≡ head_or z r = path_first f g x z r q in (
      link.other_ahead a (λ e. let same : b ≡ x = sym p.0 ∙ ap f e ∙ path_end f g b x l p.2 in omega (arith, same, x_above)) ∙ p.0,
      link.other_back b (λ e. let same : b ≡ head_or z r = e ∙ after_x in
          elim (head_or_cases z r) [
            | inl ez ↦ omega (arith, same, ez, hz, rise.1)
            | inr i ↦ omega (arith, same, rising_low (suc x) high (head_or z r) r (rising_after (suc b) high x l r rise.2) i, x_above)
          ]) ∙ p.1,
      path_cut f g f' g' (suc b) high b x z l r link rise.2 hz (λ k h e. omega (arith, e, rising_low (suc b) high k (l ++ x ∷ r) rise.2 h)) p.2 q,
    )

-- a path with x, which was put before the node at
pub path_put : (f g f₁ g₁ f₂ g₂ : ℕ → ℕ) (low high a x z at : ℕ) (l r : List ℕ) → at ≡ head_or z r → Relinks f g f₁ g₁ (g at) x → Relinks f₁ g₁ f₂ g₂ x at → Rising low (l ++ x ∷ r) high → high ≤ z → ((k : ℕ) → IsIn k (l ++ x ∷ r) → k ≢ a) → Path f g a (l ++ r) z → Path f₂ g₂ a (l ++ x ∷ r) z
path_put f g f₁ g₁ f₂ g₂ low high a x z at [] [] is_at one two rise hz fresh p =
    let before : g at ≡ a = ap g is_at ∙ p.1 in (
      two.other_ahead a (λ e. fresh x (inl refl) (sym e)) ∙ ap f₁ (sym before) ∙ one.ahead,
      two.other_back x (λ e. omega (arith, e, is_at, hz, rise.1)) ∙ one.back ∙ before,
      (two.ahead ∙ is_at, ap g₂ (sym is_at) ∙ two.back),
    )
path_put f g f₁ g₁ f₂ g₂ low high a x z at [] (y ∷ ys) is_at one two rise hz fresh p =
    let before : g at ≡ a = ap g is_at ∙ p.1 in (
      two.other_ahead a (λ e. fresh x (inl refl) (sym e)) ∙ ap f₁ (sym before) ∙ one.ahead,
      two.other_back x (λ e. omega (arith, e, is_at, rise.2.0)) ∙ one.back ∙ before,
      (
        two.ahead ∙ is_at,
        ap g₂ (sym is_at) ∙ two.back,
        path_frame f g f₂ g₂ y z ys
            (λ k h. two.other_ahead k (λ e. omega (arith, e, rising_low (suc x) high k (y ∷ ys) rise.2 h))
            ∙ one.other_ahead k (λ e. fresh k (inr h) (e ∙ before)))
            (λ k h. elim h [
              | inl ez ↦ two.other_back k (λ e. omega (arith, e, ez, is_at, hz, rise.2.1)) ∙ one.other_back k (λ e. omega (arith, e, ez, hz, rise.1))
              | inr i ↦ let above = rising_low (suc y) high k ys rise.2.2 i in
                  two.other_back k (λ e. omega (arith, e, is_at, above)) ∙ one.other_back k (λ e. omega (arith, e, above, rise.2.0))
            ])
            p.2,
      ),
    )
path_put f g f₁ g₁ f₂ g₂ low high a x z at (b ∷ l) r is_at one two rise hz fresh p =
    let x_above : suc b ≤ x = rising_low (suc b) high x (l ++ x ∷ r) rise.2 (IsIn-append_right x l (x ∷ r) (inl refl)) in
    let not_at : b ≢ at = λ e. elim (head_or_cases z r) [
      | inl ez ↦ omega (arith, e, is_at, ez, hz, rise.1)
      | inr i ↦ omega (arith, e, is_at, rising_low (suc x) high (head_or z r) r (rising_after (suc b) high x l r rise.2) i, x_above)
    ] in
    let ends : f (g at) ≡ at = subst (λ n. f (g n) ≡ n) (sym is_at) (path_end f g b (head_or z r) l (path_front f g b z l r p.2)) in (
      two.other_ahead a (λ e. fresh x (IsIn-append_right x (b ∷ l) (x ∷ r) (inl refl)) (sym e))
          ∙ one.other_ahead a (λ e. not_at (sym p.0 ∙ ap f e ∙ ends)) ∙ p.0,
      two.other_back b not_at ∙ one.other_back b (λ e. omega (arith, e, x_above)) ∙ p.1,
      path_put f g f₁ g₁ f₂ g₂ (suc b) high b x z at l r is_at one two rise.2 hz (λ k h e. omega (arith, e, rising_low (suc b) high k (l ++ x ∷ r) rise.2 h)) p.2,
    )
