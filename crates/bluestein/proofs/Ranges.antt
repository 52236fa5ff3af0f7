-- The list of the numbers below n, and lists made over it.
use Rattle.std.proofs.Common.{◌≡◌, ℕ, zero, suc, ◌+◌, ◌<◌, List, [], ◌∷◌, ◌++◌, map, length, get_or, refl, sym, ◌∙◌, ap, subst, arith, inl, inr, length-append, set, drop, All}
use Rattle.std.proofs.lemmas.List.{get_or_append_left, get_or_at, get_or-map, length-map, ext_get_or, get_or-set_same, get_or-set_other, get_or-drop, length-drop}
use Rattle.std.proofs.lemmas.Bool.{cases_eq}
use Rattle.algebra.specs.Whole.{below}

pub length-below : (n : ℕ) → length (below n) ≡ n
length-below zero = refl
length-below (suc n) = length-append (below n) (n ∷ []) ∙ ap (λ k. k + 1) (length-below n) ∙ grow n
  where
    grow : (n : ℕ) → n + 1 ≡ suc n
    grow n = omega arith

pub get_or-below : (n i d : ℕ) → i < n → get_or (below n) i d ≡ i
get_or-below zero i d l = absurd (omega arith)
get_or-below (suc n) i d l = elim (cases_eq i n) [
  | inl e ↦ ap (λ k. get_or (below n ++ n ∷ []) k d) e ∙ get_or_at (below n) n [] d n (length-below n) ∙ sym e
  | inr e ↦ get_or_append_left (below n) (n ∷ []) d i (omega (arith, length-below n)) ∙ get_or-below n i d (omega arith)
]

pub get_or-over : {A : Type 0} (f : ℕ → A) (n i : ℕ) (d : A) → i < n → get_or (map f (below n)) i d ≡ f i
get_or-over f n i d l = get_or-map f (below n) i 0 d (omega (arith, length-below n)) ∙ ap f (get_or-below n i 0 l)

pub length-over : {A : Type 0} (f : ℕ → A) (n : ℕ) → length (map f (below n)) ≡ n
length-over f n = length-map (below n) f ∙ length-below n

-- a list with the entries f i is made so
pub made_over : {A : Type 0} (f : ℕ → A) (n : ℕ) (d : A) (xs : List A) → length xs ≡ n → ((i : ℕ) → i < n → get_or xs i d ≡ f i) → xs ≡ map f (below n)
made_over f n d xs e h = ext_get_or d xs (map f (below n)) (e ∙ sym (length-over f n)) (λ i l. let k : i < n = omega (arith, e) in h i k ∙ sym (get_or-over f n i d k))

-- what holds of the entries below i, and of the new one at i
pub entries_more : (P : ℕ → ℕ → Type 0) (us : List ℕ) (i u : ℕ) → i < length us → ((k : ℕ) → k < i → P k (get_or us k 0)) → P i u → (k : ℕ) → k < i + 1 → P k (get_or (set us i u) k 0)
entries_more P us i u l h new k m = elim (cases_eq k i) [
  | inl e ↦ subst (λ z. P z (get_or (set us i u) z 0)) (sym e) (subst (P i) (sym (get_or-set_same us i u 0 l)) new)
  | inr e ↦ subst (P k) (sym (get_or-set_other us i k u 0 e)) (h k (omega arith))
]

pub All_back : (b n : ℕ) (xs ys : List ℕ) → All (λ a. a < b) xs → ys ≡ drop n xs → All (λ a. a < b) ys
All_back b n xs ys h e = subst (All (λ a. a < b)) (sym e) (λ k d l. let f = get_or-drop n xs k d in let g = h (n + k) d (omega (arith, length-drop n xs)) in omega arith)
