-- Steps of the loop that combines elements.
use Rattle.std.specs.Prelude.{◌≡◌, ℕ, ◌+◌, ◌*◌, ◌%◌, ◌^◌, ◌<◌, ◌≤◌, ◌⊎◌, List, [], ◌++◌, map, length, get_or, take, drop}
use Rattle.std.specs.List.{All}
use Rattle.std.proofs.Common.{sym, ◌∙◌, ap, ap₂, subst, inl, inr, arith, add-one}
use Rattle.std.proofs.lemmas.Bool.{cases_lt}
use Rattle.std.proofs.lemmas.List.{map-id, drop_all, take_all, append-nil, get_or_default, get_or_past}
use Rattle.std.proofs.Math.Nat.{mul-le-mul}
use Rattle.algebra.specs.Range.{total, counts}
use Rattle.ext_field.specs.Element.{Extension, IsMonicFactor, IsElement, degree}
use Rattle.ext_field.specs.Combination.{combination}
use Rattle.ext_field.proofs.Linear.{combination_in, combination_is}

-- a slice that was the whole list
pub whole_slice : (s r : List ℕ) (n : ℕ) → length s ≡ length r → n ≡ length r → take n (s ++ drop (length s) r) ≡ s
whole_slice s r n e h = ap₂ (λ k z. take k (s ++ z)) (h ∙ sym e) (drop_all (length s) r (omega (arith, e))) ∙ ap (take (length s)) (append-nil s) ∙ take_all (length s) s (omega arith)

-- the sums of the first n rows times their factors
abbrev pub AreSums : List ℕ → List (List ℕ) → ℕ → List ℕ → Type 0
AreSums factors rows n sums = (c : ℕ) → get_or sums c 0 ≡ total counts n (λ i. get_or factors i 0 * get_or (get_or rows i []) c 0)

pub sums_more : (factors : List ℕ) (rows : List (List ℕ)) (j : ℕ) (row old new : List ℕ) → j < length rows → row ≡ get_or rows j row → ((c : ℕ) → get_or new c 0 ≡ get_or old c 0 + get_or factors j 0 * get_or row c 0) → AreSums factors rows j old → AreSums factors rows (j + 1) new
sums_more factors rows j row old new l e h s c = h c ∙ ap₂ (λ y z. y + get_or factors j 0 * get_or z c 0) (s c) (e ∙ get_or_default rows j row [] l) ∙ ap (λ n. total counts n (λ i. get_or factors i 0 * get_or (get_or rows i []) c 0)) (sym (add-one j))

pub small_at : (B : ℕ) (xs : List ℕ) → 0 < B → All (λ c. c < B) xs → (c : ℕ) → get_or xs c 0 < B
small_at B xs p h c = go (cases_lt c (length xs))
  where
    go : (c < length xs) ⊎ (length xs ≤ c) → get_or xs c 0 < B
    go (inl l) = h c 0 l
    go (inr l) = subst (λ z. z < B) (sym (get_or_past xs c 0 l)) p

pub product_small : (x y : ℕ) → x < 2 ^ 17 → y < 2 ^ 17 → x * y ≤ 2 ^ 34
product_small x y h k = omega (arith, mul-le-mul (let a : x ≤ 2 ^ 17 = omega arith in a) (let b : y ≤ 2 ^ 17 = omega arith in b))

-- what the code ends with
pub combined_value : (f : Extension) → IsMonicFactor f → (factors : List ℕ) (rows : List (List ℕ)) (n p : ℕ) (sums new last : List ℕ) → last ≡ new → length factors ≤ n → n ≤ length factors → length factors ≤ length rows → All (λ a. IsElement f a) rows → AreSums factors rows n sums → p ≡ f.p → ((i : ℕ) → get_or new i 0 ≡ get_or sums i 0 % p) → length new ≡ degree f → map (λ c. c) last ≡ combination f factors rows
combined_value f F factors rows n p sums new last last_is a b long rows_in s p_is h e = map-id last ∙ last_is ∙ combination_is f F factors rows long rows_in new e (λ j. h j ∙ ap₂ (λ y z. y % z) (s j ∙ ap (λ k. total counts k (λ i. get_or factors i 0 * get_or (get_or rows i []) j 0)) (let d : n ≡ length factors = omega arith in d)) p_is)

pub combined_in : (f : Extension) → IsMonicFactor f → (factors : List ℕ) (rows : List (List ℕ)) (v : List ℕ) → length factors ≤ length rows → All (λ a. IsElement f a) rows → v ≡ combination f factors rows → IsElement f v
combined_in f F factors rows v long rows_in e = subst (IsElement f) (sym e) (combination_in f F factors rows long rows_in)
