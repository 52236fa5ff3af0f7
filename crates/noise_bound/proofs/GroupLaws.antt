-- A list in groups.
use Rattle.std.proofs.Common.{◌≡◌, ℕ, suc, ◌+◌, ◌<◌, ◌≤◌, List, [], ◌∷◌, length, take, drop, get_or, map, fold, refl, ap, ◌∙◌, arith, zero, inl, inr, ◌++◌, sum}
use Rattle.std.proofs.Math.Seq.{drop-cons}
use Rattle.std.proofs.lemmas.List.{take-append-drop, length-drop, length-take}
use Rattle.std.proofs.lemmas.List.Sums.{sum_by-cons}
use Rattle.std.specs.List.{All, flat_map}
use Rattle.noise_bound.specs.Groups.{IsGroups, groups}
use Rattle.noise_bound.proofs.RoundingLaws.{le_or_above}

pub groups-empty : {X : Type 0} (sizes : List ℕ) → groups {X = X} sizes [] ≡ []
unfolding groups
groups-empty [] = refl
groups-empty (n ∷ sizes) = refl

pub groups-cons : {X : Type 0} (n : ℕ) (sizes : List ℕ) (xs : List X) → 0 < length xs
    → groups (n ∷ sizes) xs ≡ take n xs ∷ groups sizes (drop n xs)
unfolding groups
groups-cons n sizes [] some = absurd (omega arith)
groups-cons n sizes (x ∷ xs) some = refl

pub groups-no_sizes : {X : Type 0} (xs : List X) → groups [] xs ≡ []
unfolding groups
groups-no_sizes xs = refl

pub groups-none : {X : Type 0} (sizes : List ℕ) (xs : List X) → length xs ≡ 0 → groups sizes xs ≡ []
groups-none sizes [] none = groups-empty sizes
groups-none sizes (x ∷ xs) none = absurd (omega arith)

-- a fold over the groups, one group on
pub fold-groups : {X Y : Type 0} (f : Y → Y → Y) (h : List X → Y) (a : Y) (digits : List ℕ) (i : ℕ) (xs : List X)
    → i < length digits → 0 < length xs
    → fold f a (map h (groups (drop i digits) xs))
    ≡ fold f (f a (h (take (get_or digits i 0) xs))) (map h (groups (drop (suc i) digits) (drop (get_or digits i 0) xs)))
fold-groups f h a digits i xs in_range some =
    ap (λ sizes. fold f a (map h (groups sizes xs))) (drop-cons digits i 0 in_range)
    ∙ ap (λ gs. fold f a (map h gs)) (groups-cons (get_or digits i 0) (drop (suc i) digits) xs some)

-- ---- what the groups are

sizes_tail : (n : ℕ) (sizes : List ℕ) → All (λ d. 0 < d) (n ∷ sizes) → All (λ d. 0 < d) sizes
sizes_tail n sizes all k d h = all (suc k) d (omega (arith, h))

rest_fits : (n : ℕ) (sizes xs : List ℕ) → length xs ≤ sum (n ∷ sizes) → length (drop n xs) ≤ sum sizes
rest_fits n sizes xs h = omega (arith, h, sum_by-cons (λ x. x) n sizes, length-drop n xs)

groups-joined : (sizes xs : List ℕ) → length xs ≤ sum sizes → flat_map (λ g. g) (groups sizes xs) ≡ xs
groups-joined [] [] h = ap (flat_map (λ g. g)) (groups-no_sizes [])
groups-joined [] (x ∷ xs) h = absurd (omega arith)
groups-joined (n ∷ sizes) [] h = ap (flat_map (λ g. g)) (groups-empty (n ∷ sizes))
groups-joined (n ∷ sizes) (x ∷ xs) h =
    let l : List ℕ = x ∷ xs in
    ap (flat_map (λ g. g)) (groups-cons n sizes l (omega arith))
    ∙ ap (λ z. take n l ++ z) (groups-joined sizes (drop n l) (rest_fits n sizes l h))
    ∙ take-append-drop n l

groups-at : (sizes xs : List ℕ) (j : ℕ) → All (λ d. 0 < d) sizes → j < length (groups sizes xs)
    → (0 < length (get_or (groups sizes xs) j [])) × (length (get_or (groups sizes xs) j []) ≤ get_or sizes j 0)
unfolding groups
groups-at [] xs j all h = absurd (omega arith)
groups-at (n ∷ sizes) [] j all h = absurd (omega arith)
groups-at (n ∷ sizes) (x ∷ xs) zero all h =
    let l : List ℕ = x ∷ xs in
    let size : 0 < n = all 0 0 (omega arith) in
    (omega (arith, length-take n l, size), omega (arith, length-take n l))
groups-at (n ∷ sizes) (x ∷ xs) (suc j) all h =
    groups-at sizes (drop n (x ∷ xs)) j (sizes_tail n sizes all) (omega (arith, h))

groups-full : (sizes xs : List ℕ) (j : ℕ) → j + 1 < length (groups sizes xs) → length (get_or (groups sizes xs) j []) ≡ get_or sizes j 0
unfolding groups
groups-full [] xs j h = absurd (omega arith)
groups-full (n ∷ sizes) [] j h = absurd (omega arith)
groups-full (n ∷ sizes) (x ∷ xs) zero h =
    let l : List ℕ = x ∷ xs in
    elim (le_or_above (length l) n) [
      | inl short ↦
          let none : length (drop n l) ≡ 0 = omega (arith, length-drop n l) in
          absurd (omega (arith, h, ap length (groups-none sizes (drop n l) none)))
      | inr long ↦ omega (arith, length-take n l)
    ]
groups-full (n ∷ sizes) (x ∷ xs) (suc j) h =
    groups-full sizes (drop n (x ∷ xs)) j (omega (arith, h))

pub IsGroups-groups : (sizes xs : List ℕ) → All (λ d. 0 < d) sizes → length xs ≤ sum sizes → IsGroups sizes xs (groups sizes xs)
IsGroups-groups sizes xs all enough = record {
  joined = groups-joined sizes xs enough;
  some = λ j h. (groups-at sizes xs j all h).0;
  fits = λ j h. (groups-at sizes xs j all h).1;
  full = groups-full sizes xs;
}
