-- A list cut into groups.
use Rattle.std.specs.Prelude.{◌≡◌, ℕ, ◌+◌, ◌<◌, ◌≤◌, List, [], ◌∷◌, length, get_or, take, drop}
use Rattle.std.specs.List.{flat_map}

-- the list in pieces of the given sizes; the last piece may be shorter, and later ones are missing
unfoldable pub groups : {X : Type 0} → List ℕ → List X → List (List X)
groups [] xs = []
groups (n ∷ sizes) [] = []
groups (n ∷ sizes) (x ∷ xs) = take n (x ∷ xs) ∷ groups sizes (drop n (x ∷ xs))

-- gs are those pieces: they join to the list, none is empty, and each but the last has its full size
pub record IsGroups {X : Type 0} (sizes : List ℕ) (xs : List X) (gs : List (List X)) : Type 0 where
  pub joined : flat_map (λ g. g) gs ≡ xs
  pub some : (j : ℕ) → j < length gs → 0 < length (get_or gs j [])
  pub fits : (j : ℕ) → j < length gs → length (get_or gs j []) ≤ get_or sizes j 0
  pub full : (j : ℕ) → j + 1 < length gs → length (get_or gs j []) ≡ get_or sizes j 0
