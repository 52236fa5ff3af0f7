-- The indices of the slots: a torus D_1 x .. x D_k, numbered row-major, the last dimension fastest; and the units modulo m
-- that stand at them.
use Rattle.std.specs.Prelude.{◌≡◌, ℕ, suc, ◌+◌, ◌*◌, ◌/◌, ◌%◌, ◌^◌, Bool, cond, eqb, List, [], ◌∷◌, map, get_or}
use Rattle.algebra.specs.Whole.{below}

pub record Dimension : Type 0 where
  pub generator : ℕ
  pub size : ℕ

-- how many indices there are
abbrev pub count : List Dimension → ℕ
count [] = 1
count (D ∷ Ds) = D.size * count Ds

-- the number of an index
abbrev pub place : List Dimension → List ℕ → ℕ
place [] e = 0
place (D ∷ Ds) [] = 0
place (D ∷ Ds) (i ∷ e) = i * count Ds + place Ds e

-- the index with a number
abbrev pub index : List Dimension → ℕ → List ℕ
index [] k = []
index (D ∷ Ds) k = ((k / count Ds) % D.size) ∷ index Ds k

-- all indices, in order
abbrev pub indices : List Dimension → List (List ℕ)
indices Ds = map (index Ds) (below (count Ds))

-- the product of the g_i^e_i
abbrev pub generated : List Dimension → List ℕ → ℕ
generated [] e = 1
generated (D ∷ Ds) [] = 1
generated (D ∷ Ds) (i ∷ e) = D.generator ^ i * generated Ds e

-- the first place in a list of tests that passes, or the length of the list
abbrev pub first_place : List Bool → ℕ
first_place [] = 0
first_place (b ∷ bs) = cond b 0 (suc (first_place bs))

-- m, p, the degree d of the extension, and the dimensions
pub record Torus : Type 0 where
  pub m : ℕ
  pub p : ℕ
  pub d : ℕ
  pub dimensions : List Dimension

module _ (c : Torus) where
  -- the number of slots
  abbrev pub slot_count : ℕ
  slot_count = count c.dimensions

  -- T(e)
  abbrev pub T_of : List ℕ → ℕ
  T_of e = generated c.dimensions e % c.m

  abbrev pub dimension : ℕ → Dimension
  dimension i = get_or c.dimensions i (record { generator = 1; size = 1 })

  abbrev pub size : ℕ → ℕ
  size i = (dimension i).size

  -- g_i^D_i is 1 modulo m
  abbrev pub is_good : ℕ → Bool
  is_good i = eqb ((dimension i).generator ^ size i % c.m) 1

  -- k = T(e) * p^u mod m
  abbrev pub IsLocated : ℕ → List ℕ → ℕ → Type 0
  IsLocated k e u = k % c.m ≡ (T_of e * c.p ^ u) % c.m

  -- T(e) * p^u mod m, for the index e with number i / d and for u = i % d
  abbrev pub unit_at : ℕ → ℕ
  unit_at i = (T_of (index c.dimensions (i / c.d)) * c.p ^ (i % c.d)) % c.m

  -- the first of these places at which k stands, modulo m
  unfoldable pub located : ℕ → ℕ
  located k = first_place (map (λ i. eqb (unit_at i) (k % c.m)) (below (slot_count * c.d)))
