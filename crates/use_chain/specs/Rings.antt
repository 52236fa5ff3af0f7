-- How links hold the lists. The nodes below `places` are places of operands, and those from it on are
-- ring heads, one for each value. From its head, the nodes of a value's list follow one another by
-- `next`, and the last leads back to the head; `prev` goes the other way round.
use Rattle.std.specs.Prelude.{◌≡◌, ℕ, zero, suc, ◌+◌, ◌-◌, ◌<◌, ◌≤◌, nat_lt, if◌then◌else◌, List, [], ◌∷◌, ◌++◌, length, map, Option, None, Some, ◌⊎◌, slice_set, slice_index_or}
use Rattle.std.specs.List.{range_with_len}
use Rattle.use_chain.specs.declared.Node.{Node}
use Rattle.use_chain.specs.Uses.{list_of}

abbrev pub node_at : List Node → ℕ → Node
node_at nodes k = slice_index_or nodes k (record { next = 0; prev = 0 })

-- the links as functions of a node
abbrev pub next_of : List Node → ℕ → ℕ
next_of nodes k = (node_at nodes k).next

abbrev pub prev_of : List Node → ℕ → ℕ
prev_of nodes k = (node_at nodes k).prev

-- the nodes after b was made to follow a
unfoldable pub linked : List Node → ℕ → ℕ → List Node
linked nodes a b =
    let ahead = slice_set nodes a (record (node_at nodes a) { next = b }) in
    slice_set ahead b (record (node_at ahead b) { prev = a })

-- the nodes after one was taken out of its ring
unfoldable pub taken_out : List Node → ℕ → List Node
taken_out nodes node = linked nodes (prev_of nodes node) (next_of nodes node)

-- the nodes after one was put before another
unfoldable pub put_before : List Node → ℕ → ℕ → List Node
put_before nodes at node = linked (linked nodes (prev_of nodes at) node) node at

-- the nodes from one on, until a ring head comes or the fuel ends
abbrev pub walk : (ℕ → ℕ) → ℕ → ℕ → ℕ → List ℕ
walk next places zero at = []
walk next places (suc fuel) at =
    if nat_lt at places then at ∷ walk next places fuel (next at) else []

-- the list of each ring
unfoldable pub lists : ℕ → List Node → List (List ℕ)
lists places nodes =
    map (λ value. walk (next_of nodes) places places (next_of nodes (places + value)))
    (range_with_len 0 (length nodes - places))

-- from a through these nodes to z, each next to the one before
abbrev pub Path : (ℕ → ℕ) → (ℕ → ℕ) → ℕ → List ℕ → ℕ → Type 0
Path next prev a [] z = (next a ≡ z) × (prev z ≡ a)
Path next prev a (k ∷ ks) z = (next a ≡ k) × (prev k ≡ a) × Path next prev k ks z

-- ascending, each at least the first bound and below the second
abbrev pub Rising : ℕ → List ℕ → ℕ → Type 0
Rising low [] high = Unit {0}
Rising low (k ∷ ks) high = (low ≤ k) × (k < high) × Rising (suc k) ks high

-- k is one of these
abbrev pub IsIn : ℕ → List ℕ → Type 0
IsIn k [] = ⊥
IsIn k (x ∷ xs) = (k ≡ x) ⊎ IsIn k xs

-- the rings hold these lists, of which no two have a common node
pub record AreRings (places count : ℕ) (next prev : ℕ → ℕ) (list : ℕ → List ℕ) : Type 0 where
  pub ring : (v : ℕ) → v < count → Path next prev (places + v) (list v) (places + v)
  pub rising : (v : ℕ) → Rising 0 (list v) places
  pub apart : (u v k : ℕ) → IsIn k (list u) → IsIn k (list v) → u ≡ v

-- the nodes hold these lists
pub record Holds (places : ℕ) (nodes : List Node) (uses : List (List ℕ)) : Type 0 where
  pub size : length nodes ≡ places + length uses
  pub inside : (k : ℕ) → k < length nodes → (next_of nodes k < length nodes) × (prev_of nodes k < length nodes)
  pub rings : AreRings places (length uses) (next_of nodes) (prev_of nodes) (list_of uses)

-- the nodes hold the lists that walks over them give
abbrev pub IsWhole : ℕ → List Node → Type 0
IsWhole places nodes = Holds places nodes (lists places nodes)

-- each node that stands in a list is below this one
abbrev pub AreBelow : List (List ℕ) → ℕ → Type 0
AreBelow uses node = (value k : ℕ) → IsIn k (list_of uses value) → k < node

-- a node that leads to itself
abbrev pub alone : ℕ → Node
alone k = record { next = k; prev = k }

-- the uses with one more at the end of a value's list, if there is a value
abbrev pub with_use : List (List ℕ) → Option ℕ → ℕ → List (List ℕ)
with_use uses None node = uses
with_use uses (Some value) node = slice_set uses value (list_of uses value ++ node ∷ [])

-- the node at a place of a ring, if it is none of the ring heads
abbrev pub place_of : ℕ → ℕ → Option ℕ
place_of places node = if nat_lt node places then Some node else None
