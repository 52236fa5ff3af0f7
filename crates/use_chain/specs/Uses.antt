-- The uses of each value, as the list of its nodes. Node 2 * step is the first operand of a step, and
-- node 2 * step + 1 its second one.
use Rattle.std.specs.Prelude.{◌≡◌, ℕ, ◌-◌, ◌*◌, ◌/◌, ◌%◌, ◌<◌, ◌==◌, nat_lt, not, Bool, false, if◌then◌else◌, List, [], ◌∷◌, ◌++◌, length, map, fold, filter, reverse, slice_set, slice_get, slice_index_or, Contains, Option, None, Some, IfSome, ◌↔◌, ◌⊎◌}
use Rattle.std.specs.List.{range_with_len}
use Rattle.std.specs.List.Sorted.{IsStrictlyIncreasing}
use Rattle.std.specs.Option.{option_map_or}
use Rattle.use_chain.specs.declared.Operands.{Operands}

-- the nodes that use a value
abbrev pub list_of : List (List ℕ) → ℕ → List ℕ
list_of uses value = slice_index_or uses value []

-- a step with no operand
abbrev pub no_operands : Operands
no_operands = record { first = None; second = None }

-- the operands of a step
abbrev pub operands_of : List Operands → ℕ → Operands
operands_of steps step = slice_index_or steps step no_operands

-- the operand at a node
unfoldable pub operand_at : List Operands → ℕ → Option ℕ
operand_at steps node =
    let operands = operands_of steps (node / 2) in
    if node % 2 == 0 then operands.first else operands.second

-- whether the operand at a node is the value
abbrev pub uses_value : List Operands → ℕ → ℕ → Bool
uses_value steps value node = option_map_or (λ v. v == value) (operand_at steps node) false

-- for each value, the nodes below `count` that use it, in order
unfoldable pub uses_below : List Operands → ℕ → List (List ℕ)
uses_below steps count =
    map (λ value. filter (uses_value steps value) (range_with_len 0 count))
    (range_with_len 0 (length steps))

-- for each value, the nodes that use it, in order
abbrev pub uses_of : List Operands → List (List ℕ)
uses_of steps = uses_below steps (2 * length steps)

-- operands of a step name earlier steps
abbrev pub NamesEarlier : ℕ → Operands → Type 0
NamesEarlier step operands = IfSome operands.first (λ v. v < step) × IfSome operands.second (λ v. v < step)

-- each step names earlier steps
abbrev pub NameEarlier : List Operands → Type 0
NameEarlier steps = (step : ℕ) → step < length steps → NamesEarlier step (operands_of steps step)

-- the node stands in the list of some value
abbrev pub IsListed : List (List ℕ) → ℕ → Type 0
IsListed uses node = (value : ℕ) × Contains (list_of uses value) node

-- wherever a list has the node, what comes after it there begins with this node, or is empty
abbrev pub IsNext : List (List ℕ) → ℕ → Option ℕ → Type 0
IsNext uses node next =
    (value : ℕ) (before after : List ℕ) → list_of uses value ≡ before ++ node ∷ after
    → next ≡ slice_get after 0

-- wherever a list has the node, what comes before it there ends with this node, or is empty
abbrev pub IsPrev : List (List ℕ) → ℕ → Option ℕ → Type 0
IsPrev uses node prev =
    (value : ℕ) (before after : List ℕ) → list_of uses value ≡ before ++ node ∷ after
    → prev ≡ slice_get before (length before - 1)

-- a list with no such node
abbrev pub without : ℕ → List ℕ → List ℕ
without node nodes = filter (λ k. not (k == node)) nodes

-- a node put into an ascending list at its place
unfoldable pub in_order : List ℕ → ℕ → List ℕ
in_order [] node = node ∷ []
in_order (k ∷ ks) node = if nat_lt node k then node ∷ k ∷ ks else k ∷ in_order ks node

-- the nodes of both lists: each of the first is put into the second
unfoldable pub merged : List ℕ → List ℕ → List ℕ
merged from into = fold in_order into from

-- the uses of one value are merged into those of another
abbrev pub replaced : List (List ℕ) → ℕ → ℕ → List (List ℕ)
replaced uses from into =
    slice_set (slice_set uses from []) into (merged (list_of uses from) (list_of uses into))

-- each list ascends, and no two have a common node
pub record AreApart (uses : List (List ℕ)) : Type 0 where
  pub ascending : (value : ℕ) → IsStrictlyIncreasing (list_of uses value)
  pub apart : (u v node : ℕ) → Contains (list_of uses u) node → Contains (list_of uses v) node → u ≡ v

-- the ascending list of the nodes of both
pub record IsMerge (from into both : List ℕ) : Type 0 where
  pub ascending : IsStrictlyIncreasing both
  pub members : (k : ℕ) → Contains both k ↔ (Contains from k ⊎ Contains into k)

-- two ascending lists with no common node merge to that list
abbrev pub MergesAscending : Type 0
MergesAscending =
    (from into : List ℕ) → IsStrictlyIncreasing from → IsStrictlyIncreasing into
    → ((k : ℕ) → Contains from k → Contains into k → ⊥) → IsMerge from into (merged from into)

-- from a node on, the steps of a walk go through these nodes and end
abbrev pub Walks : (ℕ → Option ℕ) → Option ℕ → List ℕ → Type 0
Walks step at [] = at ≡ None
Walks step at (k ∷ ks) = (at ≡ Some k) × Walks step (step k) ks

-- from the first node on, the next ones are the list
abbrev pub WalksForward : Type 0
WalksForward =
    (uses : List (List ℕ)) (value : ℕ) (next : ℕ → Option ℕ)
    → ((node : ℕ) → IsListed uses node → IsNext uses node (next node))
    → Walks next (slice_get (list_of uses value) 0) (list_of uses value)

-- from the last node back, the previous ones are the list from its end
abbrev pub WalksBackward : Type 0
WalksBackward =
    (uses : List (List ℕ)) (value : ℕ) (prev : ℕ → Option ℕ)
    → ((node : ℕ) → IsListed uses node → IsPrev uses node (prev node))
    → Walks prev (slice_get (list_of uses value) (length (list_of uses value) - 1)) (reverse (list_of uses value))
