-- What a loop has found so far, and what it goes on to find.
use Rattle.std.proofs.Common.{List, ◌++◌, Option, option_map}

-- these, and then those that are found
abbrev pub with_front : {X : Type 0} → List X → Option (List X) → Option (List X)
with_front front found = option_map (λ rest. front ++ rest) found
