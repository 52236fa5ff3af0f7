-- The names of values.
use Rattle.std.specs.Prelude.{ℕ, List, bytes_eq, Option, Some, None, if◌then◌else◌}
use Rattle.std.specs.Ordering.{nat_cmp}
use Rattle.std.specs.Cmp.Lexicographic.{slice_cmp}
use Rattle.std.specs.BTreeMap.{get_by}
use Rattle.slot_program.specs.declared.names.Names.{Names}

-- for each name, the number of the value that goes by it
abbrev pub Naming : Type 0
Naming = List ℕ → Option ℕ

abbrev pub no_names : Naming
no_names word = None

-- one name more
unfoldable pub named : Naming → List ℕ → ℕ → Naming
named names name n = λ word. if bytes_eq word name then Some n else names word

-- what a map of names says
unfoldable pub naming : Names → Naming
naming names = λ word. get_by (λ name. slice_cmp nat_cmp word name.items) names.numbers
