-- The calls of a shelf or a sink in memory, numbered from 0, of which those in a list fail.
use Rattle.std.specs.Prelude.{◌≡◌, ℕ, ◌+◌, ◌-◌, ◌^◌, Bool, ◌&&◌, ◌==◌, List, nat_lt, min, if◌then◌else◌}
use Rattle.std.specs.List.{list_any}
use Rattle.shelf_core.specs.Files.{File}

-- the numbers of the calls that are to fail, how many calls were made, and how many failed
pub record Calls : Type 0 where
  pub failing : List ℕ
  pub made : ℕ
  pub faults : ℕ

-- a shelf in memory
pub record ShelfState : Type 0 where
  pub files : List File
  pub calls : Calls

-- a sink in memory
pub record SinkState : Type 0 where
  pub bytes : List ℕ
  pub calls : Calls

-- whether the next call fails: its number is in the list, and 2^64 - 1 calls were not made yet
abbrev pub next_fails : Calls → Bool
next_fails calls = nat_lt calls.made (2 ^ 64 - 1) && list_any (λ number. number == calls.made) calls.failing

-- one call: it failed exactly where it was to fail, and each failed call raises the count by one
pub record IsCall (failed : Bool) (before now : Calls) : Type 0 where
  pub answer : failed ≡ next_fails before
  pub failing : now.failing ≡ before.failing
  pub made : now.made ≡ min (before.made + 1) (2 ^ 64 - 1)
  pub faults : now.faults ≡ (if failed then before.faults + 1 else before.faults)
