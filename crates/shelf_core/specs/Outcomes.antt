-- What the answers of a shelf and of a sink say of what they tell, and of their count of faults.
use Rattle.std.specs.Prelude.{◌≡◌, ℕ, ◌-◌, ◌^◌, ◌<◌, ◌≤◌, ◌⊎◌, Bool, true, false, List, [], ◌∷◌, ◌++◌, length, take, Option, Some, None, IsSome, ⊤}
use Rattle.shelf_core.specs.declared.outside.Held.{Held}
use Rattle.shelf_core.specs.declared.outside.Held.TheVariants as has
use Rattle.shelf_core.specs.declared.outside.Loaded.{Loaded}
use Rattle.shelf_core.specs.declared.outside.Loaded.TheVariants as load
use Rattle.shelf_core.specs.declared.outside.Saved.{Saved}
use Rattle.shelf_core.specs.declared.outside.Saved.TheVariants as save
use Rattle.shelf_core.specs.declared.outside.Put.{Put}
use Rattle.shelf_core.specs.declared.outside.Put.TheVariants as put
use Rattle.shelf_core.specs.Files.{File}

-- the count rose, or it stood at the limit of 2^64 - 1 already; it has not fallen
abbrev pub Rises : ℕ → ℕ → Type 0
Rises before now = (before ≤ now) × ((before < now) ⊎ (before ≡ 2 ^ 64 - 1))

-- the bytes found under the name, against what `has` answered
abbrev pub IsHeld : Held → Option (List ℕ) → Type 0
IsHeld has.Yes found = IsSome found
IsHeld has.No found = found ≡ None
IsHeld has.Failed found = ⊤
IsHeld has.Memory found = ⊤

-- the bytes found under the name, against what `load` answered
abbrev pub IsLoaded : Loaded → Option (List ℕ) → Type 0
IsLoaded (load.Found bytes) found = found ≡ Some bytes.items
IsLoaded load.Absent found = found ≡ None
IsLoaded load.Failed found = ⊤
IsLoaded load.Memory found = ⊤

-- what `load` found is at most so long
abbrev pub FindsAtMost : ℕ → Loaded → Type 0
FindsAtMost longest (load.Found bytes) = length bytes.items ≤ longest
FindsAtMost longest load.Absent = ⊤
FindsAtMost longest load.Failed = ⊤
FindsAtMost longest load.Memory = ⊤

-- the files before and after a `save` of the file
abbrev pub IsSaved : Saved → File → List File → List File → Type 0
IsSaved save.Done file old new = new ≡ old ++ file ∷ []
IsSaved save.Failed file old new = new ≡ old
IsSaved save.Memory file old new = new ≡ old

-- the old bytes, and then a front of the piece
abbrev pub PutsFront : List ℕ → List ℕ → List ℕ → Type 0
PutsFront piece old new = new ≡ old ++ take (length new - length old) piece

-- the bytes before and after a `put` of the piece
abbrev pub IsPut : Put → List ℕ → List ℕ → List ℕ → Type 0
IsPut put.Done piece old new = new ≡ old ++ piece
IsPut put.Failed piece old new = PutsFront piece old new
IsPut put.Memory piece old new = new ≡ old

-- the count of faults before and after: `has`
abbrev pub HeldCounts : Held → ℕ → ℕ → Type 0
HeldCounts has.Yes before now = now ≡ before
HeldCounts has.No before now = now ≡ before
HeldCounts has.Failed before now = Rises before now
HeldCounts has.Memory before now = now ≡ before

-- the same: `load`
abbrev pub LoadedCounts : Loaded → ℕ → ℕ → Type 0
LoadedCounts (load.Found bytes) before now = now ≡ before
LoadedCounts load.Absent before now = now ≡ before
LoadedCounts load.Failed before now = Rises before now
LoadedCounts load.Memory before now = now ≡ before

-- the same: `save`
abbrev pub SavedCounts : Saved → ℕ → ℕ → Type 0
SavedCounts save.Done before now = now ≡ before
SavedCounts save.Failed before now = Rises before now
SavedCounts save.Memory before now = now ≡ before

-- the same: `put`
abbrev pub PutCounts : Put → ℕ → ℕ → Type 0
PutCounts put.Done before now = now ≡ before
PutCounts put.Failed before now = Rises before now
PutCounts put.Memory before now = now ≡ before

-- whether an answer of `has` is `Failed`
abbrev pub held_failed : Held → Bool
held_failed has.Failed = true
held_failed has.Yes = false
held_failed has.No = false
held_failed has.Memory = false

-- the same: `load`
abbrev pub load_failed : Loaded → Bool
load_failed load.Failed = true
load_failed (load.Found bytes) = false
load_failed load.Absent = false
load_failed load.Memory = false

-- the same: `save`
abbrev pub save_failed : Saved → Bool
save_failed save.Failed = true
save_failed save.Done = false
save_failed save.Memory = false

-- the same: `put`
abbrev pub put_failed : Put → Bool
put_failed put.Failed = true
put_failed put.Done = false
put_failed put.Memory = false
