-- What a reader answers.
use Rattle.std.specs.Prelude.{◌≡◌, ℕ, Result, Ok, Err, ⊤}
use Rattle.he_files.specs.declared.faults.ReadFault.{ReadFault}
use Rattle.he_files.specs.declared.faults.ReadFault.TheVariants.{Bad, Memory}

-- the place of a fault is the one that a definition gives; want of memory is free
abbrev pub Fails : {Y : Type 0} → ReadFault → Result Y ℕ → Type 0
Fails (Bad place) read = read ≡ Err place
Fails Memory read = ⊤

-- what is read, seen by view, is what a definition gives, and so is the place of a fault
abbrev pub Reads : {X Y : Type 0} → (X → Y) → Result X ReadFault → Result Y ℕ → Type 0
Reads view (Ok x) read = read ≡ Ok (view x)
Reads view (Err fault) read = Fails fault read
