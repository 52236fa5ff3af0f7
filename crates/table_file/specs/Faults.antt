-- The faults of the parts of a table, as faults of the table.
use Rattle.std.specs.Prelude.{◌≡◌, Bool, true, false, Option, None, Some, Result, Ok, Err, if◌then◌else◌}
use Rattle.hyper_cube.specs.declared.faults.CubeFault.{CubeFault}
use Rattle.hyper_cube.specs.declared.faults.CubeFault.TheVariants as cube
use Rattle.moduli_table.specs.declared.faults.ModFault.{ModFault}
use Rattle.moduli_table.specs.declared.faults.ModFault.TheVariants as moduli
use Rattle.slot_factor.specs.declared.faults.SlotFault.{SlotFault}
use Rattle.slot_factor.specs.declared.faults.SlotFault.TheVariants as slots
use Rattle.table_keys.specs.declared.faults.DocumentFault.{DocumentFault}
use Rattle.table_keys.specs.declared.faults.DocumentFault.TheVariants as keys
use Rattle.table_file.specs.declared.faults.TableFault.{TableFault}
use Rattle.table_file.specs.declared.faults.TableFault.TheVariants.{Text, Shape, NotOrder, NotPower, WrongCount, NotDistinct, NotDivisor, Idempotent, NotAnnihilated, NotComplete, Dual, Size, Residue, HalfRoot, Root, TwoRoot, Inverse, PlainInverse, Memory}

abbrev pub of_document : DocumentFault → TableFault
of_document keys.Text = Text
of_document (keys.Shape key) = Shape key
of_document keys.Memory = Memory

abbrev pub of_cube : CubeFault → TableFault
of_cube cube.NotOrder = NotOrder
of_cube (cube.NotPower i) = NotPower i
of_cube cube.WrongCount = WrongCount
of_cube (cube.NotDistinct a b) = NotDistinct a b
of_cube cube.Memory = Memory

abbrev pub of_slots : SlotFault → TableFault
of_slots slots.NotDivisor = NotDivisor
of_slots (slots.Idempotent slot) = Idempotent slot
of_slots slots.NotAnnihilated = NotAnnihilated
of_slots slots.NotComplete = NotComplete
of_slots (slots.Dual i k) = Dual i k
of_slots slots.Memory = Memory

abbrev pub of_moduli : ModFault → TableFault
of_moduli (moduli.Size i) = Size i
of_moduli (moduli.Residue i) = Residue i
of_moduli (moduli.HalfRoot i) = HalfRoot i
of_moduli (moduli.Root i) = Root i
of_moduli (moduli.TwoRoot i) = TwoRoot i
of_moduli (moduli.Inverse i j) = Inverse i j
of_moduli (moduli.PlainInverse i) = PlainInverse i
of_moduli moduli.Memory = Memory

-- want of memory
abbrev pub is_memory : TableFault → Bool
is_memory Memory = true
is_memory _ = false

-- what was returned, seen by view, is what is defined, but for want of memory
abbrev pub Gives : {X Y : Type 0} → (X → Y) → Result X TableFault → Result Y TableFault → Type 0
Gives view (Ok x) on = on ≡ Ok (view x)
Gives view (Err fault) on = is_memory fault ≡ false → on ≡ Err fault

-- the first fault ends it
infixl 10 ◌>>=◌
abbrev pub ◌>>=◌ : {A B : Type 0} → Result A TableFault → (A → Result B TableFault) → Result B TableFault
(Ok x) >>= f = f x
(Err fault) >>= f = Err fault

-- a check that passes, or its fault
abbrev pub passed : Bool → TableFault → Result Unit TableFault
passed is fault = if is then Ok tt else Err fault

-- checks of which none failed, or the first that did
abbrev pub unless : {E : Type 0} → (E → TableFault) → Option E → Result Unit TableFault
unless fault None = Ok tt
unless fault (Some e) = Err (fault e)

-- what is there, or its fault
abbrev pub or_fault : {A E : Type 0} → (E → TableFault) → Result A E → Result A TableFault
or_fault fault (Ok x) = Ok x
or_fault fault (Err e) = Err (fault e)
