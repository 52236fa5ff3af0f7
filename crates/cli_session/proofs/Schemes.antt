-- An accepted table with moduli makes a scheme.
use Rattle.std.proofs.Common.{◌≡◌, ℕ, List, Option, Some, None, Result, Ok, refl}
use Rattle.std.specs.Prelude.{IfSome}
use Rattle.std.specs.Option.{ForSome}
use Rattle.cipher_core.specs.declared.schemes.Scheme.{Scheme}
use Rattle.cipher_core.specs.Shown.{setting_of as scheme_setting}
use Rattle.scheme_laws.specs.Scheme.{IsScheme}
use Rattle.slot_factor.specs.Packing.{Packing}
use Rattle.table_file.specs.declared.tables.Table.{Table}
use Rattle.table_file.specs.Accepted.{table_of}
use Rattle.table_file.specs.SchemeLaw.{AcceptedIsScheme}
use Rattle.table_file.specs.Setting.{Setting}
use Rattle.table_file.specs.Shown.{ring_of, setting_of}

of_scheme : AcceptedIsScheme → (text : List ℕ) (packing : Packing) (scheme : Option Scheme) → ForSome scheme (λ s. s.slots.value ≡ packing)
    → table_of text ≡ Ok (record { packing = packing; chain = ring_of scheme }) → IfSome scheme (λ s. IsScheme (scheme_setting s))
of_scheme law text packing None same is = tt
of_scheme law text packing (Some s) same is =
    let slots : s.slots.value ≡ packing = same s refl in
    rw slots (law text (record { packing = packing; chain = Some s.tables.value }) s.tables.value is refl)

-- the scheme of a table that was read
pub accepted_scheme : (text : List ℕ) (table : Table) → AcceptedIsScheme → table_of text ≡ Ok (setting_of table) → IfSome table.scheme (λ s. IsScheme (scheme_setting s))
accepted_scheme text table law is = of_scheme law text table.slots.value table.scheme table.same_slots is
