-- The faults of a template, as faults of its filling.
use Rattle.std.specs.Prelude.{◌≡◌, ℕ, Bool, true, false, Option, None, Some, Result, Ok, Err}
use Rattle.table_keys.specs.declared.faults.TemplateFault.{TemplateFault}
use Rattle.table_keys.specs.declared.faults.TemplateFault.TheVariants as keys
use Rattle.table_maker.specs.declared.faults.MakeFault.{MakeFault}
use Rattle.table_maker.specs.declared.faults.MakeFault.TheVariants.{BadTemplate, NoRoot, Memory}

abbrev pub of_template : TemplateFault → MakeFault
of_template (keys.BadTemplate key) = BadTemplate key
of_template keys.Memory = Memory

-- the template that was read, or its fault
abbrev pub or_fault : {A : Type 0} → Result A TemplateFault → Result A MakeFault
or_fault (Ok x) = Ok x
or_fault (Err fault) = Err (of_template fault)

-- the first fault ends it
infixl 10 ◌>>=◌
abbrev pub ◌>>=◌ : {A B : Type 0} → Result A MakeFault → (A → Result B MakeFault) → Result B MakeFault
(Ok x) >>= f = f x
(Err fault) >>= f = Err fault

-- what stands where each modulus has roots, or the fault of the one that has none
abbrev pub unless_rootless : {A : Type 0} → Option ℕ → A → Result A MakeFault
unless_rootless None x = Ok x
unless_rootless (Some i) x = Err (NoRoot i)

-- want of memory
abbrev pub is_memory : MakeFault → Bool
is_memory (BadTemplate key) = false
is_memory (NoRoot i) = false
is_memory Memory = true

-- what was returned, seen by view, is what is defined, but for want of memory
abbrev pub Gives : {X Y : Type 0} → (X → Y) → Result X MakeFault → Result Y MakeFault → Type 0
Gives view (Ok x) on = on ≡ Ok (view x)
Gives view (Err fault) on = is_memory fault ≡ false → on ≡ Err fault
