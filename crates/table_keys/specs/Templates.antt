-- What a text is read as: a template, or the first fault in the order of its keys.
use Rattle.std.specs.Prelude.{◌≡◌, ℕ, ◌-◌, ◌^◌, ◌%◌, Bool, true, false, ◌&&◌, ◌==◌, List, [], ◌∷◌, length, Result, Ok, Err}
use Rattle.std.specs.List.{list_all}
use Rattle.line_text.specs.declared.kinds.TableKey.{TableKey}
use Rattle.line_text.specs.declared.kinds.TableKey.TheVariants as keys
use Rattle.line_text.specs.declared.kinds.TableKey.TheVariants.{M, P, Factor, Dual, Generators, Weight, Digits, Chain, Special, Other}
use Rattle.table_keys.specs.declared.faults.DocumentFault.{DocumentFault}
use Rattle.table_keys.specs.declared.faults.DocumentFault.TheVariants as faults
use Rattle.table_keys.specs.declared.faults.DocumentFault.TheVariants.{Shape}
use Rattle.table_keys.specs.declared.faults.TemplateFault.{TemplateFault}
use Rattle.table_keys.specs.declared.faults.TemplateFault.TheVariants.{BadTemplate, Memory}
use Rattle.table_keys.specs.Documents.{has_only, members_of}
use Rattle.table_keys.specs.Keys.{is_within, m_of, p_of, factor_of, dual_of, generators_of, weight_of, digits_of}
use Rattle.table_keys.specs.Values.{◌>>=◌, passed, numbers_at}
use Rattle.toml.specs.Data.{Members}

-- what a template says
pub record Template : Type 0 where
  pub m : ℕ
  pub p : ℕ
  pub factor : List ℕ
  pub dual : List (List ℕ)
  pub generators : List (ℕ × ℕ)
  pub weight : ℕ
  pub digits : List ℕ
  pub chain : List ℕ
  pub special : List ℕ

-- an odd number from 3 to 2^62 - 1
abbrev pub is_modulus : ℕ → Bool
is_modulus q = is_within 3 (2 ^ 62 - 1) q && q % 2 == 1

-- 1 to most moduli
unfoldable pub plain_moduli_at : TableKey → ℕ → Members → Result (List ℕ) DocumentFault
plain_moduli_at key most members = do
  moduli ← numbers_at key members
  passed key (is_within 1 most (length moduli) && list_all is_modulus moduli) moduli

-- the keys of a template in order
abbrev pub template_keys : List TableKey
template_keys = M ∷ P ∷ Factor ∷ Dual ∷ Generators ∷ Weight ∷ Digits ∷ Chain ∷ Special ∷ []

unfoldable pub template_in : Members → Result Template DocumentFault
template_in members = do
  m ← m_of members
  p ← p_of members
  factor ← factor_of p members
  dual ← dual_of p (length factor - 1) members
  generators ← generators_of m members
  weight ← weight_of members
  digits ← digits_of members
  chain ← plain_moduli_at Chain 32 members
  special ← plain_moduli_at Special 16 members
  passed Other (has_only template_keys members)
      (record { m = m; p = p; factor = factor; dual = dual; generators = generators; weight = weight; digits = digits; chain = chain; special = special })

-- the fault of a template by the key at fault
abbrev pub bad_template : DocumentFault → TemplateFault
bad_template faults.Text = BadTemplate keys.Text
bad_template (Shape key) = BadTemplate key
bad_template faults.Memory = Memory

abbrev pub or_bad : {A : Type 0} → Result A DocumentFault → Result A TemplateFault
or_bad (Ok x) = Ok x
or_bad (Err fault) = Err (bad_template fault)

-- the template that a text is read as, or its fault
unfoldable pub template_of : List ℕ → Result Template TemplateFault
template_of text = or_bad (members_of text >>= template_in)

-- want of memory
abbrev pub is_memory : TemplateFault → Bool
is_memory (BadTemplate key) = false
is_memory Memory = true

-- what was returned is what is read, but for want of memory
abbrev pub GivesTemplate : Result Template TemplateFault → Result Template TemplateFault → Type 0
GivesTemplate (Ok template) read = read ≡ Ok template
GivesTemplate (Err fault) read = is_memory fault ≡ false → read ≡ Err fault
