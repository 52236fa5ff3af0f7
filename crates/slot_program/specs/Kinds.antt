-- Instructions: their operands, and what kind of value each gives.
use Rattle.std.specs.Prelude.{◌≡◌, ℕ, ◌==◌, Bool, true, false, List, is_some, slice_get, Option, Some, None, unwrap_or, if◌then◌else◌}
use Rattle.std.specs.Option.{option_map_or}
use Rattle.std.specs.List.{list_any}
use Rattle.slot_program.specs.declared.kinds.Kind.{Kind}
use Rattle.slot_program.specs.declared.kinds.Kind.TheVariants.{Input, Const, Add, Sub, Mul, Neg, AddC, MulC, Auto, Rotate, Output}
use Rattle.slot_program.specs.declared.kinds.Step.{Step}

abbrev pub is_input : Kind → Bool
is_input Input = true
is_input _ = false

abbrev pub is_const : Kind → Bool
is_const (Const elems) = true
is_const _ = false

abbrev pub is_output : Kind → Bool
is_output (Output a) = true
is_output _ = false

-- every instruction but those that a lowering rewrites
abbrev pub is_basic : Kind → Bool
is_basic (Rotate dim amount a) = false
is_basic _ = true

-- the operands in order, a constant among them
abbrev pub operands : Kind → Option ℕ × Option ℕ
operands Input = (None, None)
operands (Const elems) = (None, None)
operands (Add a b) = (Some a, Some b)
operands (Sub a b) = (Some a, Some b)
operands (Mul a b) = (Some a, Some b)
operands (Neg a) = (Some a, None)
operands (AddC a c) = (Some a, Some c)
operands (MulC a c) = (Some a, Some c)
operands (Auto k a) = (Some a, None)
operands (Rotate dim amount a) = (Some a, None)
operands (Output a) = (Some a, None)

-- the same instruction with other operands
unfoldable pub with_operands : Kind → Option ℕ → Option ℕ → Kind
with_operands Input first second = Input
with_operands (Const elems) first second = Const elems
with_operands (Add a b) first second = Add (unwrap_or first 0) (unwrap_or second 0)
with_operands (Sub a b) first second = Sub (unwrap_or first 0) (unwrap_or second 0)
with_operands (Mul a b) first second = Mul (unwrap_or first 0) (unwrap_or second 0)
with_operands (Neg a) first second = Neg (unwrap_or first 0)
with_operands (AddC a c) first second = AddC (unwrap_or first 0) (unwrap_or second 0)
with_operands (MulC a c) first second = MulC (unwrap_or first 0) (unwrap_or second 0)
with_operands (Auto k a) first second = Auto k (unwrap_or first 0)
with_operands (Rotate dim amount a) first second = Rotate dim amount (unwrap_or first 0)
with_operands (Output a) first second = Output (unwrap_or first 0)

-- operands as many as the instruction has
pub record HasOperands (kind : Kind) (first second : Option ℕ) : Type 0 where
  pub has_first : is_some first ≡ is_some (operands kind).0
  pub has_second : is_some second ≡ is_some (operands kind).1

-- whether a step gives a constant
unfoldable pub is_constant : List Step → ℕ → Bool
is_constant steps n = option_map_or (λ step. is_const step.kind) (slice_get steps n) false

-- the K of an automorphism, other than 1
abbrev pub key_of : Kind → Option ℕ
key_of (Auto k a) = if k == 1 then None else Some k
key_of _ = None

abbrev pub is_key_of : ℕ → Option ℕ → Bool
is_key_of k None = false
is_key_of k (Some other) = other == k

-- whether k is one of these in a program
abbrev pub is_key : List Step → ℕ → Bool
is_key steps k = list_any (λ step. is_key_of k (key_of step.kind)) steps
