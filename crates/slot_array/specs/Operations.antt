-- What an operation makes of arrays.
use Rattle.std.specs.Prelude.{ℕ, ◌<◌, ⊤, List, [], get_or}
use Rattle.algebra.specs.Divisor.{UnitModulo}
use Rattle.hyper_cube.specs.Torus.{Torus}
use Rattle.hyper_cube.specs.Checks.{dimension_count}
use Rattle.ext_field.specs.Element.{Extension}
use Rattle.slot_array.specs.Arrays.{Array}
use Rattle.slot_array.specs.Instructions.{add, sub, neg, mul, auto, rotate}
use Rattle.slot_array.specs.declared.operations.PlainOp.{PlainOp}
use Rattle.slot_array.specs.declared.operations.PlainOp.TheVariants.{Add, Sub, Mul, Neg, AddC, MulC, Auto, Rotate}

-- how many arrays it takes
abbrev pub operand_count : PlainOp → ℕ
operand_count Add = 2
operand_count Sub = 2
operand_count Mul = 2
operand_count Neg = 1
operand_count AddC = 2
operand_count MulC = 2
operand_count (Auto k) = 1
operand_count (Rotate i v) = 1

-- k is a unit modulo m, below it; the dimension is there
abbrev pub IsAllowed : Torus → PlainOp → Type 0
IsAllowed c Add = ⊤
IsAllowed c Sub = ⊤
IsAllowed c Mul = ⊤
IsAllowed c Neg = ⊤
IsAllowed c AddC = ⊤
IsAllowed c MulC = ⊤
IsAllowed c (Auto k) = (k < c.m) × UnitModulo c.m k
IsAllowed c (Rotate i v) = i < dimension_count c

-- the instruction's formula at the operands, in order
abbrev pub meaning_of : Extension → Torus → PlainOp → List Array → Array
meaning_of f c Add args = add f c (get_or args 0 []) (get_or args 1 [])
meaning_of f c Sub args = sub f c (get_or args 0 []) (get_or args 1 [])
meaning_of f c Mul args = mul f c (get_or args 0 []) (get_or args 1 [])
meaning_of f c Neg args = neg f c (get_or args 0 [])
meaning_of f c AddC args = add f c (get_or args 0 []) (get_or args 1 [])
meaning_of f c MulC args = mul f c (get_or args 0 []) (get_or args 1 [])
meaning_of f c (Auto k) args = auto f c k (get_or args 0 [])
meaning_of f c (Rotate i v) args = rotate f c i v (get_or args 0 [])
