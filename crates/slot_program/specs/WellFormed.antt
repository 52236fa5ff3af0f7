-- Well-formed programs.
use Rattle.std.specs.Prelude.{◌≡◌, ℕ, ◌-◌, ◌<◌, ◌≤◌, ◌^◌, ◌↔◌, true, false, IsTrue, List, length, slice_get, take, Some}
use Rattle.algebra.specs.Divisor.{is_unit}
use Rattle.hyper_cube.specs.Torus.{Torus}
use Rattle.ext_field.specs.Element.{Extension}
use Rattle.slot_array.specs.Arrays.{IsArray}
use Rattle.slot_program.specs.Kinds.{is_output, is_constant}
use Rattle.slot_program.specs.declared.kinds.Kind.{Kind}
use Rattle.slot_program.specs.declared.kinds.Kind.TheVariants.{Input, Const, Add, Sub, Mul, Neg, AddC, MulC, Auto, Rotate, Output}
use Rattle.slot_program.specs.declared.kinds.Step.{Step}

-- a is the number of one of these steps, and no constant
pub record IsValue (steps : List Step) (a : ℕ) : Type 0 where
  pub earlier : a < length steps
  pub no_constant : is_constant steps a ≡ false

-- c is the number of one of these steps, a constant
pub record IsConstant (steps : List Step) (c : ℕ) : Type 0 where
  pub earlier : c < length steps
  pub constant : is_constant steps c ≡ true

pub record IsAuto (cube : Torus) (k : ℕ) : Type 0 where
  pub low : 1 ≤ k
  pub high : k < cube.m
  pub unit : IsTrue (is_unit cube.m k)

pub record IsRotation (cube : Torus) (dim amount : ℕ) : Type 0 where
  pub in_cube : dim < length cube.dimensions
  pub small : amount < 2 ^ 32

module _ (f : Extension) (cube : Torus) where
  -- an instruction behind these steps obeys the rules
  abbrev pub IsInstruction : List Step → Kind → Type 0
  IsInstruction steps Input = Unit {0}
  IsInstruction steps (Const elems) = IsArray f cube elems
  IsInstruction steps (Add a b) = IsValue steps a × IsValue steps b
  IsInstruction steps (Sub a b) = IsValue steps a × IsValue steps b
  IsInstruction steps (Mul a b) = IsValue steps a × IsValue steps b
  IsInstruction steps (Neg a) = IsValue steps a
  IsInstruction steps (AddC a c) = IsValue steps a × IsConstant steps c
  IsInstruction steps (MulC a c) = IsValue steps a × IsConstant steps c
  IsInstruction steps (Auto k a) = IsAuto cube k × IsValue steps a
  IsInstruction steps (Rotate dim amount a) = IsRotation cube dim amount × IsValue steps a
  IsInstruction steps (Output a) = IsValue steps a

  -- each step obeys the rules, and just the last is an output
  pub record IsProgram (steps : List Step) : Type 0 where
    pub few : length steps ≤ 100000
    pub instructions : (i : ℕ) (step : Step) → slice_get steps i ≡ Some step → IsInstruction (take i steps) step.kind
    pub some_step : 0 < length steps
    pub last : (i : ℕ) (step : Step) → slice_get steps i ≡ Some step → (IsTrue (is_output step.kind) ↔ (i ≡ length steps - 1))
