-- Values held as packed plaintexts: polynomials, and the arrays in their slots.
use Rattle.std.specs.Prelude.{◌≡◌, ℕ, ◌<◌, List, map, ℤ, Vec}
use Rattle.std.specs.declared.alloc.Global.{Global}
use Rattle.cyclotomic.specs.Cyclotomic.{IsElement}
use Rattle.hyper_cube.specs.Torus.{Torus}
use Rattle.ext_field.specs.Element.{Extension}
use Rattle.slot_array.specs.Arrays.{Array, IsArray}
use Rattle.slot_laws.specs.Slots.{balanced_row, slots}
use Rattle.slot_program.specs.WellFormed.{IsAuto, IsRotation}
use Rattle.slot_program.specs.declared.kinds.Kind.{Kind}
use Rattle.slot_program.specs.declared.kinds.Kind.TheVariants.{Input, Const, Add, Sub, Mul, Neg, AddC, MulC, Auto, Rotate, Output}

-- n coefficients, balanced residues modulo p
pub record IsPacked (f : Extension) (c : Torus) (a : List ℤ) : Type 0 where
  pub long : IsElement c.m a
  pub own : balanced_row f.p a ≡ a

-- the same, with the elements of x in its slots
pub record Packs (f : Extension) (c : Torus) (x : Array) (a : List ℤ) : Type 0 where
  pub packed : IsPacked f c a
  pub value : slots f c a ≡ x

-- the arrays in the slots of packed values
abbrev pub arrays_in : Extension → Torus → List (Vec ℤ Global) → List Array
arrays_in f c values = map (λ a. slots f c a.items) values

module _ (f : Extension) (c : Torus) where
  -- an instruction obeys the rules, and its operands are among n values
  abbrev pub IsOver : ℕ → Kind → Type 0
  IsOver n Input = Unit {0}
  IsOver n (Const elems) = IsArray f c elems
  IsOver n (Add a b) = (a < n) × (b < n)
  IsOver n (Sub a b) = (a < n) × (b < n)
  IsOver n (Mul a b) = (a < n) × (b < n)
  IsOver n (Neg a) = a < n
  IsOver n (AddC a k) = (a < n) × (k < n)
  IsOver n (MulC a k) = (a < n) × (k < n)
  IsOver n (Auto k a) = IsAuto c k × (a < n)
  IsOver n (Rotate dim amount a) = IsRotation c dim amount × (a < n)
  IsOver n (Output a) = a < n
