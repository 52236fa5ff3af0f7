-- What is known of names and files, of texts, of the scheme, of bounds, and of the tables that are accepted.
use Rattle.std.specs.Prelude.{◌≡◌, ℕ, ◌≤◌, List, ◌↔◌, Ok}
use Rattle.line_text.specs.Names.{SpellsItself}
use Rattle.shelf_core.specs.Files.{TestsNames, AddsTheFile}
use Rattle.ext_field.specs.Element.{Extension}
use Rattle.hyper_cube.specs.Torus.{Torus}
use Rattle.slot_array.specs.Arrays.{Array, IsArray}
use Rattle.slot_array.specs.SlotsText.{slots_of, WritesArray}
use Rattle.cyclotomic.specs.CyclotomicLaws.{DegreeIsUnits}
use Rattle.noise_bound.specs.Form.{bound_of}
use Rattle.noise_bound.specs.Rounding.{IsFloating, IsUp, up, down, exponent}
use Rattle.noise_bound.specs.Value.{value}
use Rattle.noise_bound.specs.declared.rounding.Bound.{Bound}
use Rattle.scheme_laws.specs.SchemeLaws.{DrawsLaw, DrawnStands, DecryptsLaw}
use Rattle.he_files.specs.FileLaws.{HeaderLaw, SecretLaw, PublicKeyLaw, CipherLaw}
use Rattle.table_file.specs.SchemeLaw.{AcceptedIsScheme}

-- a number that is rounded up, and the one form of a bound
pub record BoundLaws : Type 0 where
  pub rounds_up : (x : ℕ) → IsUp x (up x)
  pub down_keeps : (x : ℕ) → IsFloating x → down x ≡ x
  pub exp : (b : Bound) → b.exp ≡ exponent (value b)
  pub ordered : (a b : Bound) → value a ≤ value b → a.exp ≤ b.exp
  pub number : (x : ℕ) → value (bound_of x) ≡ down x

-- what is read of the text of an array
pub record SlotsLaws : Type 0 where
  pub read : (f : Extension) (c : Torus) (text : List ℕ) (a : Array) → (slots_of f c text ≡ Ok a) ↔ WritesArray f c text a
  pub array : (f : Extension) (c : Torus) (text : List ℕ) (a : Array) → WritesArray f c text a → IsArray f c a

pub record LowerLaws : Type 0 where
  pub names : SpellsItself
  pub same_file : TestsNames
  pub adds_file : AddsTheFile
  pub slots : SlotsLaws
  pub degrees : DegreeIsUnits
  pub bounds : BoundLaws
  pub draws : DrawsLaw
  pub stands : DrawnStands
  pub decrypts : DecryptsLaw
  pub header : HeaderLaw
  pub secret : SecretLaw
  pub public : PublicKeyLaw
  pub cipher : CipherLaw
  pub accepted : AcceptedIsScheme
