-- Arrays of elements, one for each index of the torus.
use Rattle.std.specs.Prelude.{◌≡◌, ℕ, List, [], map, length, get_or}
use Rattle.std.specs.List.{All}
use Rattle.hyper_cube.specs.Torus.{Torus, slot_count, place, indices}
use Rattle.ext_field.specs.Element.{Extension, IsElement}

-- the elements, by the numbers of their indices
abbrev pub Array : Type 0
Array = List (List ℕ)

-- one element for each index
pub record IsArray (f : Extension) (c : Torus) (a : Array) : Type 0 where
  pub long : length a ≡ slot_count c
  pub elements : All (IsElement f) a

-- a[e]
abbrev pub slot : Torus → Array → List ℕ → List ℕ
slot c a e = get_or a (place c.dimensions e) []

-- the array whose slot e is y e
abbrev pub array : Torus → (List ℕ → List ℕ) → Array
array c y = map y (indices c.dimensions)
