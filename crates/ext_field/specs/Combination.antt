-- Sums of elements times numbers.
use Rattle.std.specs.Prelude.{ℕ, List, [], length, get_or}
use Rattle.algebra.specs.Ring.{residues}
use Rattle.algebra.specs.Range.{total, adds}
use Rattle.algebra.specs.Poly.{scaled}
use Rattle.ext_field.specs.Element.{Extension, elements}

-- the sum of the elements of a list times the numbers of another, as many as there are numbers
abbrev pub combination : Extension → List ℕ → List (List ℕ) → List ℕ
combination f factors rows = total (adds (elements f)) (length factors) (λ j. scaled (residues f.p) (get_or factors j 0) (get_or rows j []))
