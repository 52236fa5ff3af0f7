-- The printed summary of a table.
use Rattle.std.specs.Prelude.{ℕ, ◌==◌, Bool, List, [], ◌∷◌, ◌++◌, length, codes, decimal, Option, None, Some, if◌then◌else◌}
use Rattle.std.specs.List.{flat_map}
use Rattle.algebra.specs.Whole.{below}
use Rattle.cyclotomic.specs.Cyclotomic.{degree as phi_degree}
use Rattle.hyper_cube.specs.Torus.{Torus, slot_count, dimension, is_good}
use Rattle.noise_bound.specs.Machine.{Sizes, fresh, divided, settled, limit}
use Rattle.noise_bound.specs.Rounding.{exponent, mantissa}
use Rattle.residue_rows.specs.Kept.{RingSetting}
use Rattle.scheme_laws.specs.Scheme.{sizes_of}
use Rattle.slot_factor.specs.Packing.{Packing}
use Rattle.table_file.specs.Setting.{Setting}

-- a word and a number
abbrev pub labelled : List ℕ → ℕ → List ℕ
labelled word n = word ++ decimal n

-- a bound: its mantissa, and its power of two where this is not 1
unfoldable pub bound_text : ℕ → List ℕ
bound_text x = if exponent x == 0 then decimal (mantissa x) else decimal (mantissa x) ++ codes "*2^" ++ decimal (exponent x)

-- a word and a bound
abbrev pub bounded : List ℕ → ℕ → List ℕ
bounded word x = word ++ bound_text x

abbrev pub newline : List ℕ
newline = 10 ∷ []

-- m, the degree, p, the degree of the extension, and the number of slots
unfoldable pub head_line : Packing → List ℕ
head_line s = labelled (codes "m ") s.cube.m ++ labelled (codes " n ") (phi_degree s.cube.m) ++ labelled (codes " p ") s.cube.p ++ labelled (codes " d ") s.cube.d ++ labelled (codes " slots ") (slot_count s.cube) ++ newline

abbrev pub quality : Bool → List ℕ
quality good = if good then codes " good" else codes " bad"

-- a dimension
unfoldable pub dimension_line : Torus → ℕ → List ℕ
dimension_line c i = labelled (codes "dim ") i ++ labelled (codes " generator ") (dimension c i).generator ++ labelled (codes " size ") (dimension c i).size ++ quality (is_good c i) ++ newline

-- how many moduli and groups there are
unfoldable pub chain_line : RingSetting → List ℕ
chain_line k = labelled (codes "chain ") (length k.moduli.chain) ++ labelled (codes " special ") (length k.moduli.special) ++ labelled (codes " columns ") (length k.digits) ++ newline

unfoldable pub height_line : Sizes → List ℕ
height_line t = labelled (codes "height ") t.height ++ labelled (codes " weight ") t.weight ++ newline

unfoldable pub bounds_line : Sizes → List ℕ
bounds_line t = bounded (codes "fresh ") (fresh t) ++ bounded (codes " switch ") (divided t) ++ bounded (codes " settle ") (settled t) ++ newline

-- the limit of a level
unfoldable pub limit_line : Sizes → ℕ → List ℕ
limit_line t level = labelled (codes "limit ") level ++ bounded (codes " ") (limit t level) ++ newline

unfoldable pub limit_lines : Sizes → List ℕ
limit_lines t = flat_map (limit_line t) (below (length t.chain))

-- what is printed of the moduli
unfoldable pub chain_lines : Option RingSetting → List ℕ
chain_lines None = []
chain_lines (Some k) = chain_line k ++ height_line (sizes_of k) ++ bounds_line (sizes_of k) ++ limit_lines (sizes_of k)

unfoldable pub dimension_lines : Torus → List ℕ
dimension_lines c = flat_map (dimension_line c) (below (length c.dimensions))

-- a line each for the ring, each dimension, the chain, the height, the bounds, and the limit of each level
unfoldable pub summary_of : Setting → List ℕ
summary_of s = head_line s.packing ++ dimension_lines s.packing.cube ++ chain_lines s.chain
