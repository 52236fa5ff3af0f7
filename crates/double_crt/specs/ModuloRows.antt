-- Numbers modulo one modulus, residues of coefficients or values at the units, and what is done to them place by place.
use Rattle.std.specs.Prelude.{◌≡◌, ℕ, ◌+◌, ◌-◌, ◌*◌, ◌%◌, List, [], map, length, get_or, ℤ}
use Rattle.algebra.specs.Whole.{residue}
use Rattle.residue_rows.specs.ValueLaws.{pointwise}

-- the modulus and numbers below it
pub record ModuloRow : Type 0 where
  pub q : ℕ
  pub entries : List ℕ

abbrev pub empty_row : ModuloRow
empty_row = record { q = 0; entries = [] }

-- the same modulus and as many numbers
pub record IsAlike (a b : ModuloRow) : Type 0 where
  pub modulus : b.q ≡ a.q
  pub long : length b.entries ≡ length a.entries

abbrev pub added : ModuloRow → ModuloRow → ModuloRow
added a b = record { q = a.q; entries = pointwise (λ x y. (x + y) % a.q) a.entries b.entries }

abbrev pub subtracted : ModuloRow → ModuloRow → ModuloRow
subtracted a b = record { q = a.q; entries = pointwise (λ x y. (x + (a.q - y)) % a.q) a.entries b.entries }

abbrev pub multiplied : ModuloRow → ModuloRow → ModuloRow
multiplied a b = record { q = a.q; entries = pointwise (λ x y. (x * y) % a.q) a.entries b.entries }

abbrev pub negative : ModuloRow → ModuloRow
negative a = record { q = a.q; entries = map (λ x. (a.q - x) % a.q) a.entries }

abbrev pub scaled_by : ℤ → ModuloRow → ModuloRow
scaled_by k a = record { q = a.q; entries = map (λ x. (residue a.q k * x) % a.q) a.entries }

-- the numbers at other places
abbrev pub permuted : (ℕ → ℕ) → ModuloRow → List ℕ → ModuloRow
permuted at a units = record { q = a.q; entries = map (λ j. get_or a.entries (at j) 0) units }
