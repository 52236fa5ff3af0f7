-- The tables that are kept with the slots.
use Rattle.std.specs.Prelude.{◌≡◌, ℕ, ◌*◌, ◌%◌, ◌<◌, List, length, get_or, take, drop}
use Rattle.std.specs.List.{All}
use Rattle.algebra.specs.Ring.{residues}
use Rattle.algebra.specs.Range.{total, adds}
use Rattle.algebra.specs.Poly.{scaled}
use Rattle.ext_field.specs.Element.{Extension, degree, elements, eta_power, trace}
use Rattle.hyper_cube.specs.Tables.{IsFilled}

-- the coefficients of the remainders of 1, X, .., X^(m - 1) by G, one remainder after the other
pub record ArePowers (f : Extension) (m : ℕ) (table : List ℕ) : Type 0 where
  pub long : length table ≡ m * degree f
  pub at : (k : ℕ) → k < m → take (degree f) (drop (k * degree f) table) ≡ eta_power f k

-- the constant terms of the traces of 1, X, .., X^(d - 1)
pub record AreTerms (f : Extension) (terms : List ℕ) : Type 0 where
  pub filled : IsFilled (λ j. get_or (trace f (eta_power f j)) 0 0) (degree f) terms
  pub below : All (λ c. c < f.p) terms

-- the sum over i of a_i X^(i t mod m), modulo G
abbrev pub value_of : Extension → ℕ → ℕ → List ℕ → List ℕ
value_of f m t a = total (adds (elements f)) (length a) (λ i. scaled (residues f.p) (get_or a i 0) (eta_power f ((i * t) % m)))
