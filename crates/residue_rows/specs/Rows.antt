-- Polynomials of R kept by their residues: for each of some moduli a row of n residues, n the degree of Phi_m.
use Rattle.std.specs.Prelude.{◌≡◌, ℕ, ◌<◌, nat_lt, Bool, true, false, ◌&&◌, All, List, [], ◌∷◌, map, length, ℤ}
use Rattle.std.specs.List.{AllZip}
use Rattle.algebra.specs.Ring.{Ops, residues}
use Rattle.algebra.specs.Poly.{row_held, scaled, at_power, remainder, modulo}
use Rattle.algebra.specs.Whole.{residue}
use Rattle.cyclotomic.specs.Cyclotomic.{phi, degree}

-- Phi_m modulo q
abbrev pub phi_modulo : ℕ → ℕ → List ℕ
phi_modulo m q = map (residue q) (phi m)

-- R modulo q, as lists of n residues
abbrev pub R_modulo : ℕ → ℕ → Ops (List ℕ)
R_modulo m q = modulo (residues q) (phi_modulo m q)

-- the residues modulo q of whole coefficients
abbrev pub row_of : ℕ → List ℤ → List ℕ
row_of q a = map (residue q) a

-- one row for each modulus
abbrev pub rows_of : List ℕ → List ℤ → List (List ℕ)
rows_of qs a = map (λ q. row_of q a) qs

-- n residues for each modulus
abbrev pub AreRows : ℕ → List ℕ → List (List ℕ) → Type 0
AreRows m qs rows = AllZip (λ q row. (length row ≡ degree m) × All (λ c. c < q) row) qs rows

-- the test of it
unfoldable pub are_rows : ℕ → List ℕ → List (List ℕ) → Bool
are_rows m [] [] = true
are_rows m [] (row ∷ rows) = false
are_rows m (q ∷ qs) [] = false
are_rows m (q ∷ qs) (row ∷ rows) = row_held (λ c. nat_lt c q) (degree m) row && are_rows m qs rows

-- f at each modulus and its row
unfoldable pub each : (ℕ → List ℕ → List ℕ) → List ℕ → List (List ℕ) → List (List ℕ)
each f [] rows = []
each f (q ∷ qs) [] = []
each f (q ∷ qs) (row ∷ rows) = f q row ∷ each f qs rows

-- f at each modulus and its two rows
unfoldable pub both : (ℕ → List ℕ → List ℕ → List ℕ) → List ℕ → List (List ℕ) → List (List ℕ) → List (List ℕ)
both f [] a b = []
both f (q ∷ qs) [] b = []
both f (q ∷ qs) (row ∷ a) [] = []
both f (q ∷ qs) (row ∷ a) (other ∷ b) = f q row other ∷ both f qs a b

-- R modulo each of the moduli: the operations go modulus by modulus
abbrev pub R_each : ℕ → List ℕ → Ops (List (List ℕ))
R_each m qs = record {
  zero = map (λ q. (R_modulo m q).zero) qs;
  one = map (λ q. (R_modulo m q).one) qs;
  add = both (λ q. (R_modulo m q).add) qs;
  mul = both (λ q. (R_modulo m q).mul) qs;
  neg = each (λ q. (R_modulo m q).neg) qs;
}

-- k * a
abbrev pub multiple_each : List ℕ → ℤ → List (List ℕ) → List (List ℕ)
multiple_each qs k a = each (λ q row. scaled (residues q) (residue q k) row) qs a

-- a(X^k)
abbrev pub substituted_each : ℕ → List ℕ → ℕ → List (List ℕ) → List (List ℕ)
substituted_each m qs k a = each (λ q row. remainder (residues q) (phi_modulo m q) (at_power (residues q) k row)) qs a
