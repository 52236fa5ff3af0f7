-- What is said of rows of residues, for m above 0 and moduli above 0.
use Rattle.std.specs.Prelude.{◌≡◌, ◌↔◌, ℕ, ◌%◌, ◌<◌, IsTrue, All, List, length, ℤ}
use Rattle.algebra.specs.Ring.{HeldLaws, whole_numbers}
use Rattle.algebra.specs.Hom.{Preserves}
use Rattle.algebra.specs.Poly.{coeff}
use Rattle.algebra.specs.Whole.{SameModulo, AreInvertible, product_of}
use Rattle.cyclotomic.specs.Cyclotomic.{R, IsElement, substituted, multiple}
use Rattle.residue_rows.specs.Rows.{AreRows, are_rows, rows_of, R_each, multiple_each, substituted_each}
use Rattle.residue_rows.specs.Whole.{whole, IsWhole}

-- the test says whether there are n residues for each modulus
abbrev pub TestDecides : Type 0
TestDecides = (m : ℕ) (qs : List ℕ) (rows : List (List ℕ)) → IsTrue (are_rows m qs rows) ↔ AreRows m qs rows

-- R modulo each of some moduli is a commutative ring with one
abbrev pub RowsAreRing : Type 0
RowsAreRing = (m : ℕ) (qs : List ℕ) → 0 < m → All (λ q. 0 < q) qs → HeldLaws (are_rows m qs) (R_each m qs)

-- the residues of whole polynomials
pub record ResiduesKeep (m : ℕ) (qs : List ℕ) : Type 0 where
  pub held : (a : List ℤ) → IsElement m a → AreRows m qs (rows_of qs a)
  pub operations : Preserves (R m) (R_each m qs) (rows_of qs)
  pub multiples : (k : ℤ) (a : List ℤ) → rows_of qs (multiple k a) ≡ multiple_each qs k (rows_of qs a)
  pub substitutions : (k : ℕ) (a : List ℤ) → rows_of qs (substituted m k a) ≡ substituted_each m qs k (rows_of qs a)

abbrev pub ResiduesLaw : Type 0
ResiduesLaw = (m : ℕ) (qs : List ℕ) → 0 < m → All (λ q. 0 < q) qs → ResiduesKeep m qs

-- multiples and substitutions of rows are rows, multiples go with sums and products, and a multiple of a multiple is one
pub record MultiplesKeep (m : ℕ) (qs : List ℕ) : Type 0 where
  pub held : (k : ℤ) (a : List (List ℕ)) → AreRows m qs a → AreRows m qs (multiple_each qs k a)
  pub sum : (k : ℤ) (a b : List (List ℕ)) → AreRows m qs a → AreRows m qs b → multiple_each qs k ((R_each m qs).add a b) ≡ (R_each m qs).add (multiple_each qs k a) (multiple_each qs k b)
  pub product : (k : ℤ) (a b : List (List ℕ)) → AreRows m qs a → AreRows m qs b → multiple_each qs k ((R_each m qs).mul a b) ≡ (R_each m qs).mul (multiple_each qs k a) b
  pub substituted : (k : ℕ) (a : List (List ℕ)) → AreRows m qs a → AreRows m qs (substituted_each m qs k a)

abbrev pub MultiplesLaw : Type 0
MultiplesLaw = (m : ℕ) (qs : List ℕ) → 0 < m → All (λ q. 0 < q) qs → MultiplesKeep m qs

-- rows are equal exactly where the coefficients are equal up to a multiple of the product of the moduli
abbrev pub RowsDetermine : Type 0
RowsDetermine = (qs : List ℕ) (a b : List ℤ) → AreInvertible qs → All (λ q. 0 < q) qs → length a ≡ length b → (rows_of qs a ≡ rows_of qs b) ↔ ((i : ℕ) → SameModulo (product_of qs) (coeff whole_numbers a i) (coeff whole_numbers b i))

-- the whole polynomial behind rows, for odd moduli, and the only one
pub record WholeIs (m : ℕ) (qs : List ℕ) (rows : List (List ℕ)) : Type 0 where
  pub is : IsWhole m qs rows (whole m qs rows)
  pub only : (a : List ℤ) → IsWhole m qs rows a → a ≡ whole m qs rows

abbrev pub WholeLaw : Type 0
WholeLaw = (m : ℕ) (qs : List ℕ) (rows : List (List ℕ)) → 0 < m → AreInvertible qs → All (λ q. q % 2 ≡ 1) qs → AreRows m qs rows → WholeIs m qs rows
