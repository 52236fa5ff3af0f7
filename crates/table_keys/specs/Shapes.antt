-- What holds of each document that is read, whatever the text: ranges and lengths.
use Rattle.std.specs.Prelude.{◌≡◌, ℕ, ◌+◌, ◌-◌, ◌^◌, ◌%◌, ◌<◌, ◌≤◌, List, [], length, slice_index, slice_index_or, sum, All, IfSome, Ok}
use Rattle.table_keys.specs.declared.documents.RowDocument.{RowDocument}
use Rattle.table_keys.specs.Documents.{Document, Moduli, document_of}
use Rattle.table_keys.specs.Templates.{Template, template_of}

-- from low to high
abbrev pub IsFrom : ℕ → ℕ → ℕ → Type 0
IsFrom low high n = (low ≤ n) × (n ≤ high)

-- the coefficients of a monic polynomial over the numbers below p, of degree 1 to 64
pub record IsFactor (p : ℕ) (factor : List ℕ) : Type 0 where
  pub count : IsFrom 2 65 (length factor)
  pub below : All (λ c. c < p) factor
  pub monic : slice_index factor (length factor - 1) ≡ 1

-- d lists of d numbers below p
pub record IsDual (p d : ℕ) (dual : List (List ℕ)) : Type 0 where
  pub count : length dual ≡ d
  pub rows : All (λ row. length row ≡ d) dual
  pub below : All (λ row. All (λ c. c < p) row) dual

-- at most 16 pairs of a number from 1 to m - 1 and one from 1 to m
pub record AreGenerators (m : ℕ) (generators : List (ℕ × ℕ)) : Type 0 where
  pub count : length generators ≤ 16
  pub numbers : All (λ pair. (1 ≤ pair.0) × (pair.0 < m)) generators
  pub sizes : All (λ pair. IsFrom 1 m pair.1) generators

-- numbers of 1 or more with this sum
pub record AreDigits (chain : ℕ) (digits : List ℕ) : Type 0 where
  pub positive : All (λ size. 1 ≤ size) digits
  pub total : sum digits ≡ chain

-- below 2^63, as each integer of a document is
abbrev pub IsSmall : ℕ → Type 0
IsSmall n = n < 2 ^ 63

pub record IsSmallRow (row : RowDocument) : Type 0 where
  pub q : IsSmall row.q
  pub zeta : IsSmall row.zeta
  pub psi : IsSmall row.psi
  pub plain_inverse : IsSmall row.plain_inverse

-- 1 to most moduli, of numbers below 2^63
pub record AreRows (most : ℕ) (rows : List RowDocument) : Type 0 where
  pub count : IsFrom 1 most (length rows)
  pub small : All IsSmallRow rows

-- one list per modulus, list j of j numbers below 2^63
pub record IsTriangle (moduli : ℕ) (inverse : List (List ℕ)) : Type 0 where
  pub count : length inverse ≡ moduli
  pub small : All (λ row. All IsSmall row) inverse
  pub rows : (j : ℕ) → j < length inverse → length (slice_index_or inverse j []) ≡ j

pub record IsModuli (moduli : Moduli) : Type 0 where
  pub weight : IsFrom 1 65536 moduli.weight
  pub digits : AreDigits (length moduli.chain) moduli.digits
  pub chain : AreRows 32 moduli.chain
  pub special : AreRows 16 moduli.special
  pub inverse : IsTriangle (length moduli.chain + length moduli.special) moduli.inverse

pub record IsDocument (document : Document) : Type 0 where
  pub m : IsFrom 3 65536 document.m
  pub p : IsFrom 2 131071 document.p
  pub factor : IsFactor document.p document.factor
  pub dual : IsDual document.p (length document.factor - 1) document.dual
  pub generators : AreGenerators document.m document.generators
  pub moduli : IfSome document.moduli IsModuli

-- odd numbers from 3 to 2^62 - 1, 1 to most of them
pub record ArePlainModuli (most : ℕ) (moduli : List ℕ) : Type 0 where
  pub count : IsFrom 1 most (length moduli)
  pub size : All (λ q. IsFrom 3 (2 ^ 62 - 1) q) moduli
  pub odd : All (λ q. q % 2 ≡ 1) moduli

pub record IsTemplate (template : Template) : Type 0 where
  pub m : IsFrom 3 65536 template.m
  pub p : IsFrom 2 131071 template.p
  pub factor : IsFactor template.p template.factor
  pub dual : IsDual template.p (length template.factor - 1) template.dual
  pub generators : AreGenerators template.m template.generators
  pub weight : IsFrom 1 65536 template.weight
  pub digits : AreDigits (length template.chain) template.digits
  pub chain : ArePlainModuli 32 template.chain
  pub special : ArePlainModuli 16 template.special

-- what a text is read as is of these shapes
abbrev pub DocumentsAreShaped : Type 0
DocumentsAreShaped = (text : List ℕ) (document : Document) → document_of text ≡ Ok document → IsDocument document

abbrev pub TemplatesAreShaped : Type 0
TemplatesAreShaped = (text : List ℕ) (template : Template) → template_of text ≡ Ok template → IsTemplate template
