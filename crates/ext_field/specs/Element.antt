-- The elements of E = Z_p[X]/G: lists of d numbers below p, the constant term first.
use Rattle.std.specs.Prelude.{◌≡◌, ℕ, zero, suc, ◌-◌, ◌^◌, ◌<◌, ◌≤◌, ◌≢◌, Bool, IsTrue, nat_lt, List, [], ◌∷◌, map, length, get_or}
use Rattle.std.specs.List.{All}
use Rattle.algebra.specs.Ring.{Ops, residues}
use Rattle.algebra.specs.Power.{power}
use Rattle.algebra.specs.Poly.{row_held, sum, value_at, monomial, at_power, remainder, modulo}
use Rattle.algebra.specs.Whole.{below}

-- p, and the coefficients of the polynomial G of degree d, the constant term first
pub record Extension : Type 0 where
  pub p : ℕ
  pub factor : List ℕ

module _ (f : Extension) where
  -- d
  abbrev pub degree : ℕ
  degree = length f.factor - 1

  -- G is monic, of a degree from 1 to 64, and its coefficients are below p
  pub record IsMonicFactor : Type 0 where
    pub p_low : 2 ≤ f.p
    pub p_high : f.p < 2 ^ 17
    pub degree_low : 1 ≤ degree
    pub degree_high : degree ≤ 64
    pub below : All (λ c. c < f.p) f.factor
    pub monic : get_or f.factor degree 0 ≡ 1

  -- d numbers below p
  abbrev pub is_element : List ℕ → Bool
  is_element a = row_held (λ c. nat_lt c f.p) degree a

  abbrev pub IsElement : List ℕ → Type 0
  IsElement a = IsTrue (is_element a)

  -- sum, product, negative, 0 and 1
  abbrev pub elements : Ops (List ℕ)
  elements = modulo (residues f.p) f.factor

  -- the number c as an element
  abbrev pub number : ℕ → List ℕ
  number c = remainder (residues f.p) f.factor (c ∷ [])

  -- X^k
  abbrev pub eta_power : ℕ → List ℕ
  eta_power k = remainder (residues f.p) f.factor (monomial (residues f.p) k)

  -- X
  abbrev pub eta : List ℕ
  eta = eta_power 1

  -- G(eta^p) is 0
  unfoldable pub IsFrobenius : Type 0
  IsFrobenius = value_at elements (power elements eta f.p) (map number f.factor) ≡ elements.zero

  -- what is true of each extension that is made
  pub record IsExtension : Type 0 where
    pub factor : IsMonicFactor
    pub frobenius : IsFrobenius

  -- a with X^p in place of X
  unfoldable pub frob : List ℕ → List ℕ
  frob a = remainder (residues f.p) f.factor (at_power (residues f.p) f.p a)

  unfoldable pub frob_times : ℕ → List ℕ → List ℕ
  frob_times zero a = a
  frob_times (suc u) a = frob (frob_times u a)

  -- the sum of frob^j(a) over j < d
  unfoldable pub trace : List ℕ → List ℕ
  trace a = sum elements (map (λ j. frob_times j a) (below degree))

  -- the trace of theta_i X^k
  abbrev pub pairing : List (List ℕ) → ℕ → ℕ → List ℕ
  pairing dual i k = trace (elements.mul (get_or dual i []) (eta_power k))

  -- it is 1 for i = k, and 0 for i other than k
  pub record IsDualAt (dual : List (List ℕ)) (i k : ℕ) : Type 0 where
    pub one : i ≡ k → pairing dual i k ≡ elements.one
    pub zero : i ≢ k → pairing dual i k ≡ elements.zero

  -- the list theta_0, theta_1, .. is a dual basis of 1, X, .., X^(d - 1)
  abbrev pub IsDualBasis : List (List ℕ) → Type 0
  IsDualBasis dual = (i k : ℕ) → i < degree → k < degree → IsDualAt dual i k

  -- the first pair that fails, by i and then by k
  pub record IsFirstFailure (dual : List (List ℕ)) (i k : ℕ) : Type 0 where
    pub i_in : i < degree
    pub k_in : k < degree
    pub fails : IsDualAt dual i k → ⊥
    pub rows_before : (j l : ℕ) → j < i → l < degree → IsDualAt dual j l
    pub places_before : (l : ℕ) → l < k → IsDualAt dual i l
