-- The checks of a torus, in their order, and what is true of each torus that passes them.
use Rattle.std.specs.Prelude.{◌≡◌, ℕ, ◌*◌, ◌^◌, ◌%◌, ◌<◌, ◌≤◌, Bool, eqb, not, nat_lt, if◌then◌else◌, List, length, map, Option, None, Some}
use Rattle.std.specs.List.{All, AllZip}
use Rattle.algebra.specs.Divisor.{number_of_units}
use Rattle.algebra.specs.Whole.{below}
use Rattle.hyper_cube.specs.Torus.{Torus, Dimension, first_place, slot_count, dimension, size, unit_at}
use Rattle.hyper_cube.specs.declared.faults.CubeFault.{CubeFault}
use Rattle.hyper_cube.specs.declared.faults.CubeFault.TheVariants.{NotOrder, NotPower, WrongCount, NotDistinct, Memory}

-- the dimensions with these pairs of generator and size
abbrev pub dimensions_of : List (ℕ × ℕ) → List Dimension
dimensions_of pairs = map (λ pair. record { generator = pair.0; size = pair.1 }) pairs

-- e has one number for each dimension, below its size
abbrev pub IsIndex : List Dimension → List ℕ → Type 0
IsIndex Ds e = AllZip (λ D i. i < D.size) Ds e

-- the least number below n that passes a test, or n where none does
unfoldable pub least : ℕ → (ℕ → Bool) → ℕ
least n test = first_place (map test (below n))

module _ (c : Torus) where
  abbrev pub dimension_count : ℕ
  dimension_count = length c.dimensions

  -- how many products T(e) * p^u there are
  abbrev pub place_count : ℕ
  place_count = slot_count c * c.d

  -- g_i^D_i mod m
  abbrev pub wrapped : ℕ → ℕ
  wrapped i = (dimension c i).generator ^ size c i % c.m

  -- g_i^D_i is p^j modulo m for some j below d
  abbrev pub has_power : ℕ → Bool
  has_power i = nat_lt (least c.d (λ j. eqb (wrapped i) (c.p ^ j % c.m))) c.d

  -- the least dimension for which it is none, or the number of dimensions
  abbrev pub bad_dimension : ℕ
  bad_dimension = least dimension_count (λ i. not (has_power i))

  -- the first place with the product that stands at place b
  abbrev pub first_same : ℕ → ℕ
  first_same b = least b (λ a. eqb (unit_at c a) (unit_at c b))

  -- the first place whose product stands earlier, or the number of places
  abbrev pub first_repeat : ℕ
  first_repeat = least place_count (λ b. nat_lt (first_same b) b)

  -- the first check that fails
  unfoldable pub first_fault : Option CubeFault
  first_fault =
      if not (eqb (c.p ^ c.d % c.m) 1) then Some NotOrder
      else if nat_lt bad_dimension dimension_count then Some (NotPower bad_dimension)
      else if not (eqb (c.d * slot_count c) (number_of_units c.m)) then Some WrongCount
      else if nat_lt first_repeat place_count then Some (NotDistinct (first_same first_repeat) first_repeat)
      else None

  -- the ranges of m, p, d, generators and sizes
  pub record IsShape : Type 0 where
    pub m_low : 3 ≤ c.m
    pub m_high : c.m ≤ 65536
    pub p_low : 2 ≤ c.p
    pub p_high : c.p ≤ 131071
    pub d_low : 1 ≤ c.d
    pub d_high : c.d ≤ 64
    pub few : dimension_count ≤ 16
    pub generators : All (λ D. (1 ≤ D.generator) × (D.generator < c.m)) c.dimensions
    pub sizes : All (λ D. (1 ≤ D.size) × (D.size ≤ c.m)) c.dimensions

  -- p^d is 1 modulo m
  abbrev pub HasOrder : Type 0
  HasOrder = c.p ^ c.d % c.m ≡ 1

  -- g_i^D_i is a power of p modulo m, for each i below n
  abbrev pub IsPower : ℕ → Type 0
  IsPower i = (j : ℕ) × (wrapped i ≡ c.p ^ j % c.m)

  abbrev pub ArePowers : ℕ → Type 0
  ArePowers n = (i : ℕ) → i < n → IsPower i

  -- there are as many places as units modulo m
  abbrev pub IsCounted : Type 0
  IsCounted = c.d * slot_count c ≡ number_of_units c.m

  -- the products at the places below n differ
  abbrev pub AreDistinct : ℕ → Type 0
  AreDistinct n = (i j : ℕ) → i < n → j < n → unit_at c i ≡ unit_at c j → i ≡ j

  -- what is true of each torus that is accepted
  pub record IsCube : Type 0 where
    pub shape : IsShape
    pub order : HasOrder
    pub powers : ArePowers dimension_count
    pub counted : IsCounted
    pub distinct : AreDistinct place_count

  -- i is the first dimension for which g_i^D_i is no power of p
  pub record IsNotPower (i : ℕ) : Type 0 where
    pub order : HasOrder
    pub within : i < dimension_count
    pub before : ArePowers i
    pub fails : IsPower i → ⊥

  pub record IsWrongCount : Type 0 where
    pub order : HasOrder
    pub powers : ArePowers dimension_count
    pub fails : IsCounted → ⊥

  -- b is the first place whose product stands earlier, and a is where it stands
  pub record IsNotDistinct (a b : ℕ) : Type 0 where
    pub order : HasOrder
    pub powers : ArePowers dimension_count
    pub counted : IsCounted
    pub within : b < place_count
    pub earlier : a < b
    pub same : unit_at c a ≡ unit_at c b
    pub before : AreDistinct b

  -- what each fault says
  abbrev pub IsFault : CubeFault → Type 0
  IsFault NotOrder = HasOrder → ⊥
  IsFault (NotPower i) = IsNotPower i
  IsFault WrongCount = IsWrongCount
  IsFault (NotDistinct a b) = IsNotDistinct a b
  IsFault Memory = ⊥
