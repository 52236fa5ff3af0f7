-- What a bound stands for.
use Rattle.std.specs.Prelude.{◌≡◌, ℕ, ◌*◌, ◌^◌, ◌<◌, List, length, get_or}
use Rattle.noise_bound.specs.declared.rounding.Bound.{Bound}

-- the whole number
abbrev pub value : Bound → ℕ
value b = b.man * 2 ^ b.exp

-- a bound of this number, with an exponent that any call takes
pub record IsBoundOf (b : Bound) (x : ℕ) : Type 0 where
  pub number : value b ≡ x
  pub small : b.exp < 4096

-- the bounds are those of f, place by place
abbrev pub AreBounds : (ℕ → ℕ) → List Bound → Type 0
AreBounds f bs = (i : ℕ) (b : Bound) → i < length bs → b ≡ get_or bs i b → IsBoundOf b (f i)
