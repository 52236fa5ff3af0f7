-- Powers whose exponents are squares.
use Rattle.std.specs.Prelude.{◌≡◌, ℕ, ◌-◌, ◌*◌, ◌%◌, ◌^◌, ◌<◌, List, length, get_or}

-- the entries are s z^(i^2), for i below m
pub record AreChirps (q z s m : ℕ) (xs : List ℕ) : Type 0 where
  pub long : length xs ≡ m
  pub right : (i : ℕ) → i < m → get_or xs i 0 ≡ (s * z ^ (i * i)) % q

-- the entries at k and at -k are z^(k^2), for k below m, places taken modulo their number
pub record IsMirrored (q z m : ℕ) (xs : List ℕ) : Type 0 where
  pub near : (k : ℕ) → k < m → get_or xs k 0 ≡ z ^ (k * k) % q
  pub far : (k : ℕ) → 0 < k → k < m → get_or xs (length xs - k) 0 ≡ z ^ (k * k) % q
