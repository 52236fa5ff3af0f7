-- What is said of sums and products over ranges, and of Euclid's algorithm.
use Rattle.std.specs.Prelude.{◌≡◌, ◌≢◌, ℕ, suc, ◌+◌, ◌-◌, ◌*◌, ◌<◌}
use Rattle.algebra.specs.Range.{Monoid, total}
use Rattle.algebra.specs.Divisor.{Dvd}

-- totals of equal terms, of a range in two pieces, of rows and columns, from the other end, and of one term
pub record TotalLaw {C : Type 0} (M : Monoid C) : Type 0 where
  pub same : (n : ℕ) (f g : ℕ → C) → ((i : ℕ) → i < n → f i ≡ g i) → total M n f ≡ total M n g
  pub split : (m n : ℕ) (f : ℕ → C) → total M (m + n) f ≡ M.op (total M m f) (total M n (λ i. f (m + i)))
  pub exchange : (m n : ℕ) (f : ℕ → ℕ → C) → total M m (λ i. total M n (f i)) ≡ total M n (λ j. total M m (λ i. f i j))
  pub reversed : (n : ℕ) (f : ℕ → C) → total M n (λ i. f (n - suc i)) ≡ total M n f
  pub single : (n k : ℕ) (f : ℕ → C) → k < n → ((i : ℕ) → i < n → i ≢ k → f i ≡ M.unit) → total M n f ≡ f k

-- a common divisor that is a multiple of a less a multiple of b
abbrev pub EuclidLaw : Type 0
EuclidLaw = (a b : ℕ) → 0 < a → 0 < b → (g : ℕ) × (u : ℕ) × (v : ℕ) × Dvd g a × Dvd g b × (u * a ≡ v * b + g)
