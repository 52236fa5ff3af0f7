-- What the lists that a cube is made from hold.
use Rattle.std.specs.Prelude.{◌≡◌, ℕ, suc, ◌*◌, ◌/◌, ◌%◌, ◌^◌, ◌<◌, List, length, drop, get_or}
use Rattle.hyper_cube.specs.Torus.{Torus, Dimension, count, index, generated}
use Rattle.hyper_cube.specs.Checks.{dimensions_of}
use Rattle.hyper_cube.specs.declared.faults.CubeFault.{CubeFault}
use Rattle.hyper_cube.specs.declared.faults.CubeFault.TheVariants.{NotDistinct}

-- m, p, d, and the dimensions with these pairs of generator and size
abbrev pub torus : ℕ → ℕ → ℕ → List (ℕ × ℕ) → Torus
torus m p d pairs = record { m = m; p = p; d = d; dimensions = dimensions_of pairs }

-- the list F 0, F 1, .. of n numbers
pub record IsFilled (F : ℕ → ℕ) (n : ℕ) (list : List ℕ) : Type 0 where
  pub long : length list ≡ n
  pub at : (k : ℕ) → k < n → get_or list k 0 ≡ F k

-- p^u mod m for each u below d
abbrev pub ArePowersOf : ℕ → ℕ → ℕ → List ℕ → Type 0
ArePowersOf m p d powers = IsFilled (λ u. p ^ u % m) d powers

-- T(e) for the index e with number k, for each k below the count
abbrev pub AreElements : ℕ → List Dimension → List ℕ → Type 0
AreElements m Ds elements = IsFilled (λ k. generated Ds (index Ds k) % m) (count Ds) elements

-- for each dimension the count of the later ones
abbrev pub AreStrides : List Dimension → List ℕ → Type 0
AreStrides Ds strides = IsFilled (λ i. count (drop (suc i) Ds)) (length Ds) strides

-- x stands in the list
abbrev pub IsListed : List ℕ → ℕ → Type 0
IsListed list x = (j : ℕ) × (j < length list) × (x ≡ get_or list j 0)

-- g^D mod m, for the pair i
abbrev pub wrapped_pair : ℕ → List (ℕ × ℕ) → ℕ → ℕ
wrapped_pair m pairs i = let pair = get_or pairs i (0, 0) in pair.0 ^ pair.1 % m

-- the product at place i of these elements and powers
abbrev pub product_at : ℕ → List ℕ → List ℕ → ℕ → ℕ
product_at m elements powers i = (get_or elements (i / length powers) 0 * get_or powers (i % length powers) 0) % m

-- the table has m places, and i at place f i, for each i below n
pub record IsTable (f : ℕ → ℕ) (n m : ℕ) (table : List ℕ) : Type 0 where
  pub long : length table ≡ m
  pub at : (i : ℕ) → i < n → get_or table (f i) 0 ≡ i

-- the numbers f i for i below n differ
abbrev pub Differ : (ℕ → ℕ) → ℕ → Type 0
Differ f n = (i j : ℕ) → i < n → j < n → f i ≡ f j → i ≡ j

-- b is the first place below n at which f is what it is at an earlier place, and a is that place
pub record IsRepeat (f : ℕ → ℕ) (n a b : ℕ) : Type 0 where
  pub within : b < n
  pub earlier : a < b
  pub same : f a ≡ f b
  pub before : Differ f b

-- the fault says so
abbrev pub IsRepeatFault : (ℕ → ℕ) → ℕ → CubeFault → Type 0
IsRepeatFault f n fault = (a b : ℕ) × (fault ≡ NotDistinct a b) × IsRepeat f n a b
