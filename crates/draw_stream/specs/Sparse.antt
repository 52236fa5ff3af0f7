-- A list of coefficients of which few are not 0.
use Rattle.std.specs.Prelude.{◌≡◌, ℕ, ◌+◌, ◌-◌, ◌*◌, ◌%◌, ◌≤◌, ◌==◌, not, if◌then◌else◌, List, length, replicate, fold, swap, slice_index, slice_set, count_by, All, ℤ, pos, negsuc, unsigned_abs}
use Rattle.std.specs.List.{range_with_len}
use Rattle.draw_stream.specs.Draw.{Stream, word, uniform_at}

-- the numbers 0 to n - 1 as exchanged so far, and the coefficients as set so far
pub record Choice : Type 0 where
  pub order : List ℕ
  pub coefficients : List ℤ

-- 1 for an even word, -1 for an odd one
abbrev pub sign_of : ℕ → ℤ
sign_of w = if w % 2 == 0 then pos 1 else negsuc 0

-- each number at its own place, and no coefficient chosen
unfoldable pub no_choice : ℕ → Choice
no_choice n = record { order = range_with_len 0 n; coefficients = replicate n (pos 0) }

-- these lists are that start
abbrev pub IsStart : ℕ → List ℕ → List ℤ → Type 0
IsStart n order coefficients =
    (order ≡ range_with_len 0 n) × (coefficients ≡ replicate n (pos 0))

-- step i, from five words: entry i is exchanged with one from i on, and names the coefficient that
-- gets a sign
unfoldable pub choose : Stream → ℕ → Choice → ℕ → Choice
choose s n c i =
    let place = s.place + 5 * i in
    let order = swap c.order i (i + uniform_at s place (n - i)) in
    let sign = sign_of (word s (place + 4)) in
    record { order = order; coefficients = slice_set c.coefficients (slice_index order i) sign }

-- what some first steps leave
unfoldable pub choices : Stream → ℕ → ℕ → Choice
choices s n steps = fold (choose s n) (no_choice n) (range_with_len 0 steps)

-- the words that a choice of so many coefficients takes
abbrev pub sparse_words : ℕ → ℕ
sparse_words weight = 5 * weight

-- n coefficients, of which `weight` are chosen
unfoldable pub sparse_of : Stream → ℕ → ℕ → List ℤ
sparse_of s n weight = (choices s n weight).coefficients

-- n coefficients: as many as the weight says are not 0, and each of those is 1 or -1
pub record IsSparse (n weight : ℕ) (xs : List ℤ) : Type 0 where
  pub len : length xs ≡ n
  pub chosen : count_by (λ x. not (unsigned_abs x == 0)) xs ≡ weight
  pub small : All (λ x. unsigned_abs x ≤ 1) xs

-- each choice is such a list
abbrev pub SparseIsSparse : Type 0
SparseIsSparse = (s : Stream) (n weight : ℕ) → weight ≤ n → IsSparse n weight (sparse_of s n weight)
