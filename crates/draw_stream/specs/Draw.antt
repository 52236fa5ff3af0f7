-- Draws from a stream of 32-bit words.
use Rattle.std.specs.Prelude.{ℕ, ◌+◌, ◌*◌, ◌/◌, ◌%◌, ◌^◌, ◌<◌, List, map, count_ones, ℤ, pos, ◌-ℤ◌}
use Rattle.std.specs.List.{range_with_len}
use Rattle.rand_chacha.specs.ChaCha.{ChaCha, word_at}

-- the key, the number of the stream, and the place of the next word
pub record Stream : Type 0 where
  pub key : List ℕ
  pub number : ℕ
  pub place : ℕ

-- the stream that a generator has left
abbrev pub rest_of : ChaCha → Stream
rest_of g = record { key = g.key; number = g.stream; place = g.word_pos }

-- the word at a place: a word of ChaCha with 20 rounds
unfoldable pub word : Stream → ℕ → ℕ
word s place = word_at 10 s.key s.number place

-- the stream after k words more
abbrev pub after : Stream → ℕ → Stream
after s k = record s { place = s.place + k }

-- k words may be taken
abbrev pub HasRoom : Stream → ℕ → Type 0
HasRoom s k = s.place + k < 2 ^ 60

-- the ones among bits 0 to 9 less the ones among bits 10 to 19
unfoldable pub error_of : ℕ → ℤ
error_of w = pos (count_ones (w % 2 ^ 10)) -ℤ pos (count_ones (w / 2 ^ 10 % 2 ^ 10))

-- bit 0 less bit 1
unfoldable pub small_of : ℕ → ℤ
small_of w = pos (w % 2) -ℤ pos (w / 2 % 2)

-- the number of four words, the low one first, modulo q
abbrev pub uniform_of : ℕ → ℕ → ℕ → ℕ → ℕ → ℕ
uniform_of q a b c d = (a + 2 ^ 32 * b + 2 ^ 64 * c + 2 ^ 96 * d) % q

-- the uniform number that the four words from a place on give
unfoldable pub uniform_at : Stream → ℕ → ℕ → ℕ
uniform_at s place q =
    uniform_of q (word s place) (word s (place + 1)) (word s (place + 2)) (word s (place + 3))

-- n draws in turn, from a place on
unfoldable pub errors_at : Stream → ℕ → ℕ → List ℤ
errors_at s place n = map (λ i. error_of (word s (place + i))) (range_with_len 0 n)

unfoldable pub smalls_at : Stream → ℕ → ℕ → List ℤ
smalls_at s place n = map (λ i. small_of (word s (place + i))) (range_with_len 0 n)

unfoldable pub uniforms_at : Stream → ℕ → ℕ → ℕ → List ℕ
uniforms_at s place q n = map (λ i. uniform_at s (place + 4 * i) q) (range_with_len 0 n)
