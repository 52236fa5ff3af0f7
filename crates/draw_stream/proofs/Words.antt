-- The number of four words that are read in turn.
use Rattle.std.proofs.Common.{◌≡◌, ℕ, ◌+◌, ◌*◌, ◌%◌, ◌^◌, ◌<◌, ap, ◌∙◌, arith}
use Rattle.draw_stream.specs.Draw.{Stream, word, after, uniform_of, uniform_at}

-- a word after some others, seen from the stream before them
word-after : (s t : Stream) (k x : ℕ) → t ≡ after s k → x ≡ word t t.place → x ≡ word s (s.place + k)
unfolding word
word-after s t k x e h = h ∙ ap (λ r. word r r.place) e

one_more : (s t u : Stream) (k : ℕ) → t ≡ after s k → u ≡ after t 1 → u ≡ after s (k + 1)
one_more s t u k e f =
    f ∙ ap (λ r. after r 1) e ∙ ap (λ p. record s { place = p }) (omega arith)

-- a word in the upper half of 64 bits
upper : (w : ℕ) → w < 2 ^ 32 → w * 2 ^ 32 % 2 ^ 64 ≡ w * 2 ^ 32
upper w h = omega arith

-- the residue of the number of the four words from its halves
pub uniform_from_halves : (r q x a b c d : ℕ) → b < 2 ^ 32 → d < 2 ^ 32 → r ≡ q → x ≡ (2 ^ 64 * (c + d * 2 ^ 32 % 2 ^ 64) + (a + b * 2 ^ 32 % 2 ^ 64)) % r → x ≡ uniform_of q a b c d
uniform_from_halves r q x a b c d b_in d_in same h =
    let sums : 2 ^ 64 * (c + d * 2 ^ 32 % 2 ^ 64) + (a + b * 2 ^ 32 % 2 ^ 64) ≡ a + 2 ^ 32 * b + 2 ^ 64 * c + 2 ^ 96 * d = omega (arith, upper b b_in, upper d d_in) in
    h ∙ ap (λ n. n % r) sums ∙ ap (λ n. uniform_of n a b c d) same

pub uniform_from_words : (s t u v : Stream) (q x a b c d : ℕ) → t ≡ after s 1 → u ≡ after t 1 → v ≡ after u 1 → a ≡ word s s.place → b ≡ word t t.place → c ≡ word u u.place → d ≡ word v v.place → x ≡ uniform_of q a b c d → x ≡ uniform_at s s.place q
unfolding uniform_at
uniform_from_words s t u v q x a b c d t_is u_is v_is a_is b_is c_is d_is h =
    let two : u ≡ after s 2 = one_more s t u 1 t_is u_is in
    let three : v ≡ after s 3 = one_more s u v 2 two v_is in
    let first : b ≡ word s (s.place + 1) = word-after s t 1 b t_is b_is in
    let second : c ≡ word s (s.place + 2) = word-after s u 2 c two c_is in
    let third : d ≡ word s (s.place + 3) = word-after s v 3 d three d_is in
    h ∙ ap (λ w. uniform_of q w b c d) a_is ∙ ap (λ w. uniform_of q (word s s.place) w c d) first ∙ ap (λ w. uniform_of q (word s s.place) (word s (s.place + 1)) w d) second ∙ ap (uniform_of q (word s s.place) (word s (s.place + 1)) (word s (s.place + 2))) third
