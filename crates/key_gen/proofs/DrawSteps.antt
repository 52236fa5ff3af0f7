-- Lists of draws, one draw more at a time.
use Rattle.std.proofs.Common.{◌≡◌, ℕ, ◌+◌, ◌*◌, List, [], ◌∷◌, ◌++◌, length, refl, sym, ap, ◌∙◌, arith, zero-add, add_assoc}
use Rattle.std.specs.Prelude.{ℤ}
use Rattle.std.proofs.lemmas.List.FromFn.{map-range_with_len_more}
use Rattle.draw_stream.specs.Draw.{Stream, word, after, error_of, small_of, uniform_at, errors_at, smalls_at, uniforms_at}

-- words after words
pub after-after : (s : Stream) (a b c : ℕ) → a + b ≡ c → after (after s a) b ≡ after s c
after-after s a b c e = ap (λ p. record s { place = p }) (add_assoc s.place a b ∙ ap (λ k. s.place + k) e)

pub errors-none : (s : Stream) (place : ℕ) → [] ≡ errors_at s place 0
unfolding errors_at
errors-none s place = refl

pub smalls-none : (s : Stream) (place : ℕ) → [] ≡ smalls_at s place 0
unfolding smalls_at
smalls-none s place = refl

pub uniforms-none : (s : Stream) (place q : ℕ) → [] ≡ uniforms_at s place q 0
unfolding uniforms_at
uniforms-none s place q = refl

-- one draw more
pub errors-more : (s t : Stream) (n : ℕ) (list : List ℤ) (x : ℤ) → t ≡ after s n → list ≡ errors_at s s.place n → x ≡ error_of (word t t.place) → list ++ x ∷ [] ≡ errors_at s s.place (n + 1)
unfolding errors_at word
errors-more s t n list x moved so_far drawn =
    let drawn_at : x ≡ error_of (word s (s.place + n)) = drawn ∙ ap (λ r. error_of (word r r.place)) moved in
    ap (λ l. l ++ x ∷ []) so_far ∙ ap (λ y. errors_at s s.place n ++ y ∷ []) drawn_at ∙ sym (map-range_with_len_more (λ i. error_of (word s (s.place + i))) 0 n n (zero-add n))

pub smalls-more : (s t : Stream) (n : ℕ) (list : List ℤ) (x : ℤ) → t ≡ after s n → list ≡ smalls_at s s.place n → x ≡ small_of (word t t.place) → list ++ x ∷ [] ≡ smalls_at s s.place (n + 1)
unfolding smalls_at word
smalls-more s t n list x moved so_far drawn =
    let drawn_at : x ≡ small_of (word s (s.place + n)) = drawn ∙ ap (λ r. small_of (word r r.place)) moved in
    ap (λ l. l ++ x ∷ []) so_far ∙ ap (λ y. smalls_at s s.place n ++ y ∷ []) drawn_at ∙ sym (map-range_with_len_more (λ i. small_of (word s (s.place + i))) 0 n n (zero-add n))

pub uniforms-more : (s t : Stream) (q n x : ℕ) (list : List ℕ) → t ≡ after s (4 * n) → list ≡ uniforms_at s s.place q n → x ≡ uniform_at t t.place q → list ++ x ∷ [] ≡ uniforms_at s s.place q (n + 1)
unfolding uniforms_at uniform_at word
uniforms-more s t q n x list moved so_far drawn =
    let drawn_at : x ≡ uniform_at s (s.place + 4 * n) q = drawn ∙ ap (λ r. uniform_at r r.place q) moved in
    ap (λ l. l ++ x ∷ []) so_far ∙ ap (λ y. uniforms_at s s.place q n ++ y ∷ []) drawn_at ∙ sym (map-range_with_len_more (λ i. uniform_at s (s.place + 4 * i) q) 0 n n (zero-add n))
