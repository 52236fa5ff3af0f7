-- The rows of a uniform polynomial, one modulus more at a time.
use Rattle.std.proofs.Common.{◌≡◌, ℕ, ◌+◌, ◌*◌, ◌^◌, ◌<◌, ◌≤◌, List, [], ◌∷◌, ◌++◌, map, length, take, get_or, refl, sym, ap, ◌∙◌, arith, length-append}
use Rattle.std.specs.Prelude.{Vec}
use Rattle.std.specs.declared.alloc.Global.{Global}
use Rattle.std.proofs.Math.Nat.{mul-le-mul_left}
use Rattle.std.proofs.lemmas.List.{map_push, length-map, length-take, get_or-map, take_more}
use Rattle.draw_stream.specs.Draw.{Stream, word, after, uniform_at, uniforms_at}
use Rattle.moduli_table.specs.declared.rows.ModRow.{ModRow}
use Rattle.moduli_table.specs.Chain.{Chain, count, row_at, no_row}
use Rattle.scheme_laws.specs.Keys.{uniform_rows}
use Rattle.key_gen.specs.Drawn.{first_moduli}

pub uniform_rows-none : (s : Stream) (n : ℕ) (c : Chain) → [] ≡ uniform_rows s s.place n (first_moduli c 0)
unfolding uniform_rows
uniform_rows-none s n c = refl

-- one modulus more
uniform_rows-push : (s : Stream) (place n q : ℕ) (qs : List ℕ) → uniform_rows s place n (qs ++ q ∷ []) ≡ uniform_rows s place n qs ++ uniforms_at s (place + 4 * n * length qs) q n ∷ []
unfolding uniform_rows
uniform_rows-push s place n q [] = ap (λ p. uniforms_at s p q n ∷ []) (omega arith)
uniform_rows-push s place n q (r ∷ qs) =
    ap (λ rows. uniforms_at s place r n ∷ rows)
    (uniform_rows-push s (place + 4 * n) n q qs ∙ ap (λ p. uniform_rows s (place + 4 * n) n qs ++ uniforms_at s p q n ∷ []) (omega arith))

abbrev modulus : ModRow → ℕ
modulus r = r.q

-- the first moduli, one more
first_moduli-more : (c : Chain) (i : ℕ) → i < count c → first_moduli c (i + 1) ≡ first_moduli c i ++ (row_at c i).q ∷ []
first_moduli-more c i below =
    let rows : List ModRow = c.chain ++ c.special in
    let inside : i < length rows = omega (arith, length-append c.chain c.special) in
    take_more (map modulus rows) i 0 (omega (arith, length-map rows modulus)) ∙ ap (λ x. take i (map modulus rows) ++ x ∷ []) (get_or-map modulus rows i no_row 0 inside)

length-first_moduli : (c : Chain) (i : ℕ) → i < count c → length (first_moduli c i) ≡ i
length-first_moduli c i below =
    let rows : List ModRow = c.chain ++ c.special in
    omega (arith, length-take i (map modulus rows), length-map rows modulus, length-append c.chain c.special)

-- draws from a later place of the same stream
uniforms_at-after : (s : Stream) (k q n : ℕ) → uniforms_at (after s k) (s.place + k) q n ≡ uniforms_at s (s.place + k) q n
unfolding uniforms_at uniform_at word
uniforms_at-after s k q n = refl

-- the rows after one more
pub uniform_rows-more : (s t : Stream) (n i q : ℕ) (c : Chain) (list : List (Vec ℕ Global)) (row : Vec ℕ Global) → i < count c → t ≡ after s (4 * n * i) → map (λ (r : Vec ℕ Global). r.items) list ≡ uniform_rows s s.place n (first_moduli c i) → q ≡ (row_at c i).q → row.items ≡ uniforms_at t t.place q n → map (λ (r : Vec ℕ Global). r.items) (list ++ row ∷ []) ≡ uniform_rows s s.place n (first_moduli c (i + 1))
uniform_rows-more s t n i q c list row below moved so_far same drawn =
    let items : Vec ℕ Global → List ℕ = λ r. r.items in
    let before = uniform_rows s s.place n (first_moduli c i) in
    let place : s.place + 4 * n * i ≡ s.place + 4 * n * length (first_moduli c i) = ap (λ k. s.place + 4 * n * k) (sym (length-first_moduli c i below)) in
    let is : row.items ≡ uniforms_at s (s.place + 4 * n * length (first_moduli c i)) (row_at c i).q n =
    drawn ∙ ap (λ (r : Stream). uniforms_at r r.place q n) moved ∙ uniforms_at-after s (4 * n * i) q n ∙ ap (λ p. uniforms_at s p q n) place ∙ ap (λ x. uniforms_at s (s.place + 4 * n * length (first_moduli c i)) x n) same in
    map_push items list row ∙ ap (λ l. l ++ row.items ∷ []) so_far ∙ ap (λ r. before ++ r ∷ []) is
    ∙ sym (ap (uniform_rows s s.place n) (first_moduli-more c i below) ∙ uniform_rows-push s s.place n (row_at c i).q (first_moduli c i))

-- there are words for one row more
pub room-more : (s t : Stream) (n i rows : ℕ) → t ≡ after s (4 * n * i) → i < rows → s.place + 4 * n * rows < 2 ^ 60 → t.place + 4 * n < 2 ^ 60
room-more s t n i rows moved below room =
    let some : i + 1 ≤ rows = omega arith in
    omega (arith, ap (λ (r : Stream). r.place) moved, mul-le-mul_left (4 * n) some)
