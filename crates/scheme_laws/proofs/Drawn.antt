-- What a stream gives: secrets, errors, small polynomials, residues, and public keys.
use Rattle.std.specs.Prelude.{◌≡◌, ℕ, ◌+◌, ◌*◌, ◌/◌, ◌%◌, ◌^◌, ◌<◌, ◌≤◌, All, List, [], ◌∷◌, length, get_or, nat_abs, count_ones, refl}
use Rattle.std.specs.List.{range_with_len}
use Rattle.std.proofs.Common.{arith, mod-lt}
use Rattle.std.proofs.lemmas.List.Elements.{All-map, All-tail}
use Rattle.std.proofs.lemmas.List.FromFn.{length-map-range_with_len}
use Rattle.draw_stream.specs.Draw.{Stream, word, error_of, small_of, uniform_at, errors_at, smalls_at, uniforms_at}
use Rattle.draw_stream.proofs.Choices.{sparse_is_sparse}
use Rattle.draw_stream.proofs.Ones.{count_ones_ten, abs_difference}
use Rattle.cyclotomic.specs.Cyclotomic.{degree}
use Rattle.residue_rows.specs.Rows.{AreRows}
use Rattle.residue_rows.specs.Kept.{RingSetting, IsSetting}
use Rattle.scheme_laws.specs.Scheme.{SchemeSetting, top, moduli_at}
use Rattle.scheme_laws.specs.Keys.{n_of, IsError, uniform_rows, uniform_words}
use Rattle.scheme_laws.specs.Ciphers.{IsSmall}
use Rattle.scheme_laws.specs.SchemeLaws.{DrawsAre, DrawsLaw}
use Rattle.scheme_laws.proofs.LevelRows.{moduli, top_fits}

-- ---- single draws
error_small : (w : ℕ) → nat_abs (error_of w) ≤ 10
unfolding error_of
error_small w = abs_difference (count_ones (w % 2 ^ 10)) (count_ones (w / 2 ^ 10 % 2 ^ 10)) 10 (count_ones_ten w) (count_ones_ten (w / 2 ^ 10))

small_small : (w : ℕ) → nat_abs (small_of w) ≤ 1
unfolding small_of
small_small w = abs_difference (w % 2) (w / 2 % 2) 1 (omega arith) (omega arith)

uniform_small : (stream : Stream) (place q : ℕ) → 0 < q → uniform_at stream place q < q
unfolding uniform_at
uniform_small stream place q l = mod-lt (word stream place + 2 ^ 32 * word stream (place + 1) + 2 ^ 64 * word stream (place + 2) + 2 ^ 96 * word stream (place + 3)) l

-- ---- lists of draws
errors_long : (stream : Stream) (place n : ℕ) → length (errors_at stream place n) ≡ n
unfolding errors_at
errors_long stream place n = length-map-range_with_len (λ i. error_of (word stream (place + i))) 0 n

errors_small : (stream : Stream) (place n : ℕ) → All (λ x. nat_abs x ≤ 10) (errors_at stream place n)
unfolding errors_at
errors_small stream place n = All-map (λ x. nat_abs x ≤ 10) (λ i. error_of (word stream (place + i))) (range_with_len 0 n) (λ k d l. error_small (word stream (place + get_or (range_with_len 0 n) k d)))

pub drawn_error : (r : RingSetting) (stream : Stream) (place : ℕ) → IsError r (errors_at stream place (n_of r))
drawn_error r stream place = record { long = errors_long stream place (n_of r); small = errors_small stream place (n_of r) }

pub drawn_small : (t : SchemeSetting) (stream : Stream) (place : ℕ) → IsSmall t (smalls_at stream place (n_of t.ring))
unfolding smalls_at
drawn_small t stream place = record {
  long = length-map-range_with_len (λ i. small_of (word stream (place + i))) 0 (n_of t.ring);
  small = All-map (λ x. nat_abs x ≤ 1) (λ i. small_of (word stream (place + i))) (range_with_len 0 (n_of t.ring)) (λ k d l. small_small (word stream (place + get_or (range_with_len 0 (n_of t.ring)) k d)));
}

uniforms_long : (stream : Stream) (place q n : ℕ) → length (uniforms_at stream place q n) ≡ n
unfolding uniforms_at
uniforms_long stream place q n = length-map-range_with_len (λ i. uniform_at stream (place + 4 * i) q) 0 n

uniforms_small : (stream : Stream) (place q n : ℕ) → 0 < q → All (λ c. c < q) (uniforms_at stream place q n)
unfolding uniforms_at
uniforms_small stream place q n l = All-map (λ c. c < q) (λ i. uniform_at stream (place + 4 * i) q) (range_with_len 0 n) (λ k d h. uniform_small stream (place + 4 * get_or (range_with_len 0 n) k d) q l)

uniform_in : (m : ℕ) (qs : List ℕ) → All (λ q. 0 < q) qs → (stream : Stream) (place : ℕ) → AreRows m qs (uniform_rows stream place (degree m) qs)
unfolding uniform_rows
uniform_in m [] positive stream place = tt
uniform_in m (q ∷ qs) positive stream place = ((uniforms_long stream place q (degree m), uniforms_small stream place q (degree m) (positive 0 0 (omega arith))), uniform_in m qs (All-tail (λ q. 0 < q) q qs positive) stream (place + 4 * degree m))

module _ (r : RingSetting) (S : IsSetting r) where
  drawn_uniform : (stream : Stream) (place : ℕ) → AreRows r.moduli.m (moduli_at r (top r)) (uniform_rows stream place (n_of r) (moduli_at r (top r)))
  drawn_uniform stream place = uniform_in r.moduli.m (moduli_at r (top r)) (moduli r S (top r) (top_fits r S)).some stream place

  pub draws_are : DrawsAre r
  draws_are = record {
    secret = λ stream. sparse_is_sparse stream (n_of r) r.weight S.weight_most;
    error = drawn_error r;
    uniform = drawn_uniform;
    public = λ s stream. record { e = errors_at stream (stream.place + uniform_words r) (n_of r); error = drawn_error r stream (stream.place + uniform_words r); rows_in = drawn_uniform stream stream.place; equation = refl };
  }

pub draws_law : DrawsLaw
draws_law = draws_are
