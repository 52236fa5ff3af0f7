-- Secret and public keys.
use Rattle.std.specs.Prelude.{◌≡◌, ℕ, suc, ◌+◌, ◌*◌, ◌≤◌, List, [], ◌∷◌, length, All, ℤ, pos, nat_abs}
use Rattle.cyclotomic.specs.Cyclotomic.{degree}
use Rattle.draw_stream.specs.Draw.{Stream, errors_at, uniforms_at}
use Rattle.draw_stream.specs.Sparse.{IsSparse, sparse_of}
use Rattle.residue_rows.specs.Rows.{AreRows, multiple_each}
use Rattle.residue_rows.specs.Kept.{RingSetting}
use Rattle.scheme_laws.specs.Scheme.{top, moduli_at, ring_at, rows_at}

-- b and a, by their residues modulo q_0 to q_top
pub record PublicKey : Type 0 where
  pub b : List (List ℕ)
  pub a : List (List ℕ)

-- the residues of a uniform polynomial: for each modulus in order as many draws as it has coefficients, of four words each
unfoldable pub uniform_rows : Stream → ℕ → ℕ → List ℕ → List (List ℕ)
uniform_rows stream place n [] = []
uniform_rows stream place n (q ∷ qs) = uniforms_at stream place q n ∷ uniform_rows stream (place + 4 * n) n qs

module _ (r : RingSetting) where
  abbrev pub n_of : ℕ
  n_of = degree r.moduli.m

  -- s has n coefficients from -1 to 1, and as many as the weight says are not 0
  abbrev pub IsSecret : List ℤ → Type 0
  IsSecret s = IsSparse n_of r.weight s

  -- e has n coefficients from -10 to 10
  pub record IsError (e : List ℤ) : Type 0 where
    pub long : length e ≡ n_of
    pub small : All (λ x. nat_abs x ≤ 10) e

  -- b = -a*s + p*e
  abbrev pub public_part : List ℤ → List (List ℕ) → List ℤ → List (List ℕ)
  public_part s a e =
      let o = ring_at r (top r) in
      o.add (o.neg (o.mul a (rows_at r (top r) s))) (multiple_each (moduli_at r (top r)) (pos r.moduli.p) (rows_at r (top r) e))

  -- the key is of s
  pub record IsPublicOf (s : List ℤ) (key : PublicKey) : Type 0 where
    pub e : List ℤ
    pub error : IsError e
    pub rows_in : AreRows r.moduli.m (moduli_at r (top r)) key.a
    pub equation : key.b ≡ public_part s key.a e

  -- the secret that a stream gives
  abbrev pub secret_drawn : Stream → List ℤ
  secret_drawn stream = sparse_of stream n_of r.weight

  -- the words that a uniform polynomial takes
  abbrev pub uniform_words : ℕ
  uniform_words = 4 * n_of * suc (top r)

  -- the public key of s that a stream gives: a, then e
  abbrev pub public_drawn : List ℤ → Stream → PublicKey
  public_drawn s stream =
      let a = uniform_rows stream stream.place n_of (moduli_at r (top r)) in
      record { b = public_part s a (errors_at stream (stream.place + uniform_words) n_of); a = a }

  abbrev pub public_words : ℕ
  public_words = uniform_words + n_of
