-- Ciphertexts: encryption, decryption, and what a ciphertext stands for.
use Rattle.std.specs.Prelude.{◌≡◌, ℕ, suc, ◌+◌, ◌*◌, ◌≤◌, List, length, All, ℤ, pos, nat_abs}
use Rattle.cyclotomic.specs.Cyclotomic.{IsElement}
use Rattle.cyclotomic.specs.Norm.{NormAtMost}
use Rattle.draw_stream.specs.Draw.{Stream, errors_at, smalls_at}
use Rattle.slot_array.specs.Arrays.{Array}
use Rattle.slot_laws.specs.Slots.{slots, encode}
use Rattle.noise_bound.specs.Machine.{fresh, limit}
use Rattle.residue_rows.specs.Rows.{AreRows, multiple_each}
use Rattle.residue_rows.specs.Whole.{whole}
use Rattle.scheme_laws.specs.Scheme.{SchemeSetting, sizes_of, top, moduli_at, ring_at, rows_at}
use Rattle.scheme_laws.specs.Keys.{PublicKey, n_of}

-- c0 and c1, by their residues modulo q_0 to q_level
pub record Cipher : Type 0 where
  pub level : ℕ
  pub bound : ℕ
  pub c0 : List (List ℕ)
  pub c1 : List (List ℕ)

module _ (t : SchemeSetting) where
  abbrev pub m_of : ℕ
  m_of = t.ring.moduli.m

  -- its parts are residues of its level
  pub record IsCipher (c : Cipher) : Type 0 where
    pub level_in : suc c.level ≤ length t.ring.moduli.chain
    pub c0_in : AreRows m_of (moduli_at t.ring c.level) c.c0
    pub c1_in : AreRows m_of (moduli_at t.ring c.level) c.c1

  -- the limit of its level
  abbrev pub limit_at : ℕ → ℕ
  limit_at level = limit (sizes_of t.ring) level

  -- u has n coefficients from -1 to 1
  pub record IsSmall (u : List ℤ) : Type 0 where
    pub long : length u ≡ n_of t.ring
    pub small : All (λ x. nat_abs x ≤ 1) u

  -- c0 = b*r + p*e0 + encode(x), c1 = a*r + p*e1, at the top level
  abbrev pub encrypted : PublicKey → List ℤ → List ℤ → List ℤ → Array → Cipher
  encrypted key r e0 e1 x =
      let l = top t.ring in
      let o = ring_at t.ring l in
      let p_times : List ℤ → List (List ℕ) = λ e. multiple_each (moduli_at t.ring l) (pos t.ring.moduli.p) (rows_at t.ring l e) in
      record {
        level = l;
        bound = fresh (sizes_of t.ring);
        c0 = o.add (o.add (o.mul key.b (rows_at t.ring l r)) (p_times e0)) (rows_at t.ring l (encode t.field t.cube x));
        c1 = o.add (o.mul key.a (rows_at t.ring l r)) (p_times e1);
      }

  -- what a stream makes of a key and an array: r, then e0, then e1
  abbrev pub encryption_drawn : PublicKey → Stream → Array → Cipher
  encryption_drawn key stream x =
      let n = n_of t.ring in
      encrypted key (smalls_at stream stream.place n) (errors_at stream (stream.place + n) n) (errors_at stream (stream.place + 2 * n) n) x

  abbrev pub encryption_words : ℕ
  encryption_words = 3 * n_of t.ring

  -- c0 + c1*s
  abbrev pub opened_rows : List ℤ → Cipher → List (List ℕ)
  opened_rows s c = let o = ring_at t.ring c.level in o.add c.c0 (o.mul c.c1 (rows_at t.ring c.level s))

  -- its balanced residue modulo the product of q_0 to q_level
  abbrev pub opened : List ℤ → Cipher → List ℤ
  opened s c = whole m_of (moduli_at t.ring c.level) (opened_rows s c)

  -- the slots of that
  abbrev pub decrypted : List ℤ → Cipher → Array
  decrypted s c = slots t.field t.cube (opened s c)

  -- c stands for the array x under s: c0 + c1*s is u up to a multiple of each modulus, x are the slots of u, and the bound of c
  -- bounds u
  pub record Stands (s : List ℤ) (c : Cipher) (x : Array) : Type 0 where
    pub value : List ℤ
    pub element : IsElement m_of value
    pub opens : opened_rows s c ≡ rows_at t.ring c.level value
    pub holds : slots t.field t.cube value ≡ x
    pub norm : NormAtMost m_of value c.bound
