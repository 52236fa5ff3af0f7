-- What is drawn and masked is the ciphertext of the definitions.
use Rattle.std.proofs.Common.{◌≡◌, ℕ, ◌+◌, ◌*◌, ◌<◌, ◌≤◌, List, length, sym, ap, ap₂, ◌∙◌, subst, arith}
use Rattle.std.specs.Prelude.{ℤ}
use Rattle.cyclotomic.specs.Cyclotomic.{degree}
use Rattle.draw_stream.specs.Draw.{Stream, after, errors_at, smalls_at}
use Rattle.noise_bound.specs.Machine.{fresh}
use Rattle.slot_array.specs.Arrays.{Array, IsArray}
use Rattle.slot_laws.specs.Slots.{encode}
use Rattle.scheme_laws.specs.Scheme.{SchemeSetting, IsScheme, sizes_of, top, ring_at, rows_at}
use Rattle.scheme_laws.specs.Keys.{PublicKey, IsPublicOf, IsSecret, n_of}
use Rattle.scheme_laws.specs.Ciphers.{Cipher, Stands, encrypted, encryption_drawn}
use Rattle.scheme_laws.proofs.Drawn.{drawn_error, drawn_small}
use Rattle.scheme_laws.proofs.NormCounts.{encoded_element}
use Rattle.scheme_laws.proofs.Fresh.{drawn_stands}
use Rattle.key_gen.proofs.KeySteps.{errors_at-after}
use Rattle.cipher_core.specs.Masked.{masked}

-- draws of n coefficients each
pub small_long : (t : SchemeSetting) (s : Stream) (k : ℕ) (r list : List ℤ) → k ≡ n_of t.ring → r ≡ smalls_at s s.place k → list ≡ r → length list ≡ degree t.ring.moduli.m
small_long t s k r list same drawn is = ap length (is ∙ drawn ∙ ap (smalls_at s s.place) same) ∙ (drawn_small t s s.place).long

pub error_long : (t : SchemeSetting) (s : Stream) (k : ℕ) (e list : List ℤ) → k ≡ n_of t.ring → e ≡ errors_at s s.place k → list ≡ e → length list ≡ degree t.ring.moduli.m
error_long t s k e list same drawn is = ap length (is ∙ drawn ∙ ap (errors_at s s.place) same) ∙ (drawn_error t.ring s s.place).long

module _ (t : SchemeSetting) (T : IsScheme t) where
  pub encoded_long : (x : Array) (plain list : List ℤ) → plain ≡ encode t.field t.cube x → list ≡ plain → length list ≡ degree t.ring.moduli.m
  encoded_long x plain list encoded is = ap length (is ∙ encoded) ∙ encoded_element t T x

  pub fresh_is : (key : PublicKey) (s u v : Stream) (k level bound : ℕ) (r e0 e1 plain : List ℤ) (x : Array) (c0 c1 : List (List ℕ))
      → k ≡ n_of t.ring → u ≡ after s k → v ≡ after u k → r ≡ smalls_at s s.place k → e0 ≡ errors_at u u.place k → e1 ≡ errors_at v v.place k → plain ≡ encode t.field t.cube x
      → level ≡ top t.ring → bound ≡ fresh (sizes_of t.ring)
      → c0 ≡ (ring_at t.ring (top t.ring)).add (masked t.ring key.b (rows_at t.ring (top t.ring) r) e0) (rows_at t.ring (top t.ring) plain)
      → c1 ≡ masked t.ring key.a (rows_at t.ring (top t.ring) r) e1
      → record { level = level; bound = bound; c0 = c0; c1 = c1 } ≡ encryption_drawn t key s x
  fresh_is key s u v k level bound r e0 e1 plain x c0 c1 same first second r_is e0_is e1_is plain_is level_is bound_is c0_is c1_is =
      let n = n_of t.ring in
      let l = top t.ring in
      let r_drawn : r ≡ smalls_at s s.place n = r_is ∙ ap (smalls_at s s.place) same in
      let at_u : u ≡ after s n = first ∙ ap (after s) same in
      let at_v : v ≡ after s (2 * n) = second ∙ ap₂ after at_u same ∙ ap (λ p. record s { place = p }) (omega arith) in
      let e0_drawn : e0 ≡ errors_at s (s.place + n) n = e0_is ∙ ap (errors_at u u.place) same ∙ ap (λ (r : Stream). errors_at r r.place n) at_u ∙ errors_at-after s n n in
      let e1_drawn : e1 ≡ errors_at s (s.place + 2 * n) n = e1_is ∙ ap (errors_at v v.place) same ∙ ap (λ (r : Stream). errors_at r r.place n) at_v ∙ errors_at-after s (2 * n) n in
      let first_part : List ℤ → List ℤ → List ℤ → List (List ℕ) = λ r e a. (ring_at t.ring l).add (masked t.ring key.b (rows_at t.ring l r) e) (rows_at t.ring l a) in
      let second_part : List ℤ → List ℤ → List (List ℕ) = λ r e. masked t.ring key.a (rows_at t.ring l r) e in
      let R = smalls_at s s.place n in
      let E0 = errors_at s (s.place + n) n in
      let E1 = errors_at s (s.place + 2 * n) n in
      let c0_drawn : c0 ≡ first_part R E0 (encode t.field t.cube x) = c0_is ∙ ap₂ (λ r e. first_part r e plain) r_drawn e0_drawn ∙ ap (first_part R E0) plain_is in
      let c1_drawn : c1 ≡ second_part R E1 = c1_is ∙ ap₂ second_part r_drawn e1_drawn in
      let made : ℕ → ℕ → List (List ℕ) → List (List ℕ) → Cipher = λ level bound c0 c1. record { level = level; bound = bound; c0 = c0; c1 = c1 } in
      ap₂ (λ level bound. made level bound c0 c1) level_is bound_is ∙ ap₂ (made l (fresh (sizes_of t.ring))) c0_drawn c1_drawn

  -- it stands for the array under the secret of the key
  pub fresh_stands_for : (key : PublicKey) (stream : Stream) (x : Array) (c : Cipher) → IsArray t.field t.cube x → c ≡ encryption_drawn t key stream x → (s : List ℤ) → IsSecret t.ring s → IsPublicOf t.ring s key → Stands t s c x
  fresh_stands_for key stream x c array is s secret public = subst (λ c. Stands t s c x) (sym is) (drawn_stands t T s key stream x secret public array).1
