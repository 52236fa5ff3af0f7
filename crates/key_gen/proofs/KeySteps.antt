-- What is drawn is the key of the definitions.
use Rattle.std.proofs.Common.{◌≡◌, ℕ, suc, ◌+◌, ◌-◌, ◌*◌, ◌^◌, ◌<◌, ◌≤◌, List, [], ◌∷◌, ◌++◌, map, length, take, refl, sym, ap, ap₂, ◌∙◌, subst, arith, append-nil}
use Rattle.std.specs.Prelude.{ℤ, pos, false}
use Rattle.std.proofs.lemmas.List.{length-map, map-append, take_at, take_all}
use Rattle.draw_stream.specs.Draw.{Stream, word, after, errors_at}
use Rattle.draw_stream.specs.Sparse.{sparse_of}
use Rattle.draw_stream.proofs.Choices.{sparse_is_sparse}
use Rattle.cyclotomic.specs.Cyclotomic.{degree}
use Rattle.moduli_table.specs.declared.rows.ModRow.{ModRow}
use Rattle.residue_rows.specs.Rows.{AreRows, R_each, multiple_each, rows_of}
use Rattle.residue_rows.specs.Kept.{RingSetting, IsSetting, Residues, moduli_kept, moduli_of, ring_of, with_rows}
use Rattle.scheme_laws.specs.Scheme.{top, moduli_at}
use Rattle.scheme_laws.specs.Keys.{IsSecret, IsPublicOf, PublicKey, public_part, public_drawn, public_words, uniform_rows, uniform_words}
use Rattle.scheme_laws.proofs.Drawn.{draws_are, drawn_error}
use Rattle.key_gen.specs.Drawn.{first_moduli}

-- draws from a later place of the same stream
pub errors_at-after : (s : Stream) (k n : ℕ) → errors_at (after s k) (s.place + k) n ≡ errors_at s (s.place + k) n
unfolding errors_at word
errors_at-after s k n = refl

abbrev modulus : ModRow → ℕ
modulus r = r.q

-- a choice by the table's degree and weight is a secret
pub secret_is : (t : RingSetting) → IsSetting t → (s : Stream) (n weight : ℕ) (coeffs : List ℤ) → n ≡ degree t.moduli.m → weight ≡ t.weight → coeffs ≡ sparse_of s n weight → IsSecret t coeffs
secret_is t S s n weight coeffs same_n same_weight drawn =
    subst (IsSecret t) (sym (drawn ∙ ap₂ (sparse_of s) same_n same_weight)) (sparse_is_sparse s (degree t.moduli.m) t.weight S.weight_most)

module _ (t : RingSetting) (S : IsSetting t) (rows : ℕ) (all : rows ≡ length t.moduli.chain) where
  abbrev n : ℕ
  n = degree t.moduli.m

  top_is : suc (top t) ≡ rows
  top_is = omega (arith, S.accepted.shaped.chain_low, all)

  first_is : first_moduli t.moduli rows ≡ moduli_kept t rows false
  first_is =
      let chain = t.moduli.chain in
      let special = t.moduli.special in
      let here : take rows (map modulus (chain ++ special)) ≡ map modulus chain =
      ap (take rows) (map-append modulus chain special) ∙ take_at (map modulus chain) (map modulus special) rows (length-map chain modulus ∙ sym all) in
      let there : map modulus (take rows chain ++ []) ≡ map modulus chain = ap (map modulus) (append-nil (take rows chain) ∙ take_all rows chain (omega (arith, all))) in
      here ∙ sym there

  kept_is : moduli_kept t rows false ≡ moduli_at t (top t)
  kept_is = ap (λ k. moduli_kept t k false) (sym top_is)

  words_are : 4 * n * rows ≡ uniform_words t
  words_are = ap (λ k. 4 * n * k) (sym top_is)

  -- there are words for the rows, and then for the error
  pub rows_room : (s : Stream) → s.place + public_words t < 2 ^ 60 → s.place + 4 * n * rows < 2 ^ 60
  rows_room s room = omega (arith, words_are, room)

  pub error_room : (s u : Stream) (k : ℕ) → k ≡ n → u ≡ after s (4 * n * rows) → s.place + public_words t < 2 ^ 60 → u.place + k < 2 ^ 60
  error_room s u k same moved room = omega (arith, words_are, room, same, ap (λ (r : Stream). r.place) moved)

  pub moved_by : (s u v : Stream) (k : ℕ) → k ≡ n → u ≡ after s (4 * n * rows) → v ≡ after u k → v ≡ after s (public_words t)
  moved_by s u v k same first second =
      second ∙ ap (after u) same ∙ ap (λ r. after r n) first ∙ ap (λ p. record s { place = p }) (omega (arith, words_are))

  -- the rows that are drawn are rows
  pub rows_in : (s : Stream) (list : List (List ℕ)) → list ≡ uniform_rows s s.place n (first_moduli t.moduli rows) → AreRows t.moduli.m (moduli_kept t rows false) list
  rows_in s list drawn =
      let is : list ≡ uniform_rows s s.place n (moduli_at t (top t)) = drawn ∙ ap (uniform_rows s s.place n) (first_is ∙ kept_is) in
      subst (λ qs. AreRows t.moduli.m qs list) (sym kept_is) (subst (AreRows t.moduli.m (moduli_at t (top t))) (sym is) ((draws_are t S).uniform s s.place))

  -- the key is the one of the definitions
  pub key_is : (s u : Stream) (k : ℕ) (list : List (List ℕ)) (e secret : List ℤ) (a b : Residues)
      → k ≡ n → u ≡ after s (4 * n * rows) → list ≡ uniform_rows s s.place n (first_moduli t.moduli rows) → e ≡ errors_at u u.place k
      → a.rows ≡ list → b.rows ≡ public_part t secret a.rows e → record { b = b.rows; a = a.rows } ≡ public_drawn t secret s
  key_is s u k list e secret a b same moved drawn error a_is b_is =
      let rows_are : a.rows ≡ uniform_rows s s.place n (moduli_at t (top t)) = a_is ∙ drawn ∙ ap (uniform_rows s s.place n) (first_is ∙ kept_is) in
      let error_is : e ≡ errors_at s (s.place + uniform_words t) n =
      error ∙ ap (errors_at u u.place) same ∙ ap (λ (r : Stream). errors_at r r.place n) moved ∙ errors_at-after s (4 * n * rows) n ∙ ap (λ w. errors_at s (s.place + w) n) words_are in
      let key : List (List ℕ) → List ℤ → PublicKey = λ a e. record { b = public_part t secret a e; a = a } in
      let built : record { b = b.rows; a = a.rows } ≡ key a.rows e = ap (λ (l : List (List ℕ)). record { b = l; a = a.rows }) b_is in
      built ∙ ap₂ key rows_are error_is

  -- the error has n coefficients
  pub error_long : (u : Stream) (k : ℕ) (e : List ℤ) → k ≡ n → e ≡ errors_at u u.place k → length e ≡ n
  error_long u k e same error = ap length (error ∙ ap (errors_at u u.place) same) ∙ (drawn_error t u u.place).long

  -- and the key is of its secret
  pub key_of_secret : (s : Stream) (secret : List ℤ) (key : PublicKey) → key ≡ public_drawn t secret s → IsPublicOf t secret key
  key_of_secret s secret key is = subst (IsPublicOf t secret) (sym is) ((draws_are t S).public secret s)

  -- b = -a*s + p*e, step by step
  pub hidden_is : (secret e : List ℤ) (a noise s copied multiplied negative sum : Residues)
      → a.tables ≡ t → a.chain_rows ≡ rows → a.special ≡ false
      → noise.rows ≡ multiple_each (moduli_kept t rows false) (pos t.moduli.p) (rows_of (moduli_kept t rows false) e)
      → s.rows ≡ rows_of (moduli_kept t rows false) secret
      → copied ≡ a → multiplied ≡ with_rows copied ((ring_of copied).mul copied.rows s.rows) → negative ≡ with_rows multiplied ((ring_of multiplied).neg multiplied.rows)
      → sum ≡ with_rows negative ((ring_of negative).add negative.rows noise.rows)
      → sum ≡ with_rows a (public_part t secret a.rows e)
  hidden_is secret e a noise s copied multiplied negative sum tables chain special noise_is s_is copied_is multiplied_is negative_is sum_is =
      let qs = moduli_at t (top t) in
      let product : multiplied ≡ with_rows a ((ring_of a).mul a.rows s.rows) = multiplied_is ∙ ap (λ (r : Residues). with_rows r ((ring_of r).mul r.rows s.rows)) copied_is in
      let less : negative ≡ with_rows a ((ring_of a).neg ((ring_of a).mul a.rows s.rows)) = negative_is ∙ ap (λ (r : Residues). with_rows r ((ring_of r).neg r.rows)) product in
      let whole : sum ≡ with_rows a ((ring_of a).add ((ring_of a).neg ((ring_of a).mul a.rows s.rows)) noise.rows) = sum_is ∙ ap (λ (r : Residues). with_rows r ((ring_of r).add r.rows noise.rows)) less in
      let moduli_are : moduli_of a ≡ qs = ap (λ r. moduli_kept r a.chain_rows a.special) tables ∙ ap₂ (moduli_kept t) chain special ∙ kept_is in
      let value : ℕ → List ℕ → List (List ℕ) → List (List ℕ) → List (List ℕ) = λ m qs s p. let o = R_each m qs in o.add (o.neg (o.mul a.rows s)) p in
      let ring : value a.tables.moduli.m (moduli_of a) s.rows noise.rows ≡ value t.moduli.m qs s.rows noise.rows = ap₂ (λ m qs. value m qs s.rows noise.rows) (ap (λ (r : RingSetting). r.moduli.m) tables) moduli_are in
      let parts : value t.moduli.m qs s.rows noise.rows ≡ public_part t secret a.rows e =
      ap₂ (value t.moduli.m qs) (s_is ∙ ap (λ l. rows_of l secret) kept_is) (noise_is ∙ ap (λ l. multiple_each l (pos t.moduli.p) (rows_of l e)) kept_is) in
      whole ∙ ap (with_rows a) (ring ∙ parts)
