-- What stands after some steps of a sparse choice.
use Rattle.std.proofs.Common.{true, false, ◌%◌, ◌≡◌, ◌≢◌, ℕ, zero, suc, ◌+◌, ◌-◌, ◌*◌, ◌<◌, ◌≤◌, ◌==◌, not, List, [], ◌∷◌, ◌++◌, length, get_or, set, inl, inr, refl, sym, ap, subst, ◌∙◌, arith, length-set, add-one, add-zero, zero-add}
use Rattle.std.specs.Prelude.{ℤ, pos, negsuc, unsigned_abs, swap, fold, count_by, cond}
use Rattle.std.specs.List.{range_with_len}
use Rattle.std.proofs.lemmas.Bool.{cases_eq}
use Rattle.std.proofs.lemmas.Grind.{get_or-set_at}
use Rattle.std.proofs.lemmas.List.{get_or-set_other, get_or-replicate, length-replicate, map-id}
use Rattle.std.proofs.lemmas.List.Elements.{All-from_get_or}
use Rattle.std.proofs.lemmas.List.Edits.{Swapped, swapped_from_swap, length-swap}
use Rattle.std.proofs.lemmas.List.Sums.{sum_by-set, fold_push}
use Rattle.std.proofs.lemmas.List.Folds.{sum_by-replicate}
use Rattle.std.proofs.lemmas.List.FromFn.{length-range_with_len, get_or-range_with_len, map-range_with_len_more}
use Rattle.draw_stream.specs.Draw.{Stream, word, after, uniform_at}
use Rattle.draw_stream.specs.Sparse.{Choice, IsStart, sign_of, no_choice, choose, choices, sparse_of, IsSparse}

-- whether a coefficient is chosen
abbrev is_chosen : ℤ → ℕ
is_chosen x = cond (not (unsigned_abs x == 0)) 1 0

-- after i steps: the order holds n different numbers below n, those from entry i on name
-- coefficients that are 0, and i coefficients are not 0
pub record IsChoice (n i : ℕ) (c : Choice) : Type 0 where
  pub numbers : length c.order ≡ n
  pub coefficients : length c.coefficients ≡ n
  pub within : (k : ℕ) → k < n → get_or c.order k 0 < n
  pub apart : (k l : ℕ) → k < n → l < n → get_or c.order k 0 ≡ get_or c.order l 0 → k ≡ l
  pub free : (k : ℕ) → i ≤ k → k < n → get_or c.coefficients (get_or c.order k 0) (pos 0) ≡ pos 0
  pub chosen : count_by (λ x. not (unsigned_abs x == 0)) c.coefficients ≡ i
  pub small : (k : ℕ) → k < n → unsigned_abs (get_or c.coefficients k (pos 0)) ≤ 1

-- where the entry at k stood before entries i and j were exchanged
came_from : (f g : ℕ → ℕ) (i j n : ℕ) → i ≤ j → j < n → Swapped f g i j → (k : ℕ) → k < n → (m : ℕ) × (m < n) × (g k ≡ f m) × (i ≤ k → i ≤ m)
came_from f g i j n ij jn s k kn =
    elim (cases_eq k i) [
      | inl e ↦ (j, jn, subst (λ x. g x ≡ f j) (sym e) s.0, λ _. ij)
      | inr ni ↦ elim (cases_eq k j) [
        | inl e ↦ (i, omega arith, subst (λ x. g x ≡ f i) (sym e) s.1, λ _. omega arith)
        | inr nj ↦ (k, kn, s.2 k ni nj, λ h. h)
      ]
    ]

-- different entries stay different
apart_swapped : (f g : ℕ → ℕ) (i j n : ℕ) → i < n → j < n → Swapped f g i j → ((k l : ℕ) → k < n → l < n → f k ≡ f l → k ≡ l) → (k l : ℕ) → k < n → l < n → g k ≡ g l → k ≡ l
apart_swapped f g i j n hi hj s apart k l hk hl e = grind (arith, apart, s, cases_eq k i, cases_eq k j, cases_eq l i, cases_eq l j)

-- one step, at any entry from i on, with any sign
pub chosen_more : (n i j : ℕ) (c : Choice) (sign : ℤ) → i ≤ j → j < n → unsigned_abs sign ≡ 1 → IsChoice n i c → IsChoice n (i + 1) (record { order = swap c.order i j; coefficients = set c.coefficients (get_or (swap c.order i j) i 0) sign })
chosen_more n i j c sign ij jn one h =
    let order = swap c.order i j in
    let at = get_or order i 0 in
    let hi : i < length c.order = omega (arith, h.numbers) in
    let hj : j < length c.order = omega (arith, h.numbers) in
    let s : Swapped (λ k. get_or c.order k 0) (λ k. get_or order k 0) i j = swapped_from_swap c.order order i j 0 hi hj refl in
    let from = came_from (λ k. get_or c.order k 0) (λ k. get_or order k 0) i j n ij jn s in
    let within : (k : ℕ) → k < n → get_or order k 0 < n = λ k kn. let m = from k kn in subst (λ x. x < n) (sym m.2) (h.within m.0 m.1) in
    let apart : (k l : ℕ) → k < n → l < n → get_or order k 0 ≡ get_or order l 0 → k ≡ l = apart_swapped (λ k. get_or c.order k 0) (λ k. get_or order k 0) i j n (omega arith) jn s h.apart in
    let at_below : at < length c.coefficients = omega (arith, within i (omega arith), h.coefficients) in
    let was_free : (k : ℕ) → i ≤ k → k < n → get_or c.coefficients (get_or order k 0) (pos 0) ≡ pos 0 =
    λ k ik kn. let m = from k kn in subst (λ x. get_or c.coefficients x (pos 0) ≡ pos 0) (sym m.2) (h.free m.0 (m.3 ik) m.1) in
    record {
      numbers = length-swap c.order i j ∙ h.numbers;
      coefficients = length-set c.coefficients at sign ∙ h.coefficients;
      within = within;
      apart = apart;
      free = λ k ik kn.
          let other : get_or order k 0 ≢ at = λ e. absurd (omega (arith, apart k i kn (omega arith) e)) in
          get_or-set_other c.coefficients at (get_or order k 0) sign (pos 0) other ∙ was_free k (omega arith) kn;
      chosen =
          let e = sum_by-set is_chosen c.coefficients at sign (pos 0) at_below in
          let zero_there : is_chosen (get_or c.coefficients at (pos 0)) ≡ 0 = ap is_chosen (was_free i (omega arith) (omega arith)) in
          let one_here : is_chosen sign ≡ 1 = ap (λ m. cond (not (m == 0)) 1 0) one in
          omega (arith, e, zero_there, one_here, h.chosen);
      small = λ k kn. elim (cases_eq k at) [
        | inl e ↦ subst (λ x. unsigned_abs x ≤ 1) (sym (get_or-set_at c.coefficients at k sign (pos 0) e at_below)) (omega arith)
        | inr ne ↦ subst (λ x. unsigned_abs x ≤ 1) (sym (get_or-set_other c.coefficients at k sign (pos 0) ne)) (h.small k kn)
      ];
    }

-- before the first step
pub none_chosen : (n : ℕ) → IsChoice n 0 (no_choice n)
unfolding no_choice
none_chosen n =
    let at : (k : ℕ) → k < n → get_or (range_with_len 0 n) k 0 ≡ k = λ k kn. get_or-range_with_len 0 n k 0 kn ∙ zero-add k in
    record {
      numbers = length-range_with_len 0 n;
      coefficients = length-replicate n (pos 0);
      within = λ k kn. omega (arith, at k kn);
      apart = λ k l kn ln e. omega (arith, at k kn, at l ln, e);
      free = λ k _ kn. get_or-replicate n (get_or (range_with_len 0 n) k 0) (pos 0) (pos 0) (omega (arith, at k kn));
      chosen = omega (arith, sum_by-replicate is_chosen n (pos 0));
      small = λ k kn. subst (λ x. unsigned_abs x ≤ 1) (sym (get_or-replicate n k (pos 0) (pos 0) kn)) (omega arith);
    }

pub choices_none : (s : Stream) (n : ℕ) → choices s n 0 ≡ no_choice n
unfolding choices
choices_none s n = refl

pub choices-more : (s : Stream) (n i : ℕ) → choices s n (i + 1) ≡ choose s n (choices s n i) i
unfolding choices
choices-more s n i =
    let more : range_with_len 0 (i + 1) ≡ range_with_len 0 i ++ i ∷ [] =
    sym (map-id (range_with_len 0 (i + 1))) ∙ map-range_with_len_more (λ x. x) 0 i i (zero-add i) ∙ ap (λ l. l ++ i ∷ []) (map-id (range_with_len 0 i)) in
    ap (fold (choose s n) (no_choice n)) more ∙ fold_push (choose s n) (no_choice n) (range_with_len 0 i) i

-- a sign is 1 or -1
pub sign_of-abs : (w : ℕ) → unsigned_abs (sign_of w) ≡ 1
sign_of-abs w = elim (w % 2 == 0) as (λ b. unsigned_abs (cond b (pos 1) (negsuc 0)) ≡ 1) [ true ↦ refl | false ↦ refl ]

-- a uniform number is below its modulus
pub uniform_at-below : (s : Stream) (place q : ℕ) → 0 < q → uniform_at s place q < q
unfolding uniform_at
uniform_at-below s place q h = omega arith

pub choices_are : (s : Stream) (n i : ℕ) → i ≤ n → IsChoice n i (choices s n i)
unfolding choose
choices_are s n zero h = subst (IsChoice n 0) (sym (choices_none s n)) (none_chosen n)
choices_are s n (suc i) h =
    let below = uniform_at-below s (s.place + 5 * i) (n - i) (omega arith) in
    let step = chosen_more n i (i + uniform_at s (s.place + 5 * i) (n - i)) (choices s n i) (sign_of (word s (s.place + 5 * i + 4))) (omega arith) (omega (arith, below)) (sign_of-abs (word s (s.place + 5 * i + 4))) (choices_are s n i (omega arith)) in
    let more = subst (IsChoice n (i + 1)) (sym (choices-more s n i)) step in
    subst (λ k. IsChoice n k (choices s n k)) (add-one i) more

pub sparse_is_sparse : (s : Stream) (n weight : ℕ) → weight ≤ n → IsSparse n weight (sparse_of s n weight)
unfolding sparse_of
sparse_is_sparse s n weight h =
    let c = choices_are s n weight h in
    record { len = c.coefficients; chosen = c.chosen; small = All-from_get_or (λ x. unsigned_abs x ≤ 1) (choices s n weight).coefficients (pos 0) (λ k kn. c.small k (omega (arith, c.coefficients))) }

-- what the steps begin with
pub choices_start : (s : Stream) (n : ℕ) (order : List ℕ) (coefficients : List ℤ) → IsStart n order coefficients → (order ≡ (choices s n 0).order) × (coefficients ≡ (choices s n 0).coefficients)
unfolding choices no_choice
choices_start s n order coefficients h = h

-- a draw after some words, seen from the stream before them
pub uniform_at-after : (s t : Stream) (k q x : ℕ) → t ≡ after s k → x ≡ uniform_at t t.place q → x ≡ uniform_at s (s.place + k) q
unfolding uniform_at word
uniform_at-after s t k q x e h = h ∙ ap (λ r. uniform_at r r.place q) e

pub sign_of-after : (s t u : Stream) (k : ℕ) (x : ℤ) → t ≡ after s k → u ≡ after t 4 → x ≡ sign_of (word u u.place) → x ≡ sign_of (word s (s.place + k + 4))
unfolding word
sign_of-after s t u k x e f h = h ∙ ap (λ r. sign_of (word r r.place)) (f ∙ ap (λ r. after r 4) e)

-- the order after one step more
pub order_more : (s t : Stream) (n i x : ℕ) (order next : List ℕ) → t ≡ after s (5 * i) → order ≡ (choices s n i).order → x ≡ uniform_at t t.place (n - i) → next ≡ swap order i (i + x) → next ≡ (choices s n (i + 1)).order
unfolding choose
order_more s t n i x order next moved e drawn swapped =
    let stepped : (choices s n (i + 1)).order ≡ (choose s n (choices s n i) i).order = ap (λ c. c.order) (choices-more s n i) in
    let h = uniform_at-after s t (5 * i) (n - i) x moved drawn in
    swapped ∙ ap (λ l. swap l i (i + x)) e ∙ ap (λ y. swap (choices s n i).order i (i + y)) h ∙ sym stepped

-- the coefficients after one step more
pub coefficients_more : (s t u : Stream) (n i : ℕ) (order : List ℕ) (coefficients : List ℤ) (sign : ℤ) → t ≡ after s (5 * i) → u ≡ after t 4 → order ≡ (choices s n (i + 1)).order → coefficients ≡ (choices s n i).coefficients → sign ≡ sign_of (word u u.place) → set coefficients (get_or order i 0) sign ≡ (choices s n (i + 1)).coefficients
unfolding choose
coefficients_more s t u n i order coefficients sign moved taken e f drawn =
    let stepped : choices s n (i + 1) ≡ choose s n (choices s n i) i = choices-more s n i in
    let named : order ≡ (choose s n (choices s n i) i).order = e ∙ ap (λ c. c.order) stepped in
    let h = sign_of-after s t u (5 * i) sign moved taken drawn in
    ap (λ l. set l (get_or order i 0) sign) f ∙ ap (λ l. set (choices s n i).coefficients (get_or l i 0) sign) named ∙ ap (λ z. set (choices s n i).coefficients (get_or (choose s n (choices s n i) i).order i 0) z) h ∙ sym (ap (λ c. c.coefficients) stepped)

-- the entry that a step names is a coefficient's number
pub named_below : (s : Stream) (n i : ℕ) (order : List ℕ) → i < n → order ≡ (choices s n (i + 1)).order → get_or order i 0 < n
named_below s n i order h e = subst (λ l. get_or l i 0 < n) (sym e) ((choices_are s n (i + 1) (omega arith)).within i h)

pub after-none : (s : Stream) → s ≡ after s 0
after-none s = ap (λ p. record s { place = p }) (sym (add-zero s.place))

-- the five words of a step
pub after_step : (s t u v : Stream) (i : ℕ) → t ≡ after s (5 * i) → u ≡ after t 4 → v ≡ after u 1 → v ≡ after s (5 * (i + 1))
after_step s t u v i e f h =
    h ∙ ap (λ r. after r 1) (f ∙ ap (λ r. after r 4) e) ∙ ap (λ p. record s { place = p }) (omega arith)
