-- Reading one value after another, as loops do.
use Rattle.std.proofs.Common.{◌≡◌, ℕ, suc, ◌-◌, ◌+◌, ◌≤◌, ◌<◌, List, [], ◌∷◌, ◌++◌, length, drop, get_or, Result, Ok, Err, ℤ, refl, sym, ap, ◌∙◌, append_assoc, add-one, arith}
use Rattle.std.proofs.lemmas.List.{append-nil, drop_all}
use Rattle.std.proofs.Math.Seq.{drop-cons}
use Rattle.he_files.specs.declared.faults.ReadFault.{ReadFault}
use Rattle.he_files.specs.declared.faults.ReadFault.TheVariants.{Bad, Memory}
use Rattle.he_files.specs.Form.{◌>>=◌, Form, several_at, each_at}
use Rattle.he_files.specs.Secret.{taken, entry, entries_at}
use Rattle.he_files.specs.Reads.{Fails}

-- what was read before, and what is still read
abbrev pub with_front : {A : Type 0} → List A → Result (List A × ℕ) ℕ → Result (List A × ℕ) ℕ
with_front front read = read >>= λ x. Ok (front ++ x.0, x.1)

-- nothing is before
pub with_front-nil : {A : Type 0} (read : Result (List A × ℕ) ℕ) → with_front [] read ≡ read
with_front-nil (Ok x) = refl
with_front-nil (Err place) = refl

-- one value more is before
with_front-push : {A : Type 0} (front : List A) (x : A) (read : Result (List A × ℕ) ℕ) → with_front front (read >>= λ xs. Ok (x ∷ xs.0, xs.1)) ≡ with_front (front ++ x ∷ []) read
with_front-push {A} front x (Ok xs) = ap (λ (ys : List A). Ok (ys, xs.1)) (sym (append_assoc front (x ∷ []) xs.0))
with_front-push front x (Err place) = refl

-- nothing is left
with_front-all : {A : Type 0} (front : List A) (at : ℕ) → with_front front (Ok ([], at)) ≡ Ok (front, at)
with_front-all {A} front at = ap (λ (xs : List A). Ok (xs, at)) (append-nil front)

module _ {A : Type 0} (form : Form A) (bytes : List ℕ) where
  pub several-more : (front : List A) (n i at after : ℕ) (x : A) → i < n → form.read bytes at ≡ Ok (x, after)
      → with_front front (several_at form (n - i) bytes at) ≡ with_front (front ++ x ∷ []) (several_at form (n - (i + 1)) bytes after)
  unfolding several_at
  several-more front n i at after x lt h =
      let k : n - i ≡ suc (n - (i + 1)) = omega arith in
      rw (k, h) (with_front-push front x (several_at form (n - (i + 1)) bytes after))

  pub several-done : (front : List A) (n i at : ℕ) → n ≤ i → with_front front (several_at form (n - i) bytes at) ≡ Ok (front, at)
  unfolding several_at
  several-done front n i at le =
      let k : n - i ≡ 0 = omega arith in
      rw k (with_front-all front at)

  pub several-fault : (fault : ReadFault) (front : List A) (n i at : ℕ) → i < n
      → Fails fault (form.read bytes at) → Fails fault (with_front front (several_at form (n - i) bytes at))
  unfolding several_at
  several-fault (Bad place) front n i at lt h =
      let k : n - i ≡ suc (n - (i + 1)) = omega arith in
      rw (k, h) refl
  several-fault Memory front n i at lt h = tt

-- what is left from a place on
drop-at : {S : Type 0} (xs : List S) (i : ℕ) (s : S) → i < length xs → get_or xs i s ≡ s → drop i xs ≡ s ∷ drop (i + 1) xs
drop-at xs i s lt e = drop-cons xs i s lt ∙ (rw (e, add-one) refl)

module _ {S A : Type 0} (form : S → Form A) (xs : List S) (bytes : List ℕ) where
  pub each-more : (front : List A) (i at after : ℕ) (s : S) (v : A) → i < length xs → get_or xs i s ≡ s → (form s).read bytes at ≡ Ok (v, after)
      → with_front front (each_at form (drop i xs) bytes at) ≡ with_front (front ++ v ∷ []) (each_at form (drop (i + 1) xs) bytes after)
  unfolding each_at
  each-more front i at after s v lt e h = rw (drop-at xs i s lt e, h) (with_front-push front v (each_at form (drop (i + 1) xs) bytes after))

  pub each-done : (front : List A) (i at : ℕ) → length xs ≤ i → with_front front (each_at form (drop i xs) bytes at) ≡ Ok (front, at)
  unfolding each_at
  each-done front i at le = rw (drop_all i xs le) (with_front-all front at)

  pub each-fault : (fault : ReadFault) (front : List A) (i at : ℕ) (s : S) → i < length xs → get_or xs i s ≡ s
      → Fails fault ((form s).read bytes at) → Fails fault (with_front front (each_at form (drop i xs) bytes at))
  unfolding each_at
  each-fault (Bad place) front i at s lt e h = rw (drop-at xs i s lt e, h) refl
  each-fault Memory front i at s lt e h = tt

-- entries: what was read of them, and what is left of the weight
pub entries-more : (front : List ℤ) (bytes : List ℕ) (n i weight at after : ℕ) (x : ℤ) → i < n → (entry weight (n - 1 - i)).read bytes at ≡ Ok (x, after)
    → with_front front (entries_at (n - i) weight bytes at) ≡ with_front (front ++ x ∷ []) (entries_at (n - (i + 1)) (weight - taken x) bytes after)
unfolding entries_at
entries-more front bytes n i weight at after x lt h =
    let k : n - i ≡ suc (n - 1 - i) = omega arith in
    let l : n - (i + 1) ≡ n - 1 - i = omega arith in
    rw (k, l, h) (with_front-push front x (entries_at (n - 1 - i) (weight - taken x) bytes after))

pub entries-done : (front : List ℤ) (bytes : List ℕ) (n i weight at : ℕ) → n ≤ i → with_front front (entries_at (n - i) weight bytes at) ≡ Ok (front, at)
unfolding entries_at
entries-done front bytes n i weight at le =
    let k : n - i ≡ 0 = omega arith in
    rw k (with_front-all front at)

pub entries-fault : (fault : ReadFault) (front : List ℤ) (bytes : List ℕ) (n i weight at : ℕ) → i < n
    → Fails fault ((entry weight (n - 1 - i)).read bytes at) → Fails fault (with_front front (entries_at (n - i) weight bytes at))
unfolding entries_at
entries-fault (Bad place) front bytes n i weight at lt h =
    let k : n - i ≡ suc (n - 1 - i) = omega arith in
    rw (k, h) refl
entries-fault Memory front bytes n i weight at lt h = tt
