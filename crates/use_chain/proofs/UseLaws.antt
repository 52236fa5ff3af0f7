-- Laws about the lists: walks over them, and merges.
use Rattle.std.proofs.Common.{◌≡◌, ℕ, zero, suc, ◌+◌, ◌-◌, ◌<◌, ◌≤◌, List, [], ◌∷◌, ◌++◌, length, get_or, reverse, Option, Some, ◌⊎◌, inl, inr, refl, sym, ap, subst, ◌∙◌, arith, append_assoc, length-append}
use Rattle.std.specs.Prelude.{slice_get, Contains}
use Rattle.std.specs.List.Sorted.{IsStrictlyIncreasing}
use Rattle.std.proofs.lemmas.Bool.{cases_lt, cond_below, cond_above}
use Rattle.std.proofs.lemmas.List.{append-nil, get_or_at, reverse-reverse, reverse-append}
use Rattle.use_chain.specs.declared.Node.{Node}
use Rattle.use_chain.specs.Uses.{list_of, IsListed, IsNext, IsPrev, in_order, merged, AreApart, IsMerge, Walks}
use Rattle.use_chain.specs.Rings.{Rising, IsIn, lists, IsWhole}
use Rattle.use_chain.proofs.Paths.{rising_low, rising_from}
use Rattle.use_chain.proofs.Answering.{IsIn-from_Contains}

-- ---- walks

contains_middle : (before after : List ℕ) (k : ℕ) → Contains (before ++ k ∷ after) k
contains_middle before after k =
    (length before, omega (arith, length-append before (k ∷ after)), get_or_at before k after k (length before) refl)

listed : (uses : List (List ℕ)) (value k : ℕ) (before after : List ℕ) → list_of uses value ≡ before ++ k ∷ after → IsListed uses k
listed uses value k before after e = (value, subst (λ ks. Contains ks k) (sym e) (contains_middle before after k))

walks_on : (uses : List (List ℕ)) (value : ℕ) (next : ℕ → Option ℕ) → ((node : ℕ) → IsListed uses node → IsNext uses node (next node)) → (before rest : List ℕ) → list_of uses value ≡ before ++ rest → Walks next (slice_get rest 0) rest
walks_on uses value next h before [] e = refl
walks_on uses value next h before (k ∷ ks) e =
    let leads : next k ≡ slice_get ks 0 = h k (listed uses value k before ks e) value before ks e in
    let on = walks_on uses value next h (before ++ k ∷ []) ks (e ∙ sym (append_assoc before (k ∷ []) ks)) in
    (refl, subst (λ at. Walks next at ks) (sym leads) on)

pub walks_forward : (uses : List (List ℕ)) (value : ℕ) (next : ℕ → Option ℕ) → ((node : ℕ) → IsListed uses node → IsNext uses node (next node)) → Walks next (slice_get (list_of uses value) 0) (list_of uses value)
walks_forward uses value next h = walks_on uses value next h [] (list_of uses value) refl

last_of_push : (xs : List ℕ) (k : ℕ) → slice_get (xs ++ k ∷ []) (length xs) ≡ Some k
last_of_push [] k = refl
last_of_push (x ∷ xs) k = last_of_push xs k

last_is_pushed : (xs : List ℕ) (k : ℕ) → slice_get (xs ++ k ∷ []) (length (xs ++ k ∷ []) - 1) ≡ Some k
last_is_pushed xs k =
    let index : length (xs ++ k ∷ []) - 1 ≡ length xs = omega (arith, length-append xs (k ∷ [])) in
    ap (slice_get (xs ++ k ∷ [])) index ∙ last_of_push xs k

walks_back : (uses : List (List ℕ)) (value : ℕ) (prev : ℕ → Option ℕ) → ((node : ℕ) → IsListed uses node → IsPrev uses node (prev node)) → (turned after : List ℕ) → list_of uses value ≡ reverse turned ++ after → Walks prev (slice_get (reverse turned) (length (reverse turned) - 1)) turned
walks_back uses value prev h [] after e = refl
walks_back uses value prev h (k ∷ ks) after e =
    let turned : reverse (k ∷ ks) ≡ reverse ks ++ k ∷ [] = reverse-append (k ∷ []) ks in
    let split : list_of uses value ≡ reverse ks ++ k ∷ after = e ∙ ap (λ t. t ++ after) turned ∙ append_assoc (reverse ks) (k ∷ []) after in
    let leads : prev k ≡ slice_get (reverse ks) (length (reverse ks) - 1) = h k (listed uses value k (reverse ks) after split) value (reverse ks) after split in
    let on = walks_back uses value prev h ks (k ∷ after) split in
    (ap (λ t. slice_get t (length t - 1)) turned ∙ last_is_pushed (reverse ks) k, subst (λ at. Walks prev at ks) (sym leads) on)

pub walks_backward : (uses : List (List ℕ)) (value : ℕ) (prev : ℕ → Option ℕ) → ((node : ℕ) → IsListed uses node → IsPrev uses node (prev node)) → Walks prev (slice_get (list_of uses value) (length (list_of uses value) - 1)) (reverse (list_of uses value))
walks_backward uses value prev h =
    let list = list_of uses value in
    let e : reverse (reverse list) ≡ list = reverse-reverse list in
    subst (λ ks. Walks prev (slice_get ks (length ks - 1)) (reverse list)) e
    (walks_back uses value prev h (reverse list) [] (sym (append-nil (reverse (reverse list)) ∙ e)))

-- ---- ascending lists

Contains-from_IsIn : (k : ℕ) (xs : List ℕ) → IsIn k xs → Contains xs k
Contains-from_IsIn k [] i = absurd i
Contains-from_IsIn k (x ∷ xs) (inl e) = (0, omega arith, sym e)
Contains-from_IsIn k (x ∷ xs) (inr i) = let c = Contains-from_IsIn k xs i in (suc c.0, omega (arith, c.1), c.2)

increasing_from_rising : (low high : ℕ) (xs : List ℕ) → Rising low xs high → IsStrictlyIncreasing xs
increasing_from_rising low high [] r k h = absurd (omega arith)
increasing_from_rising low high (x ∷ []) r k h = absurd (omega arith)
increasing_from_rising low high (x ∷ y ∷ ys) r zero h = r.2.0
increasing_from_rising low high (x ∷ y ∷ ys) r (suc k) h =
    let index : k + 1 ≡ suc k = omega arith in
    let index' : suc k + 1 ≡ suc (suc k) = omega arith in
    let on : get_or (y ∷ ys) k 0 < get_or (y ∷ ys) (k + 1) 0 = increasing_from_rising (suc x) high (y ∷ ys) r.2 k (omega arith) in
    subst (λ i. get_or (x ∷ y ∷ ys) (suc k) 0 < get_or (x ∷ y ∷ ys) i 0) (sym index') (subst (λ i. get_or (y ∷ ys) k 0 < get_or (y ∷ ys) i 0) index on)

-- a bound above each element
top : List ℕ → ℕ
top [] = 0
top (x ∷ xs) = suc x + top xs

-- the first element is at least this
StartsFrom : ℕ → List ℕ → Type 0
StartsFrom low [] = Unit {0}
StartsFrom low (x ∷ xs) = low ≤ x

rising_from_increasing : (low high : ℕ) (xs : List ℕ) → StartsFrom low xs → top xs ≤ high → IsStrictlyIncreasing xs → Rising low xs high
unfolding top StartsFrom
rising_from_increasing low high [] s t h = tt
rising_from_increasing low high (x ∷ []) s t h = (s, omega arith, tt)
rising_from_increasing low high (x ∷ y ∷ ys) s t h =
    let next : IsStrictlyIncreasing (y ∷ ys) = λ k hk.
    let index : k + 1 ≡ suc k = omega arith in
    let index' : suc k + 1 ≡ suc (suc k) = omega arith in
    let on = subst (λ i. get_or (x ∷ y ∷ ys) (suc k) 0 < get_or (x ∷ y ∷ ys) i 0) index' (h (suc k) (omega arith)) in
    subst (λ i. get_or (y ∷ ys) k 0 < get_or (y ∷ ys) i 0) (sym index) on in
    (s, omega arith, rising_from_increasing (suc x) high (y ∷ ys) (h 0 (omega arith)) (omega arith) next)

starts_from_zero : (xs : List ℕ) → StartsFrom 0 xs
unfolding StartsFrom
starts_from_zero [] = tt
starts_from_zero (x ∷ xs) = omega arith

-- the lists that nodes hold
pub apart_from_whole : (places : ℕ) (ns : List Node) → IsWhole places ns → AreApart (lists places ns)
apart_from_whole places ns h = record {
  ascending = λ v. increasing_from_rising 0 places (list_of (lists places ns) v) (h.rings.rising v);
  apart = λ u v k i j. h.rings.apart u v k (IsIn-from_Contains k (list_of (lists places ns) u) i) (IsIn-from_Contains k (list_of (lists places ns) v) j);
}

-- ---- merges

-- both forms of a node put in order
in_order_before : (node k : ℕ) (ks : List ℕ) → node < k → in_order (k ∷ ks) node ≡ node ∷ k ∷ ks
unfolding in_order
in_order_before node k ks h = sym (cond_below node k (node ∷ k ∷ ks) (k ∷ in_order ks node) h)

in_order_after : (node k : ℕ) (ks : List ℕ) → k ≤ node → in_order (k ∷ ks) node ≡ k ∷ in_order ks node
unfolding in_order
in_order_after node k ks h = sym (cond_above node k (node ∷ k ∷ ks) (k ∷ in_order ks node) (k ∷ in_order ks node) h refl)

in_order_none : (node : ℕ) → in_order [] node ≡ node ∷ []
unfolding in_order
in_order_none node = refl

rising_in_order : (low high node : ℕ) (ks : List ℕ) → low ≤ node → node < high → (IsIn node ks → ⊥) → Rising low ks high → Rising low (in_order ks node) high
rising_in_order low high node [] hl hh out r = subst (λ t. Rising low t high) (sym (in_order_none node)) (hl, hh, tt)
rising_in_order low high node (k ∷ ks) hl hh out r =
    elim (cases_lt node k) [
      | inl before ↦ subst (λ t. Rising low t high) (sym (in_order_before node k ks before)) (hl, hh, (before, r.1, r.2))
      | inr after ↦
          let other : node ≡ k → ⊥ = λ e. out (inl e) in
          subst (λ t. Rising low t high) (sym (in_order_after node k ks after))
          (r.0, r.1, rising_in_order (suc k) high node ks (omega (arith, other)) hh (λ i. out (inr i)) r.2)
    ]

in_order_has : (node j : ℕ) (ks : List ℕ) → (j ≡ node) ⊎ IsIn j ks → IsIn j (in_order ks node)
in_order_has node j [] h = subst (IsIn j) (sym (in_order_none node)) h
in_order_has node j (k ∷ ks) h =
    elim (cases_lt node k) [
      | inl before ↦ subst (IsIn j) (sym (in_order_before node k ks before)) h
      | inr after ↦ subst (IsIn j) (sym (in_order_after node k ks after)) (elim h [
        | inl e ↦ inr (in_order_has node j ks (inl e))
        | inr i ↦ elim i [ inl e ↦ inl e | inr i' ↦ inr (in_order_has node j ks (inr i')) ]
      ])
    ]

in_order_from : (node j : ℕ) (ks : List ℕ) → IsIn j (in_order ks node) → (j ≡ node) ⊎ IsIn j ks
in_order_from node j [] h = subst (IsIn j) (in_order_none node) h
in_order_from node j (k ∷ ks) h =
    elim (cases_lt node k) [
      | inl before ↦ subst (IsIn j) (in_order_before node k ks before) h
      | inr after ↦ elim (subst (IsIn j) (in_order_after node k ks after) h) [
        | inl e ↦ inr (inl e)
        | inr i ↦ elim (in_order_from node j ks i) [ inl e ↦ inl e | inr i' ↦ inr (inr i') ]
      ]
    ]

merged_more : (node : ℕ) (rest into : List ℕ) → merged (node ∷ rest) into ≡ merged rest (in_order into node)
unfolding merged
merged_more node rest into = refl

merged_nothing : (into : List ℕ) → merged [] into ≡ into
unfolding merged
merged_nothing into = refl

rising_merged : (low high : ℕ) (from into : List ℕ) → Rising low from high → Rising low into high → ((k : ℕ) → IsIn k from → IsIn k into → ⊥) → Rising low (merged from into) high
rising_merged low high [] into r s apart = subst (λ t. Rising low t high) (sym (merged_nothing into)) s
rising_merged low high (x ∷ xs) into r s apart =
    subst (λ t. Rising low t high) (sym (merged_more x xs into))
    (rising_merged low high xs (in_order into x) (rising_from low (suc x) high xs (omega (arith, r.0)) r.2)
    (rising_in_order low high x into r.0 r.1 (λ i. apart x (inl refl) i) s)
    (λ k i j. elim (in_order_from x k into j) [
      | inl e ↦ omega (arith, e, rising_low (suc x) high k xs r.2 i)
      | inr j' ↦ apart k (inr i) j'
    ]))

merged_has : (k : ℕ) (from into : List ℕ) → IsIn k from ⊎ IsIn k into → IsIn k (merged from into)
merged_has k [] into h = subst (IsIn k) (sym (merged_nothing into)) (elim h [ inl i ↦ absurd i | inr j ↦ j ])
merged_has k (x ∷ xs) into h =
    subst (IsIn k) (sym (merged_more x xs into)) (elim h [
      | inl i ↦ elim i [
        | inl e ↦ merged_has k xs (in_order into x) (inr (in_order_has x k into (inl e)))
        | inr i' ↦ merged_has k xs (in_order into x) (inl i')
      ]
      | inr j ↦ merged_has k xs (in_order into x) (inr (in_order_has x k into (inr j)))
    ])

merged_from : (k : ℕ) (from into : List ℕ) → IsIn k (merged from into) → IsIn k from ⊎ IsIn k into
merged_from k [] into h = inr (subst (IsIn k) (merged_nothing into) h)
merged_from k (x ∷ xs) into h =
    elim (merged_from k xs (in_order into x) (subst (IsIn k) (merged_more x xs into) h)) [
      | inl i ↦ inl (inr i)
      | inr j ↦ elim (in_order_from x k into j) [ inl e ↦ inl (inl e) | inr j' ↦ inr j' ]
    ]

pub merges_ascending : (from into : List ℕ) → IsStrictlyIncreasing from → IsStrictlyIncreasing into → ((k : ℕ) → Contains from k → Contains into k → ⊥) → IsMerge from into (merged from into)
merges_ascending from into f g apart =
    let high = top from + top into in
    let r = rising_from_increasing 0 high from (starts_from_zero from) (omega arith) f in
    let s = rising_from_increasing 0 high into (starts_from_zero into) (omega arith) g in
    record {
      ascending = increasing_from_rising 0 high (merged from into) (rising_merged 0 high from into r s (λ k i j. apart k (Contains-from_IsIn k from i) (Contains-from_IsIn k into j)));
      members = λ k. (
        λ c. elim (merged_from k from into (IsIn-from_Contains k (merged from into) c)) [ inl i ↦ inl (Contains-from_IsIn k from i) | inr j ↦ inr (Contains-from_IsIn k into j) ],
        λ c. Contains-from_IsIn k (merged from into) (merged_has k from into (elim c [ inl i ↦ inl (IsIn-from_Contains k from i) | inr j ↦ inr (IsIn-from_Contains k into j) ])),
      );
    }
