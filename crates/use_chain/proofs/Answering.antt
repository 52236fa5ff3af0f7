-- What the links at a node and at a ring head are, in terms of the lists.
use Rattle.std.proofs.Common.{◌≡◌, ℕ, zero, suc, ◌+◌, ◌-◌, ◌<◌, ◌≤◌, List, [], ◌∷◌, ◌++◌, length, get_or, inl, inr, Option, None, Some, refl, sym, ap, subst, ◌∙◌, arith, length-append}
use Rattle.std.specs.Prelude.{slice_get, Contains}
use Rattle.std.proofs.lemmas.Bool.{cond_below, cond_above}
use Rattle.std.proofs.lemmas.List.{get_or_default, get_or_past}
use Rattle.use_chain.specs.declared.Node.{Node}
use Rattle.use_chain.specs.Uses.{list_of}
use Rattle.use_chain.specs.Rings.{next_of, prev_of, lists, place_of, Path, Rising, IsIn, Holds, IsWhole}
use Rattle.use_chain.proofs.Paths.{rising_right, rising_after, rising_before, head_or, path_to, path_on, path_first}
use Rattle.use_chain.proofs.RingLemmas.{node_within}

-- the lists that a view shows
pub holds_view : (places : ℕ) (ns : List Node) (uses : List (List ℕ)) → IsWhole places ns → lists places ns ≡ uses → Holds places ns uses
holds_view places ns uses h e = subst (Holds places ns) e h

-- ---- an element and the split at it

pub IsIn-from_Contains : (x : ℕ) (xs : List ℕ) → Contains xs x → IsIn x xs
IsIn-from_Contains x [] (k, h, e) = absurd (omega arith)
IsIn-from_Contains x (y ∷ ys) (zero, h, e) = inl (sym e)
IsIn-from_Contains x (y ∷ ys) (suc k, h, e) = inr (IsIn-from_Contains x ys (k, omega arith, e))

pub split_at : (x : ℕ) (xs : List ℕ) → IsIn x xs → (l : List ℕ) × (r : List ℕ) × (xs ≡ l ++ x ∷ r)
split_at x [] h = absurd h
split_at x (y ∷ ys) (inl e) = ([], ys, ap (λ k. k ∷ ys) (sym e))
split_at x (y ∷ ys) (inr h) = let s = split_at x ys h in (y ∷ s.0, s.1, ap (λ ks. y ∷ ks) s.2)

-- a value whose list is not empty is one of the values
pub value_within : (uses : List (List ℕ)) (v x : ℕ) (l r : List ℕ) → list_of uses v ≡ l ++ x ∷ r → v < length uses
value_within uses v x l r e =
    let contradiction : length uses ≤ v → ⊥ = λ past. omega (arith, ap length (sym (get_or_past uses v [] past) ∙ e), length-append l (x ∷ r)) in
    omega (arith, contradiction)

-- ---- the ends of a list

-- the last element, or a where there is none
last_or : ℕ → List ℕ → ℕ
last_or a [] = a
last_or a (k ∷ ks) = last_or k ks

path_final : (f g : ℕ → ℕ) (a z : ℕ) (ks : List ℕ) → Path f g a ks z → g z ≡ last_or a ks
unfolding last_or
path_final f g a z [] p = p.1
path_final f g a z (k ∷ ks) p = path_final f g k z ks p.2

place_below : (places k : ℕ) → k < places → place_of places k ≡ Some k
place_below places k h = sym (cond_below k places (Some k) None h)

place_above : (places k : ℕ) → places ≤ k → place_of places k ≡ None
place_above places k h = sym (cond_above k places (Some k) None None h refl)

place_head : (places low high z : ℕ) (ks : List ℕ) → places ≤ z → high ≤ places → Rising low ks high → place_of places (head_or z ks) ≡ slice_get ks 0
place_head places low high z [] hz le r = place_above places z hz
place_head places low high z (k ∷ ks) hz le r = place_below places k (omega (arith, r.1))

last_get : (k : ℕ) (ks : List ℕ) → slice_get (k ∷ ks) (length ks) ≡ Some (last_or k ks)
unfolding last_or
last_get k [] = refl
last_get k (j ∷ js) = last_get j js

last_below : (low high k : ℕ) (ks : List ℕ) → k < high → Rising low ks high → last_or k ks < high
unfolding last_or
last_below low high k [] h r = h
last_below low high k (j ∷ js) h r = last_below (suc j) high j js r.1 r.2

place_last : (places low high a : ℕ) (ks : List ℕ) → places ≤ a → high ≤ places → Rising low ks high → place_of places (last_or a ks) ≡ slice_get ks (length ks - 1)
unfolding last_or
place_last places low high a [] ha le r = place_above places a ha
place_last places low high a (k ∷ ks) ha le r =
    let below : last_or k ks < high = last_below (suc k) high k ks r.1 r.2 in
    let index : length ks ≡ length (k ∷ ks) - 1 = omega arith in
    place_below places (last_or k ks) (omega (arith, below)) ∙ sym (last_get k ks) ∙ ap (slice_get (k ∷ ks)) index

-- ---- what the calls answer

-- the node that the code reads
read_next : (ns : List Node) (k : ℕ) (n : Node) → k < length ns → n ≡ get_or ns k n → n.next ≡ next_of ns k
read_next ns k n h e = ap (λ (m : Node). m.next) (e ∙ get_or_default ns k n (record { next = 0; prev = 0 }) h)

read_prev : (ns : List Node) (k : ℕ) (n : Node) → k < length ns → n ≡ get_or ns k n → n.prev ≡ prev_of ns k
read_prev ns k n h e = ap (λ (m : Node). m.prev) (e ∙ get_or_default ns k n (record { next = 0; prev = 0 }) h)

pub first_is : (places : ℕ) (ns : List Node) (uses : List (List ℕ)) (v : ℕ) (n : Node) (answer : Option ℕ) → Holds places ns uses → v < length uses → n ≡ get_or ns (places + v) n → answer ≡ place_of places n.next → answer ≡ slice_get (list_of uses v) 0
first_is places ns uses v n answer h hv read e =
    let ring = h.rings.ring v hv in
    let next = read_next ns (places + v) n (omega (arith, h.size)) read ∙ path_first (next_of ns) (prev_of ns) (places + v) (places + v) (list_of uses v) ring in
    e ∙ ap (place_of places) next ∙ place_head places 0 places (places + v) (list_of uses v) (omega arith) (omega arith) (h.rings.rising v)

pub last_is : (places : ℕ) (ns : List Node) (uses : List (List ℕ)) (v : ℕ) (n : Node) (answer : Option ℕ) → Holds places ns uses → v < length uses → n ≡ get_or ns (places + v) n → answer ≡ place_of places n.prev → answer ≡ slice_get (list_of uses v) (length (list_of uses v) - 1)
last_is places ns uses v n answer h hv read e =
    let ring = h.rings.ring v hv in
    let prev = read_prev ns (places + v) n (omega (arith, h.size)) read ∙ path_final (next_of ns) (prev_of ns) (places + v) (places + v) (list_of uses v) ring in
    e ∙ ap (place_of places) prev ∙ place_last places 0 places (places + v) (list_of uses v) (omega arith) (omega arith) (h.rings.rising v)

pub next_is : (places : ℕ) (ns : List Node) (uses : List (List ℕ)) (x : ℕ) (n : Node) (answer : Option ℕ) → Holds places ns uses → n ≡ get_or ns x n → x < length ns → answer ≡ place_of places n.next → (v : ℕ) (l r : List ℕ) → list_of uses v ≡ l ++ x ∷ r → answer ≡ slice_get r 0
next_is places ns uses x n answer h read hx e v l r was =
    let head = places + v in
    let ring = subst (λ ks. Path (next_of ns) (prev_of ns) head ks head) was (h.rings.ring v (value_within uses v x l r was)) in
    let rise = subst (λ ks. Rising 0 ks places) was (h.rings.rising v) in
    let next = read_next ns x n hx read ∙ path_first (next_of ns) (prev_of ns) x head r (path_on (next_of ns) (prev_of ns) head x head l r ring) in
    e ∙ ap (place_of places) next ∙ place_head places (suc x) places head r (omega arith) (omega arith) (rising_after 0 places x l r rise)

pub prev_is : (places : ℕ) (ns : List Node) (uses : List (List ℕ)) (x : ℕ) (n : Node) (answer : Option ℕ) → Holds places ns uses → n ≡ get_or ns x n → x < length ns → answer ≡ place_of places n.prev → (v : ℕ) (l r : List ℕ) → list_of uses v ≡ l ++ x ∷ r → answer ≡ slice_get l (length l - 1)
prev_is places ns uses x n answer h read hx e v l r was =
    let head = places + v in
    let ring = subst (λ ks. Path (next_of ns) (prev_of ns) head ks head) was (h.rings.ring v (value_within uses v x l r was)) in
    let rise = subst (λ ks. Rising 0 ks places) was (h.rings.rising v) in
    let prev = read_prev ns x n hx read ∙ path_final (next_of ns) (prev_of ns) head x l (path_to (next_of ns) (prev_of ns) head x head l r ring) in
    let x_within : x < places = (rising_at places x l r rise) in
    e ∙ ap (place_of places) prev ∙ place_last places 0 x head l (omega arith) (omega arith) (rising_before 0 places x l r rise)
  where
    rising_at : (places x : ℕ) (l r : List ℕ) → Rising 0 (l ++ x ∷ r) places → x < places
    rising_at places x l r rise = (rising_right 0 places l (x ∷ r) rise).1

-- a node of some list is one of the nodes
pub listed_within : (places : ℕ) (ns : List Node) (uses : List (List ℕ)) (x : ℕ) → Holds places ns uses → (v : ℕ) × Contains (list_of uses v) x → x < length ns
listed_within places ns uses x h (v, c) = omega (arith, h.size, node_within places ns uses h v x (IsIn-from_Contains x (list_of uses v) c))
