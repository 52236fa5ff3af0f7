-- The lists while the uses are added in order.
use Rattle.std.proofs.Common.{◌≡◌, ℕ, zero, suc, ◌+◌, ◌*◌, ◌/◌, ◌%◌, ◌<◌, ◌≤◌, ◌==◌, true, false, cond, List, [], ◌∷◌, ◌++◌, length, get_or, set, map, filter, Option, None, Some, ◌⊎◌, inl, inr, refl, sym, ap, subst, ◌∙◌, arith, length-set, zero-add}
use Rattle.std.specs.Prelude.{Bool, IfSome}
use Rattle.std.specs.List.{range_with_len}
use Rattle.std.specs.Option.{option_map_or}
use Rattle.std.proofs.lemmas.Bool.{cases_lt}
use Rattle.std.proofs.lemmas.Bool.Decides.{eqb_tells}
use Rattle.std.proofs.lemmas.List.{append-nil, ext_get_or, get_or-set_same, get_or-set_other, get_or_past, map-id}
use Rattle.std.proofs.lemmas.List.FromFn.{length-map-range_with_len, get_or-map-range_with_len, filter_of_map_range_with_len_more}
use Rattle.use_chain.specs.declared.Node.{Node}
use Rattle.use_chain.specs.declared.Operands.{Operands}
use Rattle.use_chain.specs.Uses.{list_of, operands_of, operand_at, uses_value, uses_below}
use Rattle.use_chain.specs.Rings.{next_of, prev_of, put_before, with_use, alone, AreBelow, Path, Rising, IsIn, Holds}
use Rattle.use_chain.proofs.Paths.{rising_join}
use Rattle.use_chain.proofs.RingLemmas.{holds_put}

-- ---- a node at the end of a list

rising_under : (low high node : ℕ) (ks : List ℕ) → Rising low ks high → ((k : ℕ) → IsIn k ks → k < node) → Rising low ks node
rising_under low high node [] r h = tt
rising_under low high node (k ∷ ks) r h = (r.0, h k (inl refl), rising_under (suc k) high node ks r.2 (λ j i. h j (inr i)))

pub holds_appended : (places : ℕ) (ns : List Node) (uses : List (List ℕ)) (v node : ℕ) → Holds places ns uses → v < length uses → node < places → AreBelow uses node → Holds places (put_before ns (places + v) node) (set uses v (list_of uses v ++ node ∷ []))
holds_appended places ns uses v node h hv hn below =
    let list = list_of uses v in
    let under : Rising 0 list node = rising_under 0 places node list (h.rings.rising v) (below v) in
    let rise : Rising 0 (list ++ node ∷ []) places = rising_join 0 node places list (node ∷ []) (omega arith) (omega arith) under (omega arith, hn, tt) in
    holds_put places ns uses v node (places + v) list [] h hv hn (sym (append-nil list)) refl rise (λ u i. omega (arith, below u node i))

-- ---- the lists of the nodes below a count

pub length-uses_below : (steps : List Operands) (m : ℕ) → length (uses_below steps m) ≡ length steps
unfolding uses_below
length-uses_below steps m = length-map-range_with_len (λ v. filter (uses_value steps v) (range_with_len 0 m)) 0 (length steps)

list-uses_below : (steps : List Operands) (m v : ℕ) → v < length steps → list_of (uses_below steps m) v ≡ filter (uses_value steps v) (range_with_len 0 m)
unfolding uses_below
list-uses_below steps m v h = get_or-map-range_with_len (λ w. filter (uses_value steps w) (range_with_len 0 m)) 0 (length steps) v v [] h (zero-add v)

list-uses_below_past : (steps : List Operands) (m v : ℕ) → length steps ≤ v → list_of (uses_below steps m) v ≡ []
list-uses_below_past steps m v h = get_or_past (uses_below steps m) v [] (omega (arith, length-uses_below steps m))

filter_more : (p : ℕ → Bool) (m : ℕ) → filter p (range_with_len 0 (m + 1)) ≡ filter p (range_with_len 0 m) ++ cond (p m) (m ∷ []) []
filter_more p m =
    ap (filter p) (sym (map-id (range_with_len 0 (m + 1)))) ∙ filter_of_map_range_with_len_more p (λ k. k) 0 m m (zero-add m)
    ∙ ap (λ t. filter p t ++ cond (p m) (m ∷ []) []) (map-id (range_with_len 0 m))

-- the list of one value, one node on
list_more : (steps : List Operands) (m v : ℕ) → v < length steps → list_of (uses_below steps (m + 1)) v ≡ list_of (uses_below steps m) v ++ cond (uses_value steps v m) (m ∷ []) []
list_more steps m v h =
    list-uses_below steps (m + 1) v h ∙ filter_more (uses_value steps v) m
    ∙ ap (λ t. t ++ cond (uses_value steps v m) (m ∷ []) []) (sym (list-uses_below steps m v h))

uses_below-more_from : (steps : List Operands) (m : ℕ) (o : Option ℕ) → operand_at steps m ≡ o → IfSome o (λ v. v < length steps) → with_use (uses_below steps m) o m ≡ uses_below steps (m + 1)
uses_below-more_from steps m None e h =
    ext_get_or [] (uses_below steps m) (uses_below steps (m + 1)) (length-uses_below steps m ∙ sym (length-uses_below steps (m + 1)))
    (λ i hi.
    let test : uses_value steps i m ≡ false = ap (λ o. option_map_or (λ v. v == i) o false) e in
    sym (list_more steps m i (omega (arith, length-uses_below steps m)) ∙ ap (λ b. list_of (uses_below steps m) i ++ cond b (m ∷ []) []) test ∙ append-nil (list_of (uses_below steps m) i)))
uses_below-more_from steps m (Some w) e h =
    let before = uses_below steps m in
    let more = set before w (list_of before w ++ m ∷ []) in
    let size : length more ≡ length steps = length-set before w (list_of before w ++ m ∷ []) ∙ length-uses_below steps m in
    ext_get_or [] more (uses_below steps (m + 1)) (size ∙ sym (length-uses_below steps (m + 1)))
    (λ i hi.
    let test : uses_value steps i m ≡ (w == i) = ap (λ o. option_map_or (λ v. v == i) o false) e in
    elim (eqb_tells w i) [
      | inl t ↦ subst (λ j. get_or more j [] ≡ list_of (uses_below steps (m + 1)) j) t.1
          (get_or-set_same before w (list_of before w ++ m ∷ []) [] (omega (arith, length-uses_below steps m))
          ∙ sym (list_more steps m w h ∙ ap (λ b. list_of before w ++ cond b (m ∷ []) []) (subst (λ j. uses_value steps j m ≡ true) (sym t.1) (test ∙ t.0))))
      | inr t ↦ get_or-set_other before w i (list_of before w ++ m ∷ []) [] (λ same. t.1 (sym same))
          ∙ sym (list_more steps m i (omega (arith, size)) ∙ ap (λ b. list_of before i ++ cond b (m ∷ []) []) (test ∙ t.0) ∙ append-nil (list_of before i))
    ])

pub uses_below-more : (steps : List Operands) (m : ℕ) → IfSome (operand_at steps m) (λ v. v < length steps) → with_use (uses_below steps m) (operand_at steps m) m ≡ uses_below steps (m + 1)
uses_below-more steps m h = uses_below-more_from steps m (operand_at steps m) refl h

-- ---- these nodes are below the count

kept_in : (x k : ℕ) (xs ys : List ℕ) (b : Bool) → (IsIn k ys → IsIn k xs) → IsIn k (cond b (x ∷ ys) ys) → (k ≡ x) ⊎ IsIn k xs
kept_in x k xs ys true h (inl e) = inl e
kept_in x k xs ys true h (inr j) = inr (h j)
kept_in x k xs ys false h j = inr (h j)

IsIn-filter : (p : ℕ → Bool) (k : ℕ) (xs : List ℕ) → IsIn k (filter p xs) → IsIn k xs
IsIn-filter p k [] i = i
IsIn-filter p k (x ∷ xs) i = kept_in x k xs (filter p xs) (p x) (IsIn-filter p k xs) i

IsIn-range : (a n k : ℕ) → IsIn k (range_with_len a n) → k < a + n
IsIn-range a zero k i = absurd i
IsIn-range a (suc n) k (inl e) = omega (arith, e)
IsIn-range a (suc n) k (inr j) = omega (arith, IsIn-range (a + 1) n k j)

pub uses_below_are : (steps : List Operands) (m : ℕ) → AreBelow (uses_below steps m) m
uses_below_are steps m v k i =
    let past : length steps ≤ v → ⊥ = λ h. subst (IsIn k) (list-uses_below_past steps m v h) i in
    let within : v < length steps = omega (arith, past) in
    omega (arith, IsIn-range 0 m k (IsIn-filter (uses_value steps v) k (range_with_len 0 m) (subst (IsIn k) (list-uses_below steps m v within) i)))

-- ---- the start

-- no node is below 0
none_below : (steps : List Operands) (v : ℕ) → list_of (uses_below steps 0) v ≡ []
none_below steps v = elim (cases_lt v (length steps)) [ inl h ↦ list-uses_below steps 0 v h | inr h ↦ list-uses_below_past steps 0 v h ]

pub holds_none : (places : ℕ) (steps : List Operands) (ns : List Node) → places ≡ 2 * length steps → ns ≡ map alone (range_with_len 0 (3 * length steps)) → Holds places ns (uses_below steps 0)
holds_none places steps ns is_places e =
    let count = 3 * length steps in
    let size : length ns ≡ count = ap length e ∙ length-map-range_with_len alone 0 count in
    let at : (k : ℕ) → k < count → get_or ns k (record { next = 0; prev = 0 }) ≡ alone k =
    λ k h. ap (λ t. get_or t k (record { next = 0; prev = 0 })) e ∙ get_or-map-range_with_len alone 0 count k k (record { next = 0; prev = 0 }) h (zero-add k) in
    let next : (k : ℕ) → k < count → next_of ns k ≡ k = λ k h. ap (λ (n : Node). n.next) (at k h) in
    let prev : (k : ℕ) → k < count → prev_of ns k ≡ k = λ k h. ap (λ (n : Node). n.prev) (at k h) in
    record {
      size = omega (arith, size, is_places, length-uses_below steps 0);
      inside = λ k h. (omega (arith, size, next k (omega (arith, size))), omega (arith, size, prev k (omega (arith, size))));
      rings = record {
        ring = λ v hv.
            let within : places + v < count = omega (arith, is_places, length-uses_below steps 0) in
            subst (λ ks. Path (next_of ns) (prev_of ns) (places + v) ks (places + v)) (sym (none_below steps v)) (next (places + v) within, prev (places + v) within);
        rising = λ v. subst (λ ks. Rising 0 ks places) (sym (none_below steps v)) tt;
        apart = λ u v k i j. absurd (subst (IsIn k) (none_below steps u) i);
      };
    }

-- ---- a step's two operands

operand_is : (steps : List Operands) (node i r : ℕ) → node / 2 ≡ i → node % 2 ≡ r → operand_at steps node ≡ cond (r == 0) (operands_of steps i).first (operands_of steps i).second
unfolding operand_at
operand_is steps node i r d m =
    ap (λ j. cond (node % 2 == 0) (operands_of steps j).first (operands_of steps j).second) d
    ∙ ap (λ k. cond (k == 0) (operands_of steps i).first (operands_of steps i).second) m

pub first_operand : (steps : List Operands) (i : ℕ) → (operands_of steps i).first ≡ operand_at steps (2 * i)
first_operand steps i = sym (operand_is steps (2 * i) i 0 (omega arith) (omega arith))

pub second_operand : (steps : List Operands) (i : ℕ) → (operands_of steps i).second ≡ operand_at steps (2 * i + 1)
second_operand steps i = sym (operand_is steps (2 * i + 1) i 1 (omega arith) (omega arith))

pub named_within : (o : Option ℕ) (a b : ℕ) → a ≤ b → IfSome o (λ v. v < a) → IfSome o (λ v. v < b)
named_within None a b le h = tt
named_within (Some v) a b le h = omega arith

-- the lists after an operand was added
pub uses_added : (steps : List Operands) (uses uses' : List (List ℕ)) (m : ℕ) (o : Option ℕ) → uses ≡ uses_below steps m → o ≡ operand_at steps m → IfSome o (λ v. v < length uses) → uses' ≡ with_use uses o m → uses' ≡ uses_below steps (m + 1)
uses_added steps uses uses' m o e f named h =
    let within : length uses ≡ length steps = ap length e ∙ length-uses_below steps m in
    let some : IfSome (operand_at steps m) (λ v. v < length steps) = subst (λ p. IfSome p (λ v. v < length steps)) f (subst (λ n. IfSome o (λ v. v < n)) within named) in
    h ∙ ap (λ u. with_use u o m) e ∙ ap (λ p. with_use (uses_below steps m) p m) f ∙ uses_below-more steps m some
