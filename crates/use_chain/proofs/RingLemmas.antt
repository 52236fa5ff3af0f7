-- Rings after a node was taken out of one or put into one.
use Rattle.std.proofs.Common.{◌≡◌, ◌≢◌, ℕ, zero, suc, ◌+◌, ◌-◌, ◌<◌, ◌≤◌, List, [], ◌∷◌, ◌++◌, length, set, ◌⊎◌, inl, inr, refl, sym, ap, subst, ◌∙◌, arith, length-set}
use Rattle.std.proofs.lemmas.Bool.{cases_eq, cond_below, cond_above}
use Rattle.std.proofs.lemmas.List.{get_or-set_same, get_or-set_other}
use Rattle.std.proofs.lemmas.List.FromFn.{fill_by_all}
use Rattle.use_chain.specs.declared.Node.{Node}
use Rattle.use_chain.specs.Uses.{list_of}
use Rattle.use_chain.specs.Rings.{next_of, prev_of, linked, taken_out, put_before, walk, lists, Path, Rising, IsIn, AreRings, Holds, IsWhole}
use Rattle.use_chain.proofs.Links.{Relinks, linked_relinks, length-linked}
use Rattle.use_chain.proofs.Paths.{IsIn-append_left, IsIn-append_right, IsIn-middle, IsIn-middle_cases, rising_high, rising_without, rising-length, head_or, head_or_cases, path_frame, path_to, path_on, path_front, path_last, path_first, path_cut, path_put}

-- k is the head of ring v or in its list
abbrev pub Owns : ℕ → (ℕ → List ℕ) → ℕ → ℕ → Type 0
Owns places list v k = (k ≡ places + v) ⊎ IsIn k (list v)

-- rings have nothing in common
differ : (places n : ℕ) (f g : ℕ → ℕ) (list : ℕ → List ℕ) → AreRings places n f g list → (u v k p : ℕ) → u ≢ v → Owns places list u k → Owns places list v p → k ≢ p
differ places n f g list h u v k p ne (inl a) (inl b) e = ne (omega (arith, a, b, e))
differ places n f g list h u v k p ne (inl a) (inr j) e = omega (arith, a, e, rising_high 0 places p (list v) (h.rising v) j)
differ places n f g list h u v k p ne (inr i) (inl b) e = omega (arith, b, e, rising_high 0 places k (list u) (h.rising u) i)
differ places n f g list h u v k p ne (inr i) (inr j) e = ne (h.apart u v k i (subst (λ m. IsIn m (list v)) (sym e) j))

-- ---- a node taken out

-- what stands in a list after is in it before
kept_before : (list list' : ℕ → List ℕ) (v x : ℕ) (l r : List ℕ) → list v ≡ l ++ x ∷ r → list' v ≡ l ++ r → ((u : ℕ) → u ≢ v → list' u ≡ list u) → (u k : ℕ) → IsIn k (list' u) → IsIn k (list u)
kept_before list list' v x l r was is same u k h =
    elim (cases_eq u v) [
      | inl e ↦ subst (λ w. IsIn k (list w)) (sym e) (subst (IsIn k) (sym was) (IsIn-middle k x l r (subst (IsIn k) is (subst (λ w. IsIn k (list' w)) e h))))
      | inr ne ↦ subst (IsIn k) (same u ne) h
    ]

pub rings_taken : (places n : ℕ) (f g f' g' : ℕ → ℕ) (list list' : ℕ → List ℕ) (v x : ℕ) (l r : List ℕ) → v < n → list v ≡ l ++ x ∷ r → Relinks f g f' g' (g x) (f x) → list' v ≡ l ++ r → ((u : ℕ) → u ≢ v → list' u ≡ list u) → AreRings places n f g list → AreRings places n f' g' list'
rings_taken places n f g f' g' list list' v x l r hv was link is same h =
    let head = places + v in
    let path : Path f g head (l ++ x ∷ r) head = subst (λ ks. Path f g head ks head) was (h.ring v hv) in
    let rise : Rising 0 (l ++ x ∷ r) places = subst (λ ks. Rising 0 ks places) was (h.rising v) in
    let front = path_to f g head x head l r path in
    let back = path_on f g head x head l r path in
    let own_prev : Owns places list v (g x) = elim (path_last f g head x l front) [
      | inl e ↦ inl e
      | inr i ↦ inr (subst (IsIn (g x)) (sym was) (IsIn-append_left (g x) l (x ∷ r) i))
    ] in
    let own_next : Owns places list v (f x) = subst (Owns places list v) (sym (path_first f g x head r back)) (elim (head_or_cases head r) as (λ _. Owns places list v (head_or head r)) [
      | inl e ↦ inl e
      | inr i ↦ inr (subst (IsIn (head_or head r)) (sym was) (IsIn-append_right (head_or head r) l (x ∷ r) (inr i)))
    ]) in
    record {
      ring = λ u hu. elim (cases_eq u v) [
        | inl e ↦ subst (λ w. Path f' g' (places + w) (list' w) (places + w)) (sym e) (subst (λ ks. Path f' g' head ks head) (sym is)
            (path_cut f g f' g' 0 places head x head l r link rise (omega arith) (λ k i e. omega (arith, e, rising_high 0 places k (l ++ x ∷ r) rise i)) front back))
        | inr ne ↦ subst (λ ks. Path f' g' (places + u) ks (places + u)) (sym (same u ne)) (path_frame f g f' g' (places + u) (places + u) (list u)
            (λ k i. link.other_ahead k (differ places n f g list h u v k (g x) ne i own_prev))
            (λ k i. link.other_back k (differ places n f g list h u v k (f x) ne i own_next)) (h.ring u hu))
      ];
      rising = λ u. elim (cases_eq u v) [
        | inl e ↦ subst (λ w. Rising 0 (list' w) places) (sym e) (subst (λ ks. Rising 0 ks places) (sym is) (rising_without 0 places x l r rise))
        | inr ne ↦ subst (λ ks. Rising 0 ks places) (sym (same u ne)) (h.rising u)
      ];
      apart = λ u w k i j. h.apart u w k (kept_before list list' v x l r was is same u k i) (kept_before list list' v x l r was is same w k j);
    }

-- ---- a node put in

-- what stands in a list after is the new node or is in it before
new_or_before : (list list' : ℕ → List ℕ) (v x : ℕ) (l r : List ℕ) → list v ≡ l ++ r → list' v ≡ l ++ x ∷ r → ((u : ℕ) → u ≢ v → list' u ≡ list u) → (u k : ℕ) → IsIn k (list' u) → ((k ≡ x) × (u ≡ v)) ⊎ IsIn k (list u)
new_or_before list list' v x l r was is same u k h =
    elim (cases_eq u v) [
      | inl e ↦ elim (IsIn-middle_cases k x l r (subst (IsIn k) is (subst (λ w. IsIn k (list' w)) e h))) [
        | inl ex ↦ inl (ex, e)
        | inr i ↦ inr (subst (λ w. IsIn k (list w)) (sym e) (subst (IsIn k) (sym was) i))
      ]
      | inr ne ↦ inr (subst (IsIn k) (same u ne) h)
    ]

pub rings_put : (places n : ℕ) (f g f₁ g₁ f₂ g₂ : ℕ → ℕ) (list list' : ℕ → List ℕ) (v x at : ℕ) (l r : List ℕ) → v < n → x < places → list v ≡ l ++ r → at ≡ head_or (places + v) r → Rising 0 (l ++ x ∷ r) places → ((u : ℕ) → IsIn x (list u) → ⊥) → Relinks f g f₁ g₁ (g at) x → Relinks f₁ g₁ f₂ g₂ x at → list' v ≡ l ++ x ∷ r → ((u : ℕ) → u ≢ v → list' u ≡ list u) → AreRings places n f g list → AreRings places n f₂ g₂ list'
rings_put places n f g f₁ g₁ f₂ g₂ list list' v x at l r hv hx was is_at rise fresh one two is same h =
    let head = places + v in
    let path : Path f g head (l ++ r) head = subst (λ ks. Path f g head ks head) was (h.ring v hv) in
    let own_at : Owns places list v at = subst (Owns places list v) (sym is_at) (elim (head_or_cases head r) as (λ _. Owns places list v (head_or head r)) [
      | inl e ↦ inl e
      | inr i ↦ inr (subst (IsIn (head_or head r)) (sym was) (IsIn-append_right (head_or head r) l r i))
    ]) in
    let front : Path f g head l at = subst (λ z. Path f g head l z) (sym is_at) (path_front f g head head l r path) in
    let own_prev : Owns places list v (g at) = elim (path_last f g head at l front) [
      | inl e ↦ inl e
      | inr i ↦ inr (subst (IsIn (g at)) (sym was) (IsIn-append_left (g at) l r i))
    ] in
    let not_new : (u k : ℕ) → Owns places list u k → k ≢ x = λ u k own e. elim own [
      | inl a ↦ omega (arith, a, e, hx)
      | inr i ↦ fresh u (subst (λ m. IsIn m (list u)) e i)
    ] in
    let origin = new_or_before list list' v x l r was is same in
    record {
      ring = λ u hu. elim (cases_eq u v) [
        | inl e ↦ subst (λ w. Path f₂ g₂ (places + w) (list' w) (places + w)) (sym e) (subst (λ ks. Path f₂ g₂ head ks head) (sym is)
            (path_put f g f₁ g₁ f₂ g₂ 0 places head x head at l r is_at one two rise (omega arith) (λ k i e. omega (arith, e, rising_high 0 places k (l ++ x ∷ r) rise i)) path))
        | inr ne ↦ subst (λ ks. Path f₂ g₂ (places + u) ks (places + u)) (sym (same u ne)) (path_frame f g f₂ g₂ (places + u) (places + u) (list u)
            (λ k i. two.other_ahead k (not_new u k i) ∙ one.other_ahead k (differ places n f g list h u v k (g at) ne i own_prev))
            (λ k i. two.other_back k (differ places n f g list h u v k at ne i own_at) ∙ one.other_back k (not_new u k i)) (h.ring u hu))
      ];
      rising = λ u. elim (cases_eq u v) [
        | inl e ↦ subst (λ w. Rising 0 (list' w) places) (sym e) (subst (λ ks. Rising 0 ks places) (sym is) rise)
        | inr ne ↦ subst (λ ks. Rising 0 ks places) (sym (same u ne)) (h.rising u)
      ];
      apart = λ u w k i j. elim (origin u k i) [
        | inl a ↦ elim (origin w k j) [
          | inl b ↦ a.1 ∙ sym b.1
          | inr j' ↦ absurd (fresh w (subst (λ m. IsIn m (list w)) a.0 j'))
        ]
        | inr i' ↦ elim (origin w k j) [
          | inl b ↦ absurd (fresh u (subst (λ m. IsIn m (list u)) b.0 i'))
          | inr j' ↦ h.apart u w k i' j'
        ]
      ];
    }

-- ---- the nodes

-- links that stay inside
abbrev Inside : List Node → Type 0
Inside ns = (k : ℕ) → k < length ns → (next_of ns k < length ns) × (prev_of ns k < length ns)

inside_linked : (ns : List Node) (a b : ℕ) → Inside ns → a < length ns → b < length ns → Inside (linked ns a b)
inside_linked ns a b h ha hb k hk =
    let size = length-linked ns a b in
    let link = linked_relinks ns a b ha hb in
    let within : k < length ns = omega (arith, size) in (
      elim (cases_eq k a) [
        | inl e ↦ omega (arith, size, ap (next_of (linked ns a b)) e, link.ahead)
        | inr ne ↦ omega (arith, size, link.other_ahead k ne, (h k within).0)
      ],
      elim (cases_eq k b) [
        | inl e ↦ omega (arith, size, ap (prev_of (linked ns a b)) e, link.back)
        | inr ne ↦ omega (arith, size, link.other_back k ne, (h k within).1)
      ],
    )

-- a node of a list is one of the nodes
pub node_within : (places : ℕ) (ns : List Node) (uses : List (List ℕ)) → Holds places ns uses → (v k : ℕ) → IsIn k (list_of uses v) → k < places
node_within places ns uses h v k i = rising_high 0 places k (list_of uses v) (h.rings.rising v) i

pub holds_taken : (places : ℕ) (ns : List Node) (uses : List (List ℕ)) (v x : ℕ) (l r : List ℕ) → Holds places ns uses → v < length uses → list_of uses v ≡ l ++ x ∷ r → Holds places (taken_out ns x) (set uses v (l ++ r))
unfolding taken_out
holds_taken places ns uses v x l r h hv was =
    let a = prev_of ns x in
    let b = next_of ns x in
    let within : x < places = node_within places ns uses h v x (subst (IsIn x) (sym was) (IsIn-append_right x l (x ∷ r) (inl refl))) in
    let ends = h.inside x (omega (arith, h.size)) in
    let link = linked_relinks ns a b ends.1 ends.0 in
    record {
      size = omega (arith, length-linked ns a b, h.size, length-set uses v (l ++ r));
      inside = inside_linked ns a b h.inside ends.1 ends.0;
      rings = subst (λ n. AreRings places n (next_of (linked ns a b)) (prev_of (linked ns a b)) (list_of (set uses v (l ++ r)))) (sym (length-set uses v (l ++ r)))
          (rings_taken places (length uses) (next_of ns) (prev_of ns) (next_of (linked ns a b)) (prev_of (linked ns a b)) (list_of uses) (list_of (set uses v (l ++ r))) v x l r hv was link
          (get_or-set_same uses v (l ++ r) [] hv) (λ u ne. get_or-set_other uses v u (l ++ r) [] ne) h.rings);
    }

pub holds_put : (places : ℕ) (ns : List Node) (uses : List (List ℕ)) (v x at : ℕ) (l r : List ℕ) → Holds places ns uses → v < length uses → x < places → list_of uses v ≡ l ++ r → at ≡ head_or (places + v) r → Rising 0 (l ++ x ∷ r) places → ((u : ℕ) → IsIn x (list_of uses u) → ⊥) → Holds places (put_before ns at x) (set uses v (l ++ x ∷ r))
unfolding put_before
holds_put places ns uses v x at l r h hv hx was is_at rise fresh =
    let p = prev_of ns at in
    let ns₁ = linked ns p x in
    let ns₂ = linked ns₁ x at in
    let x_within : x < length ns = omega (arith, h.size) in
    let at_within : at < length ns = elim (head_or_cases (places + v) r) [
      | inl e ↦ omega (arith, h.size, is_at, e)
      | inr i ↦ omega (arith, h.size, is_at, rising_high 0 places (head_or (places + v) r) (list_of uses v) (h.rings.rising v) (subst (IsIn (head_or (places + v) r)) (sym was) (IsIn-append_right (head_or (places + v) r) l r i)))
    ] in
    let p_within : p < length ns = (h.inside at at_within).1 in
    let size = length-linked ns p x in
    let x_within₁ : x < length ns₁ = omega (arith, size) in
    let at_within₁ : at < length ns₁ = omega (arith, size) in
    record {
      size = omega (arith, length-linked ns₁ x at, size, h.size, length-set uses v (l ++ x ∷ r));
      inside = inside_linked ns₁ x at (inside_linked ns p x h.inside p_within x_within) x_within₁ at_within₁;
      rings = subst (λ n. AreRings places n (next_of ns₂) (prev_of ns₂) (list_of (set uses v (l ++ x ∷ r)))) (sym (length-set uses v (l ++ x ∷ r)))
          (rings_put places (length uses) (next_of ns) (prev_of ns) (next_of ns₁) (prev_of ns₁) (next_of ns₂) (prev_of ns₂) (list_of uses) (list_of (set uses v (l ++ x ∷ r))) v x at l r hv hx was is_at rise fresh
          (linked_relinks ns p x p_within x_within) (linked_relinks ns₁ x at x_within₁ at_within₁)
          (get_or-set_same uses v (l ++ x ∷ r) [] hv) (λ u ne. get_or-set_other uses v u (l ++ x ∷ r) [] ne) h.rings);
    }

-- ---- the lists that walks give

walk_is : (f g : ℕ → ℕ) (low places a z fuel : ℕ) (ks : List ℕ) → Path f g a ks z → Rising low ks places → places ≤ z → length ks ≤ fuel → walk f places fuel (f a) ≡ ks
walk_is f g low places a z zero [] p r hz short = refl
walk_is f g low places a z zero (k ∷ ks) p r hz short = absurd (omega arith)
walk_is f g low places a z (suc m) [] p r hz short =
    sym (cond_above (f a) places (f a ∷ walk f places m (f (f a))) [] [] (omega (arith, p.0)) refl)
walk_is f g low places a z (suc m) (k ∷ ks) p r hz short =
    sym (cond_below (f a) places (f a ∷ walk f places m (f (f a))) [] (omega (arith, p.0, r.1)))
    ∙ ap (λ n. n ∷ walk f places m (f n)) p.0
    ∙ ap (λ t. k ∷ t) (walk_is f g (suc k) places k z m ks p.2 r.2 hz (omega arith))

-- the lists that nodes hold are those of the walks
pub lists_are : (places : ℕ) (ns : List Node) (uses : List (List ℕ)) → Holds places ns uses → lists places ns ≡ uses
unfolding lists
lists_are places ns uses h =
    sym (fill_by_all (λ v. walk (next_of ns) places places (next_of ns (places + v))) uses (length ns - places) [] (omega (arith, h.size))
    (λ v hv. sym (walk_is (next_of ns) (prev_of ns) 0 places (places + v) (places + v) places (list_of uses v) (h.rings.ring v (omega (arith, h.size))) (h.rings.rising v) (omega arith) (omega (arith, rising-length 0 places (list_of uses v) (omega arith) (h.rings.rising v))))))

pub whole_from : (places : ℕ) (ns : List Node) (uses : List (List ℕ)) → Holds places ns uses → IsWhole places ns
whole_from places ns uses h = subst (Holds places ns) (sym (lists_are places ns uses h)) h
