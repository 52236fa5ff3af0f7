-- The lists without a node.
use Rattle.std.proofs.Common.{◌≡◌, ℕ, suc, ◌<◌, ◌==◌, not, cond, List, [], ◌∷◌, ◌++◌, length, get_or, set, map, inl, inr, refl, sym, ap, subst, ◌∙◌, arith, length-set}
use Rattle.std.specs.Prelude.{Contains}
use Rattle.std.proofs.lemmas.Bool.{cases_eq}
use Rattle.std.proofs.lemmas.Bool.Decides.{eqb_tells}
use Rattle.std.proofs.lemmas.List.{ext_get_or, get_or-map, get_or-set_same, get_or-set_other, length-map}
use Rattle.std.proofs.lemmas.List.Elements.{filter-append}
use Rattle.use_chain.specs.declared.Node.{Node}
use Rattle.use_chain.specs.Uses.{list_of, without}
use Rattle.use_chain.specs.Rings.{taken_out, Rising, IsIn, Holds}
use Rattle.use_chain.proofs.Paths.{IsIn-append_right, rising_low, rising_high, rising_before, rising_after}
use Rattle.use_chain.proofs.RingLemmas.{holds_taken}
use Rattle.use_chain.proofs.Answering.{IsIn-from_Contains, split_at, value_within}

-- a list that does not have the node stays
without_none : (x : ℕ) (xs : List ℕ) → (IsIn x xs → ⊥) → without x xs ≡ xs
without_none x [] h = refl
without_none x (k ∷ ks) h =
    elim (eqb_tells k x) [
      | inl t ↦ absurd (h (inl (sym t.1)))
      | inr t ↦ ap (λ b. cond (not b) (k ∷ without x ks) (without x ks)) t.0 ∙ ap (λ t'. k ∷ t') (without_none x ks (λ i. h (inr i)))
    ]

-- the node itself goes
without_first : (x : ℕ) (xs : List ℕ) → (IsIn x xs → ⊥) → without x (x ∷ xs) ≡ xs
without_first x xs h =
    elim (eqb_tells x x) [
      | inl t ↦ ap (λ b. cond (not b) (x ∷ without x xs) (without x xs)) t.0 ∙ without_none x xs h
      | inr t ↦ absurd (t.1 refl)
    ]

without_middle : (x high : ℕ) (l r : List ℕ) → Rising 0 (l ++ x ∷ r) high → without x (l ++ x ∷ r) ≡ l ++ r
without_middle x high l r rise =
    let before : IsIn x l → ⊥ = λ i. omega (arith, rising_high 0 x x l (rising_before 0 high x l r rise) i) in
    let after : IsIn x r → ⊥ = λ i. omega (arith, rising_low (suc x) high x r (rising_after 0 high x l r rise) i) in
    filter-append (λ k. not (k == x)) l (x ∷ r)
    ∙ ap (λ t. t ++ without x (x ∷ r)) (without_none x l before)
    ∙ ap (λ t. l ++ t) (without_first x r after)

-- the lists without the node are those where its list has lost it
without_is_set : (places : ℕ) (ns : List Node) (uses : List (List ℕ)) (v x : ℕ) (l r : List ℕ) → Holds places ns uses → v < length uses → list_of uses v ≡ l ++ x ∷ r → set uses v (l ++ r) ≡ map (without x) uses
without_is_set places ns uses v x l r h hv was =
    let rise : Rising 0 (l ++ x ∷ r) places = subst (λ ks. Rising 0 ks places) was (h.rings.rising v) in
    let in_v : IsIn x (list_of uses v) = subst (IsIn x) (sym was) (IsIn-append_right x l (x ∷ r) (inl refl)) in
    ext_get_or [] (set uses v (l ++ r)) (map (without x) uses) (length-set uses v (l ++ r) ∙ sym (length-map uses (without x)))
    (λ i hi.
    let within : i < length uses = omega (arith, length-set uses v (l ++ r)) in
    let mapped = get_or-map (without x) uses i [] [] within in
    elim (cases_eq i v) [
      | inl e ↦ subst (λ j. get_or (set uses v (l ++ r)) j [] ≡ get_or (map (without x) uses) j []) (sym e)
          (get_or-set_same uses v (l ++ r) [] hv ∙ sym (get_or-map (without x) uses v [] [] hv ∙ ap (without x) was ∙ without_middle x places l r rise))
      | inr ne ↦ get_or-set_other uses v i (l ++ r) [] ne ∙ sym (mapped ∙ without_none x (list_of uses i) (λ j. ne (h.rings.apart i v x j in_v)))
    ])

pub holds_without : (places : ℕ) (ns : List Node) (uses : List (List ℕ)) (x : ℕ) → Holds places ns uses → (v : ℕ) × Contains (list_of uses v) x → Holds places (taken_out ns x) (map (without x) uses)
holds_without places ns uses x h (v, c) =
    let s = split_at x (list_of uses v) (IsIn-from_Contains x (list_of uses v) c) in
    let hv = value_within uses v x s.0 s.1 s.2 in
    subst (Holds places (taken_out ns x)) (without_is_set places ns uses v x s.0 s.1 h hv s.2) (holds_taken places ns uses v x s.0 s.1 h hv s.2)
