-- Walks over a list from its first and from its last element.
use Rattle.std.proofs.Common.{◌≡◌, ℕ, ◌-◌, List, [], ◌∷◌, ◌++◌, length, reverse, None, Some, refl, sym, ap, subst, ◌∙◌, arith, append_assoc, length-append}
use Rattle.std.specs.Prelude.{slice_get, Contains}
use Rattle.std.proofs.lemmas.List.{get_or_at, reverse-append}
use Rattle.use_chain.specs.Uses.{list_of, IsListed}

-- a node between two parts of a list stands in it
pub listed : (uses : List (List ℕ)) (value k : ℕ) (before after : List ℕ) → list_of uses value ≡ before ++ k ∷ after → IsListed uses k
listed uses value k before after e =
    let there : Contains (before ++ k ∷ after) k = (length before, omega (arith, length-append before (k ∷ after)), get_or_at before k after k (length before) refl) in
    (value, subst (λ ks. Contains ks k) (sym e) there)

-- what is left begins with the node
pub first_split : (list items rest : List ℕ) (node : ℕ) → list ≡ items ++ rest → slice_get rest 0 ≡ Some node → (ks : List ℕ) × (list ≡ items ++ node ∷ ks)
first_split list items [] node e h = cc
first_split list items (k ∷ ks) node e h = let same : k ≡ node = cc in (ks, e ∙ ap (λ x. items ++ x ∷ ks) same)

pub first_none : (rest : List ℕ) → slice_get rest 0 ≡ None → rest ≡ []
first_none [] h = refl
first_none (k ∷ ks) h = cc

-- what is left ends with the node
last_is : (k : ℕ) (ks : List ℕ) (node : ℕ) → slice_get (k ∷ ks) (length ks) ≡ Some node → (js : List ℕ) × (k ∷ ks ≡ js ++ node ∷ [])
last_is k [] node h = let same : k ≡ node = cc in ([], ap (λ x. x ∷ []) same)
last_is k (j ∷ js) node h = let s = last_is j js node h in (k ∷ s.0, ap (λ xs. k ∷ xs) s.1)

last_index : (k : ℕ) (ks : List ℕ) → length (k ∷ ks) - 1 ≡ length ks
last_index k ks = omega arith

pub last_split : (list front turned : List ℕ) (node : ℕ) → list ≡ front ++ turned → slice_get front (length front - 1) ≡ Some node → (js : List ℕ) × (list ≡ js ++ node ∷ turned)
last_split list [] turned node e h = cc
last_split list (k ∷ ks) turned node e h =
    let s = last_is k ks node (subst (λ i. slice_get (k ∷ ks) i ≡ Some node) (last_index k ks) h) in
    (s.0, e ∙ ap (λ xs. xs ++ turned) s.1 ∙ append_assoc s.0 (node ∷ []) turned)

last_some : (k : ℕ) (ks : List ℕ) → slice_get (k ∷ ks) (length ks) ≡ None → k ∷ ks ≡ []
last_some k [] h = cc
last_some k (j ∷ js) h = let e = last_some j js h in cc

pub last_none : (front : List ℕ) → slice_get front (length front - 1) ≡ None → front ≡ []
last_none [] h = refl
last_none (k ∷ ks) h = last_some k ks (subst (λ i. slice_get (k ∷ ks) i ≡ None) (last_index k ks) h)

pub reverse_push : (items : List ℕ) (node : ℕ) → reverse (items ++ node ∷ []) ≡ node ∷ reverse items
reverse_push items node = reverse-append items (node ∷ [])
