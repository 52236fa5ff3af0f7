-- The automorphisms of one step more.
use Rattle.std.proofs.Common.{◌≡◌, ℕ, ◌+◌, ◌<◌, ◌||◌, Bool, true, false, cond, eqb, List, length, take, get_or, Some, None, refl, sym, ap, ◌∙◌, subst}
use Rattle.std.specs.Ordering.{nat_cmp, MatchOrdering}
use Rattle.std.specs.declared.cmp.Ordering.{Ordering}
use Rattle.std.proofs.lemmas.Cmp.{ranked}
use Rattle.std.proofs.lemmas.Map.Lookups.{CmpEqualImpliesEq}
use Rattle.std.proofs.lemmas.List.Folds.{list_any_more}
use Rattle.slot_program.specs.Kinds.{key_of, is_key_of, is_key}
use Rattle.slot_program.specs.declared.kinds.Step.{Step}

one_more : (steps : List Step) (i q : ℕ) (step : Step) → i < length steps → step ≡ get_or steps i step
    → is_key (take (i + 1) steps) q ≡ (is_key (take i steps) q || is_key_of q (key_of step.kind))
one_more steps i q step here is =
    list_any_more (λ (step : Step). is_key_of q (key_of step.kind)) steps i step here
    ∙ ap (λ (s : Step). is_key (take i steps) q || is_key_of q (key_of s.kind)) (sym is)

turned : (b c : Bool) → cond b true c ≡ (c || b)
turned true true = refl
turned true false = refl
turned false true = refl
turned false false = refl

none : (c : Bool) → c ≡ (c || false)
none true = refl
none false = refl

pub key_more : (steps : List Step) (i k q : ℕ) (step : Step) (old new : Bool) → i < length steps → step ≡ get_or steps i step → key_of step.kind ≡ Some k
    → old ≡ is_key (take i steps) q → new ≡ cond (eqb k q) true old → new ≡ is_key (take (i + 1) steps) q
key_more steps i k q step old new here is key so_far put =
    put ∙ turned (eqb k q) old ∙ ap (λ b. b || eqb k q) so_far ∙ ap (λ o. is_key (take i steps) q || is_key_of q o) (sym key) ∙ sym (one_more steps i q step here is)

pub key_same : (steps : List Step) (i q : ℕ) (step : Step) (old : Bool) → i < length steps → step ≡ get_or steps i step → key_of step.kind ≡ None
    → old ≡ is_key (take i steps) q → old ≡ is_key (take (i + 1) steps) q
key_same steps i q step old here is key so_far =
    none old ∙ ap (λ b. b || false) so_far ∙ ap (λ o. is_key (take i steps) q || is_key_of q o) (sym key) ∙ sym (one_more steps i q step here is)

pub equal_numbers : CmpEqualImpliesEq nat_cmp
equal_numbers x y is =
    let P : Ordering → Type 0 = λ r. MatchOrdering r (x < y) (x ≡ y) (y < x) in
    subst P is (ranked x y (nat_cmp x y) refl)
