use Rattle.std.proofs.Common.{ℕ, List, sym, ◌∙◌, subst}
use Rattle.std.specs.List.{Contains}
use Rattle.std.specs.List.Sorted.{IsStrictlyIncreasing}
use Rattle.std.proofs.lemmas.Cmp.{nat_cmp_total}
use Rattle.std.proofs.lemmas.Map.Keys.{IsStrictlyIncreasing-from_sorted}
use Rattle.std.proofs.lemmas.Map.Views.{btree_set_contains_iff}
use Rattle.slot_program.proofs.KeySteps.{equal_numbers}
use Rattle.slot_program.proofs.automorphisms.autos_of.Goals as goal

pub returns-clause-ascending : goal.returns-clause-ascending
returns-clause-ascending c =
    subst IsStrictlyIncreasing (sym c.in_ok-list.ensures.value) (IsStrictlyIncreasing-from_sorted c.in_ok-keys.keys.keys c.in_ok-list.ensures.ordered)

pub returns-clause-each : goal.returns-clause-each
returns-clause-each c = λ k.
    let P : List ℕ → Type 0 = λ list. Contains list k in
    let iff = btree_set_contains_iff nat_cmp_total equal_numbers c.in_ok-keys.keys k in (
      λ has. sym (c.in_ok-keys.ensures k) ∙ iff.1 (subst P c.in_ok-list.ensures.value has),
      λ is. subst P (sym c.in_ok-list.ensures.value) (iff.0 (c.in_ok-keys.ensures k ∙ is)),
    )
