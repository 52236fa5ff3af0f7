-- The coefficients of a linear map among held elements, from the law over the ring of held elements.
use Rattle.std.specs.Prelude.{◌≡◌, ℕ, zero, suc, Bool, refl}
use Rattle.std.proofs.Common.{sym, ◌∙◌, ap, ap₂}
use mathlib.Core.Path.{fun_ext}
use Rattle.algebra.specs.Ring.{Ops, CommRing, HeldLaws}
use Rattle.algebra.specs.Hom.{Hom}
use Rattle.algebra.specs.Range.{total, adds}
use Rattle.algebra.specs.HeldRing.{Held}
use Rattle.algebra.proofs.Held.{same_held, held_ring}
use Rattle.algebra.proofs.Homs.{keeps_adds}
use Rattle.algebra.proofs.HeldLists.{held_preserves}
use Rattle.cyclotomic.specs.Trace.{repeated, trace}
use Rattle.cyclotomic.specs.LinearLaws.{IsHeldMap, IsDualBasis, combination, linear_coefficient, LinearMapLaw}
use Rattle.cyclotomic.proofs.DualBasis.{linear_is}

module _ {C : Type 0} {held : C → Bool} {o : Ops C} (L : HeldLaws held o) where
  abbrev H : CommRing
  H = held_ring L

  module _ (F : C → C) (M : IsHeldMap held o F) where
    abbrev G : Hom H H
    G = record { map = λ a. (F a.0, M.stays a.0 a.1); is = record { map_add = λ a b. same_held held (M.keeps_sum a.0 b.0 a.1 b.1); map_mul = λ a b. same_held held (M.keeps_product a.0 b.0 a.1 b.1); map_one = same_held held M.keeps_one } }

    repeated_is : (j : ℕ) (x : Held held) → (repeated G.map j x).0 ≡ repeated F j x.0
    repeated_is zero x = refl
    repeated_is (suc j) x = ap F (repeated_is j x)

    trace_is : (d : ℕ) (x : Held held) → (trace H.ops G.map d x).0 ≡ trace o F d x.0
    trace_is d x = keeps_adds (held_preserves L) d (λ j. repeated G.map j x) ∙ ap (total (adds o) d) (fun_ext (λ j. repeated_is j x))

    combination_is : (d : ℕ) (b c : ℕ → Held held) → (total (adds H.ops) d (λ k. H.mul (c k) (b k))).0 ≡ combination held o d (λ k. (b k).0) (λ k. (c k).0)
    combination_is d b c = keeps_adds (held_preserves L) d (λ k. H.mul (c k) (b k))

    coefficient_is : (d : ℕ) (t m : ℕ → Held held) (j : ℕ) → (total (adds H.ops) d (λ i. H.mul (m i) (repeated G.map j (t i)))).0 ≡ linear_coefficient held o F d (λ i. (t i).0) (λ i. (m i).0) j
    coefficient_is d t m j = keeps_adds (held_preserves L) d (λ i. H.mul (m i) (repeated G.map j (t i))) ∙ ap (total (adds o) d) (fun_ext (λ i. ap (o.mul (m i).0) (repeated_is j (t i))))

    linear : (d : ℕ) (base dual image c : ℕ → Held held) → IsDualBasis held o F d (λ i. (base i).0) (λ i. (dual i).0) → ((k : ℕ) → F (c k).0 ≡ (c k).0) → total (adds o) d (λ j. o.mul (linear_coefficient held o F d (λ i. (dual i).0) (λ i. (image i).0) j) (repeated F j (combination held o d (λ i. (base i).0) (λ i. (c i).0)))) ≡ combination held o d (λ i. (image i).0) (λ i. (c i).0)
    linear d base dual image c B fixed =
        sym (keeps_adds (held_preserves L) d (λ j. H.mul (coefficient j) (repeated G.map j x)) ∙ ap (total (adds o) d) (fun_ext (λ j. ap₂ o.mul (coefficient_is d dual image j) (repeated_is j x ∙ ap (repeated F j) (combination_is d base c)))))
        ∙ ap (λ z. z.0) (linear_is H G d base dual (λ i l. same_held held (trace_is d (H.mul (dual i) (base i)) ∙ B.own i l)) (λ i k l q n. same_held held (trace_is d (H.mul (dual i) (base k)) ∙ B.other i k l q n)) image c (λ k. same_held held (fixed k)))
        ∙ combination_is d image c
      where
        x : Held held
        x = total (adds H.ops) d (λ k. H.mul (c k) (base k))

        coefficient : ℕ → Held held
        coefficient j = total (adds H.ops) d (λ i. H.mul (image i) (repeated G.map j (dual i)))

  pub linear_map_law : LinearMapLaw held o
  linear_map_law F d base dual image c M B hi hc fixed = linear F M d (λ i. (base i, B.base_held i)) (λ i. (dual i, B.dual_held i)) (λ i. (image i, hi i)) (λ i. (c i, hc i)) B fixed
