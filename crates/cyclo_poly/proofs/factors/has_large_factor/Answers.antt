use Rattle.std.proofs.Common.{ℕ, ◌≡◌, ◌+◌, ◌%◌, ◌<◌, ◌⊎◌, ◌∙◌, true, false, ap, sym, subst, arith, refl, eqb, eq-eqb, eqb-true}
use Rattle.std.specs.Option.{IfSome, IfNone}
use Rattle.std.proofs.lemmas.Bool.{false_from_ne_true}
use Rattle.algebra.specs.Ring.{whole_numbers}
use Rattle.algebra.specs.Divisor.{Dvd, is_divisor}
use Rattle.algebra.specs.Poly.{quotient_by}
use Rattle.algebra.proofs.Divisors.{divisor_of_test}
use Rattle.cyclotomic.specs.Cyclotomic.{phi}
use Rattle.cyclo_poly.specs.Tall.{AllSmall, is_large, cofactor}
use Rattle.cyclo_poly.proofs.LargeSteps.{small_not_large}
use Rattle.cyclo_poly.proofs.FactorSteps.{cofactor_first, cofactor_yes, cofactor_no, not_large_yes, not_large_no, factors_more, factor_large}
use Rattle.cyclo_poly.proofs.factors.has_large_factor.Goals as goal
use Rattle.cyclo_poly.proofs.factors.has_large_factor.Goals.{then-m-i-eq0+in_ok-quotient+in-Some, else-m-i-eq0}

pub loop-i-init : goal.loop-i-init
loop-i-init c = (cofactor_first c.args.m c.in_ok-left.left.items c.in_ok-left.ensures.value, c.in_ok-left.ensures.small, refl)

pub returns-in_default : goal.returns-in_default
returns-in_default c =
    let m = c.args.m in
    let d = c.loop-i.i + 1 in
    let left = c.deref.result.now in
    let large : ((e : ℕ) × (0 < e) × Dvd e d × (is_large (phi e) ≡ true)) ⊎ (is_large (quotient_by whole_numbers (phi d) left) ≡ true) = subst (λ o. IfNone o (((e : ℕ) × (0 < e) × Dvd e d × (is_large (phi e) ≡ true)) ⊎ (is_large (quotient_by whole_numbers (phi d) left) ≡ true))) c.in_default.is c.in_ok-quotient.ensures.large in
    sym (factor_large m c.loop-i.i d left c.requires.low (omega arith) (divisor_of_test d m (eq-eqb (m % d) 0 c.if-m-i-eq0.true)) (c.deref.ensures.value ∙ c.loop-i.invariant.0) large)

pub loop-i-preserved : goal.loop-i-preserved
loop-i-preserved c =
    let m = c.args.m in
    let i = c.loop-i.i in
    let d = i + 1 in
    elim c.if-m-i-eq0.branch [
      | then-m-i-eq0+in_ok-quotient+in-Some w ↦
          let q = w.in-Some.quotient.items in
          let same : c.if-m-i-eq0.left.items ≡ q = cc in
          let test : is_divisor d m ≡ true = eq-eqb (m % d) 0 w.if-m-i-eq0.true in
          let found : q ≡ quotient_by whole_numbers (phi d) w.deref.result.now = subst (λ o. IfSome o (λ f. f.items ≡ quotient_by whole_numbers (phi d) w.deref.result.now)) w.in-Some.is w.in_ok-quotient.ensures.found in
          let small : AllSmall q = subst (λ o. IfSome o (λ f. AllSmall f.items)) w.in-Some.is w.in_ok-quotient.ensures.small in
          let member : is_large (phi d) ≡ false = subst (λ o. IfSome o (λ _. is_large (phi d) ≡ false)) w.in-Some.is w.in_ok-quotient.ensures.member_small in
          let is : q ≡ cofactor m d = cofactor_yes m i d w.deref.result.now q (omega arith) test (w.deref.ensures.value ∙ c.loop-i.invariant.0) found in
          (same ∙ is, subst AllSmall (sym same) small, factors_more m i d (omega arith) c.loop-i.invariant.2 (not_large_yes m d member (ap is_large (sym is) ∙ small_not_large q small)))
      | else-m-i-eq0 w ↦
          let same : c.if-m-i-eq0.left.items ≡ c.loop-i.left.items = cc in
          let test : is_divisor d m ≡ false = false_from_ne_true (eqb (m % d) 0) (λ e. w.if-m-i-eq0.false (eqb-true (m % d) 0 e)) in
          (same ∙ cofactor_no m i d c.loop-i.left.items (omega arith) test c.loop-i.invariant.0, subst AllSmall (sym same) c.loop-i.invariant.1, factors_more m i d (omega arith) c.loop-i.invariant.2 (not_large_no m d test))
    ]
