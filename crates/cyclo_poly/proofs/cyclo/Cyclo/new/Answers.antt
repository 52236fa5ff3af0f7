use Rattle.std.proofs.Common.{ℕ, ◌≡◌, ◌<◌, ◌≤◌, ◌^◌, ◌∙◌, true, false, sym, subst, arith}
use Rattle.std.specs.Option.{IfSome, IfNone}
use Rattle.algebra.specs.Divisor.{Dvd}
use Rattle.cyclotomic.specs.Cyclotomic.{phi}
use Rattle.cyclotomic.specs.Norm.{height}
use Rattle.cyclo_poly.specs.Tall.{is_large, has_large_factor, has_large_power}
use Rattle.cyclo_poly.proofs.CycloSteps.{tall_by_factor, tall_by_power, not_tall}
use Rattle.cyclo_poly.proofs.FactorSteps.{member_large}
use Rattle.cyclo_poly.proofs.cyclo.Cyclo.new.Goals as goal

pub returns-then-branch-clause-refused : goal.returns-then-branch-clause-refused
returns-then-branch-clause-refused c = λ _. tall_by_factor c.args.m (sym c.in_ok-has_large_factor.ensures ∙ c.if-branch.true)

pub returns-in_default-clause-refused : goal.returns-in_default-clause-refused
returns-in_default-clause-refused c =
    let m = c.args.m in
    let large : (e : ℕ) × (0 < e) × Dvd e m × (is_large (phi e) ≡ true) = subst (λ o. IfNone o ((e : ℕ) × (0 < e) × Dvd e m × (is_large (phi e) ≡ true))) c.in_default.is c.in_ok-member.ensures.large in
    λ _. tall_by_factor m (member_large m (omega (arith, c.requires.low)) large)

pub returns-in_default-2-clause-refused : goal.returns-in_default-2-clause-refused
returns-in_default-2-clause-refused c =
    let m = c.args.m in
    let large : has_large_power m ≡ true = subst (λ o. IfNone o (has_large_power m ≡ true)) c.in_default-2.is c.in_ok-high.ensures.large in
    λ _. tall_by_power m large

pub invariant_of-result : goal.invariant_of-result
invariant_of-result c =
    let m = c.args.m in
    let factors : has_large_factor m ≡ false = sym c.in_ok-has_large_factor.ensures ∙ c.if-branch.false in
    let powers : has_large_power m ≡ false = subst (λ o. IfSome o (λ _. has_large_power m ≡ false)) c.in-Some-2.is c.in_ok-high.ensures.small in
    let member : c.in-Some.member.items ≡ phi m = subst (λ o. IfSome o (λ f. f.items ≡ phi m)) c.in-Some.is c.in_ok-member.ensures.found in
    let high : c.in-Some-2.high ≡ height m = subst (λ o. IfSome o (λ h. h ≡ height m)) c.in-Some-2.is c.in_ok-high.ensures.found in
    let range : (1 ≤ c.in-Some-2.high) × (c.in-Some-2.high < 2 ^ 31) = subst (λ o. IfSome o (λ h. (1 ≤ h) × (h < 2 ^ 31))) c.in-Some-2.is c.in_ok-high.ensures.range in
    record { m_low = c.requires.low; m_high = c.requires.high; fits = not_tall m factors powers; member_is = member; height_is = high; high_low = range.0; high_high = range.1; strides = c.in_ok-strides.ensures }

pub returns-clause-fits : goal.returns-clause-fits
returns-clause-fits c =
    let m = c.args.m in
    let factors : has_large_factor m ≡ false = sym c.in_ok-has_large_factor.ensures ∙ c.if-branch.false in
    let powers : has_large_power m ≡ false = subst (λ o. IfSome o (λ _. has_large_power m ≡ false)) c.in-Some-2.is c.in_ok-high.ensures.small in
    not_tall m factors powers
