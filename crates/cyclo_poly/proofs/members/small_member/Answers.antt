use Rattle.std.proofs.Common.{◌≡◌, ◌*◌, ◌∙◌, true, sym, subst, arith}
use Rattle.std.specs.Option.{IfSome, IfNone}
use Rattle.cyclotomic.specs.Cyclotomic.{phi}
use Rattle.cyclo_poly.specs.Tall.{AllSmall, is_large}
use Rattle.cyclo_poly.proofs.MemberSteps.{phi_one, small_one, split_rest, next_product, next_positive, product_positive}
use Rattle.cyclo_poly.proofs.members.small_member.Goals as goal

pub loop-rest-init : goal.loop-rest-init
loop-rest-init c = (omega arith, c.requires.low, c.in_ok-member.ensures.items ∙ sym phi_one, small_one c.in_ok-member.member.items c.in_ok-member.ensures.items)

pub returns-in_default-clause-large : goal.returns-in_default-clause-large
returns-in_default-clause-large c =
    let k = c.loop-rest.k in
    let p = c.least_prime-p.result in
    let u = c.least_prime-p.ensures.divides in
    let large : is_large (phi (k * p)) ≡ true = subst (λ o. IfNone o (is_large (phi (k * p)) ≡ true)) c.in_default.is c.in_ok-next.ensures.large in
    (k * p, product_positive k p c.loop-rest.rest c.args.d c.requires.low c.least_prime-p.ensures.prime.above c.loop-rest.invariant.0, (u.0, split_rest k c.loop-rest.rest c.args.d p u.0 c.loop-rest.invariant.0 u.1), large)

pub loop-rest-preserved : goal.loop-rest-preserved
loop-rest-preserved c =
    let k = c.loop-rest.k in
    let p = c.least_prime-p.result in
    let u = c.least_prime-p.ensures.divides in
    let above = c.least_prime-p.ensures.prime.above in
    let found : c.in-Some.next.items ≡ phi (k * p) = subst (λ o. IfSome o (λ f. f.items ≡ phi (k * p))) c.in-Some.is c.in_ok-next.ensures.found in
    let small : AllSmall c.in-Some.next.items = subst (λ o. IfSome o (λ f. AllSmall f.items)) c.in-Some.is c.in_ok-next.ensures.small in
    (next_product k c.loop-rest.rest c.args.d p u.0 above c.loop-rest.invariant.0 u.1, next_positive c.loop-rest.rest p u.0 above c.loop-rest.invariant.1 u.1, found, small)
