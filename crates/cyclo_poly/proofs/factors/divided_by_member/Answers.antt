use Rattle.std.proofs.Common.{◌≡◌, ◌∙◌, ap, sym, subst, arith}
use Rattle.std.specs.Option.{IfSome}
use Rattle.cyclotomic.specs.Cyclotomic.{phi}
use Rattle.cyclo_poly.specs.Tall.{AllSmall, is_large}
use Rattle.cyclo_poly.proofs.LargeSteps.{small_not_large}
use Rattle.cyclo_poly.proofs.MemberSteps.{member_monic, member_length, some_any}
use Rattle.cyclo_poly.proofs.factors.divided_by_member.Goals as goal

pub small_quotient-requires-clause-monic : goal.small_quotient-requires-clause-monic
small_quotient-requires-clause-monic c =
    let e : c.in-Some.member.items ≡ phi c.args.d = subst (λ o. IfSome o (λ f. f.items ≡ phi c.args.d)) c.in-Some.is c.in_ok-member.ensures.found in
    member_monic c.args.d c.deref-2.result.now c.requires.low (c.deref-2.ensures.value ∙ e)

pub small_quotient-requires-clause-short : goal.small_quotient-requires-clause-short
small_quotient-requires-clause-short c =
    let e : c.in-Some.member.items ≡ phi c.args.d = subst (λ o. IfSome o (λ f. f.items ≡ phi c.args.d)) c.in-Some.is c.in_ok-member.ensures.found in
    omega (arith, member_length c.args.d c.deref-2.result.now c.requires.low (c.deref-2.ensures.value ∙ e), c.requires.high)

pub returns-clause-member_small : goal.returns-clause-member_small
returns-clause-member_small c =
    let e : c.in-Some.member.items ≡ phi c.args.d = subst (λ o. IfSome o (λ f. f.items ≡ phi c.args.d)) c.in-Some.is c.in_ok-member.ensures.found in
    let small : AllSmall c.in-Some.member.items = subst (λ o. IfSome o (λ f. AllSmall f.items)) c.in-Some.is c.in_ok-member.ensures.small in
    some_any _ c.in_ok-quotient.quotient (ap is_large (sym e) ∙ small_not_large c.in-Some.member.items small)

pub returns-in-Some-2-clause-member_small : goal.returns-in-Some-2-clause-member_small
returns-in-Some-2-clause-member_small c =
    let e : c.in-Some.member.items ≡ phi c.args.d = subst (λ o. IfSome o (λ f. f.items ≡ phi c.args.d)) c.in-Some.is c.in_ok-member.ensures.found in
    let small : AllSmall c.in-Some.member.items = subst (λ o. IfSome o (λ f. AllSmall f.items)) c.in-Some.is c.in_ok-member.ensures.small in
    ap is_large (sym e) ∙ small_not_large c.in-Some.member.items small
