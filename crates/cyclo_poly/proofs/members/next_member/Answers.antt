use Rattle.std.proofs.Common.{◌≡◌, ◌*◌, ◌<◌, ◌∙◌, true, length, ap, sym, subst, arith}
use Rattle.std.specs.Option.{IfSome, IfNone}
use Rattle.algebra.specs.Ring.{whole_numbers}
use Rattle.algebra.specs.Poly.{quotient_by}
use Rattle.cyclotomic.specs.Cyclotomic.{phi}
use Rattle.cyclo_poly.specs.Tall.{AllSmall, is_large}
use Rattle.cyclo_poly.proofs.MemberSteps.{phi_filled, member_yes, member_no, member_monic, member_length, member_fits, factor_le, spread_small}
use Rattle.cyclo_poly.proofs.members.next_member.Goals as goal

pub spread_out-requires-clause-filled : goal.spread_out-requires-clause-filled
spread_out-requires-clause-filled c = subst (λ z. 0 < length z) (sym c.requires.member) (phi_filled c.args.k c.requires.positive)

pub spread_out-requires-clause-fits : goal.spread_out-requires-clause-fits
spread_out-requires-clause-fits c = member_fits c.args.k c.args.p c.args.member.now c.requires.positive c.requires.member c.requires.short

pub returns-then-k-p-eq0-clause-found : goal.returns-then-k-p-eq0-clause-found
returns-then-k-p-eq0-clause-found c = member_yes c.args.k c.args.p c.args.member.now c.in_ok-image.image.items c.requires.positive c.requires.prime c.if-k-p-eq0.true c.requires.member (omega (arith, c.in_ok-image.ensures.long, c.in_ok-image.image.ok)) c.in_ok-image.ensures.equal

pub returns-then-k-p-eq0-clause-small : goal.returns-then-k-p-eq0-clause-small
returns-then-k-p-eq0-clause-small c = spread_small c.args.p (omega (arith, c.requires.prime.above)) c.args.member.now c.in_ok-image.image.items c.in_ok-image.ensures.equal c.requires.member_small

pub small_quotient-requires-clause-monic : goal.small_quotient-requires-clause-monic
small_quotient-requires-clause-monic c = member_monic c.args.k c.args.member.now c.requires.positive c.requires.member

pub small_quotient-requires-clause-short : goal.small_quotient-requires-clause-short
small_quotient-requires-clause-short c = omega (arith, member_length c.args.k c.args.member.now c.requires.positive c.requires.member, factor_le c.args.k c.args.p 65536 c.requires.prime.above c.requires.short)

pub small_quotient-requires-clause-a_small : goal.small_quotient-requires-clause-a_small
small_quotient-requires-clause-a_small c = subst AllSmall (sym c.deref.ensures.value) (spread_small c.args.p (omega (arith, c.requires.prime.above)) c.args.member.now c.in_ok-image.image.items c.in_ok-image.ensures.equal c.requires.member_small)

pub returns-clause-found : goal.returns-clause-found
returns-clause-found c =
    let e : quotient_by whole_numbers c.args.member.now c.deref.result.now ≡ phi (c.args.k * c.args.p) = ap (quotient_by whole_numbers c.args.member.now) c.deref.ensures.value ∙ member_no c.args.k c.args.p c.args.member.now c.in_ok-image.image.items c.requires.positive c.requires.prime c.if-k-p-eq0.false c.requires.member (omega (arith, c.in_ok-image.ensures.long, c.in_ok-image.image.ok)) c.in_ok-image.ensures.equal in
    subst (λ z. IfSome c.in_ok-quotient.quotient (λ f. f.items ≡ z)) e c.in_ok-quotient.ensures.found

pub returns-clause-large : goal.returns-clause-large
returns-clause-large c =
    let e : quotient_by whole_numbers c.args.member.now c.deref.result.now ≡ phi (c.args.k * c.args.p) = ap (quotient_by whole_numbers c.args.member.now) c.deref.ensures.value ∙ member_no c.args.k c.args.p c.args.member.now c.in_ok-image.image.items c.requires.positive c.requires.prime c.if-k-p-eq0.false c.requires.member (omega (arith, c.in_ok-image.ensures.long, c.in_ok-image.image.ok)) c.in_ok-image.ensures.equal in
    subst (λ z. IfNone c.in_ok-quotient.quotient (is_large z ≡ true)) e c.in_ok-quotient.ensures.large
