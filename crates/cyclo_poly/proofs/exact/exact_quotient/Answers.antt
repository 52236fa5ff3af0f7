use Rattle.std.proofs.Common.{ℕ, ◌≡◌, ◌^◌, ◌-◌, ◌<◌, ◌≤◌, ◌++◌, ◌∙◌, List, length, map, take, drop, pos, ap, ap₂, sym, subst, arith}
use Rattle.std.specs.List.{All}
use Rattle.std.proofs.lemmas.List.{length-map}
use Rattle.algebra.specs.Whole.{residue, balanced}
use Rattle.cyclotomic.specs.Cyclotomic.{phi, degree}
use Rattle.cyclotomic.specs.Norm.{one_norm}
use Rattle.mod_ring.specs.Zq.{modulus_of}
use Rattle.cyclo_poly.specs.Strides.{IsLess}
use Rattle.cyclo_poly.specs.Tall.{AllSmall}
use Rattle.cyclo_poly.proofs.ExactSteps.{found_is, some_equal}
use Rattle.cyclo_poly.proofs.PowerSteps.{whole_slice}
use Rattle.cyclo_poly.proofs.MemberSteps.{phi_filled, member_length}
use Rattle.cyclo_poly.proofs.exact.exact_quotient.Goals as goal

pub overflow_sub-degree : goal.overflow_sub-degree
overflow_sub-degree c = subst (λ z. 0 < length z) (sym c.requires.member) (phi_filled c.args.d c.requires.low)

pub one_norm-requires-clause-short : goal.one_norm-requires-clause-short
one_norm-requires-clause-short c = omega (arith, member_length c.args.d c.args.member.now c.requires.low c.requires.member, c.requires.high)

pub returns-clause-found : goal.returns-clause-found
returns-clause-found c =
    let q = modulus_of c.large_ring-zq.result in
    let a = c.args.a.now in
    let d = c.args.d in
    let g = c.args.member.now in
    let n = length g - 1 in
    let row = c.in_ok-row.row.items in
    let new = c.pass.new.row in
    let above = c.in_ok-strides.strides.above.items in
    let below = c.in_ok-strides.strides.below.items in
    let deg : n ≡ degree d = ap (λ z. length z - 1) c.requires.member in
    let rest : length new ≡ length row = c.pass.auto.row ∙ ap length c.deref_mut.ensures.value in
    let long : length new ≡ length a = rest ∙ ap length c.in_ok-row.ensures.value ∙ length-map a (residue q) in
    let slice : take c.in_ok-row.row.len (new ++ drop (length new) row) ≡ new = whole_slice new row c.in_ok-row.row.len rest (omega (arith, c.in_ok-row.row.ok)) in
    let passed : (mid : List ℕ) × (IsLess q below row mid) × (IsLess q above new mid) = subst (λ z. (mid : List ℕ) × (IsLess q below z mid) × (IsLess q above new mid)) c.deref_mut.ensures.value c.pass.ensures.passed in
    let norm : one_norm (phi d) < 2 ^ 28 = subst (λ z. one_norm z < 2 ^ 28) c.requires.member (omega (arith, c.if-one_norm.false, c.one_norm.ensures)) in
    let last = c.deref.result.now in
    let is : last ≡ new = c.deref.ensures.value ∙ slice in
    let M = map (λ x. balanced q (pos x)) (drop n last) in
    let same : M ≡ map (λ x. balanced q (pos x)) (drop (degree d) new) = ap₂ (λ y z. map (λ x. balanced q (pos x)) (drop y z)) deg is in
    some_equal (λ c. c.items) M _ (n ≤ length last) (All (λ x. x ≡ 0) (take n last)) c.in_ok-quotient.quotient c.in_ok-quotient.ensures.value c.in_ok-quotient.ensures.small c.in_ok-quotient.ensures.room c.in_ok-quotient.ensures.zeros (λ room zeros small. same ∙ found_is q d above below a row new c.large_ring-zq.ensures c.requires.low c.in_ok-strides.ensures c.in_ok-row.ensures.value c.in_ok-row.ensures.below passed long (omega (arith, deg, room, ap length is)) (subst (λ z. All (λ x. x ≡ 0) (take z new)) deg (subst (λ z. All (λ x. x ≡ 0) (take n z)) is zeros)) norm c.requires.a_small (subst AllSmall same small))
