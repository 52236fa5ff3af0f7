use Rattle.std.proofs.Common.{ℕ, ◌≡◌, ◌+◌, ◌-◌, ◌<◌, ◌≤◌, ◌+ℤ◌, neg_ℤ, ◌∙◌, length, get_or, pos, nat_abs, ap, sym, subst, arith, refl}
use Rattle.std.proofs.lemmas.Int.{to_z-of_z}
use Rattle.std.proofs.lemmas.List.{length-replicate}
use mir.Syntax.{w64, w128}
use mir.Val.{to_z, of_z}
use Rattle.algebra.specs.Ring.{whole_numbers}
use Rattle.algebra.specs.Poly.{coeff, quotient_by}
use Rattle.cyclo_poly.specs.Tall.{AllSmall}
use Rattle.cyclo_poly.proofs.LargeSteps.{large_at, small_zeros, small_set}
use Rattle.cyclo_poly.proofs.MemberSteps.{digit_is, digit_more, digits_none, digits_all}
use Rattle.cyclo_poly.proofs.WordSteps.{fits_of, fits_small}
use Rattle.cyclo_poly.proofs.members.small_quotient.Goals as goal

pub loop-t-init : goal.loop-t-init
loop-t-init c =
    let n = c.saturating_sub-count.result in
    let e = c.in_ok-c.ensures in
    let count : n ≡ length c.args.a.now - (length c.args.g.now - 1) = omega (arith, c.saturating_sub-count.ensures) in
    (omega (arith, ap length e, length-replicate n (pos 0), c.in_ok-c.c.ok), subst AllSmall (sym e) (small_zeros n), λ s m. ap (λ z. coeff whole_numbers z s) e ∙ digits_none c.args.g.now c.args.a.now c.requires.monic n count s m)

pub returns-in_default-clause-large : goal.returns-in_default-clause-large
returns-in_default-clause-large c =
    let g = c.args.g.now in
    let a = c.args.a.now in
    let t = c.loop-t.t in
    let i = t - 1 in
    let n = c.saturating_sub-count.result in
    let known = c.correlated-known.result in
    let count : n ≡ length a - (length g - 1) = omega (arith, c.saturating_sub-count.ensures) in
    let long : length c.deref.result.now ≡ n = ap length c.deref.ensures.value ∙ omega (arith, c.loop-t.invariant.0, c.loop-t.c.ok) in
    let under : i < n = omega (arith, c.loop-t.auto.t, c.loop-t-test.true) in
    let same : (s : ℕ) → i + 1 ≤ s → coeff whole_numbers c.deref.result.now s ≡ coeff whole_numbers (quotient_by whole_numbers g a) s = λ s m. ap (λ z. coeff whole_numbers z s) c.deref.ensures.value ∙ c.loop-t.invariant.2 s (omega arith) in
    let digit : coeff whole_numbers (quotient_by whole_numbers g a) i ≡ coeff whole_numbers a (i + (length g - 1)) +ℤ neg_ℤ known = digit_is g a c.requires.monic c.deref.result.now n i (i + 1) known count long under refl same c.correlated-known.ensures.value in
    let top = get_or a (i + (length g - 1)) (pos 0) in
    let ea : to_z w64 (of_z w64 top) ≡ top = to_z-of_z w64 top (fits_small top (c.requires.a_small (i + (length g - 1)))) in
    let ek : to_z w128 (of_z w128 known) ≡ known = to_z-of_z w128 known (fits_of w128 known (omega (arith, c.correlated-known.ensures.size))) in
    large_at (quotient_by whole_numbers g a) i (subst (λ z. 2147483648 ≤ nat_abs z) (sym digit) (simp (ea, ek) at c.in_default.ensures.large))

pub loop-t-preserved : goal.loop-t-preserved
loop-t-preserved c =
    let g = c.args.g.now in
    let a = c.args.a.now in
    let t = c.loop-t.t in
    let i = t - 1 in
    let n = c.saturating_sub-count.result in
    let known = c.correlated-known.result in
    let count : n ≡ length a - (length g - 1) = omega (arith, c.saturating_sub-count.ensures) in
    let long : length c.deref.result.now ≡ n = ap length c.deref.ensures.value ∙ omega (arith, c.loop-t.invariant.0, c.loop-t.c.ok) in
    let under : i < n = omega (arith, c.loop-t.auto.t, c.loop-t-test.true) in
    let same : (s : ℕ) → i + 1 ≤ s → coeff whole_numbers c.deref.result.now s ≡ coeff whole_numbers (quotient_by whole_numbers g a) s = λ s m. ap (λ z. coeff whole_numbers z s) c.deref.ensures.value ∙ c.loop-t.invariant.2 s (omega arith) in
    let digit : coeff whole_numbers (quotient_by whole_numbers g a) i ≡ coeff whole_numbers a (i + (length g - 1)) +ℤ neg_ℤ known = digit_is g a c.requires.monic c.deref.result.now n i (i + 1) known count long under refl same c.correlated-known.ensures.value in
    let top = get_or a (i + (length g - 1)) (pos 0) in
    let ea : to_z w64 (of_z w64 top) ≡ top = to_z-of_z w64 top (fits_small top (c.requires.a_small (i + (length g - 1)))) in
    let ek : to_z w128 (of_z w128 known) ≡ known = to_z-of_z w128 known (fits_of w128 known (omega (arith, c.correlated-known.ensures.size))) in
    let x = c.in-Some.digit in
    let ex : to_z w64 (of_z w64 x) ≡ x = to_z-of_z w64 x (fits_small x c.in-Some.ensures.small) in
    let found : x ≡ top +ℤ neg_ℤ known = simp (ea, ek) at c.in-Some.ensures.found in
    let inside : i < length c.loop-t.c.items = omega (arith, under, c.loop-t.invariant.0, c.loop-t.c.ok) in (
      c.loop-t.invariant.0,
      small_set i (to_z w64 (of_z w64 x)) c.loop-t.c.items _ refl inside (subst (λ z. nat_abs z < 2147483648) (sym ex) c.in-Some.ensures.small) c.loop-t.invariant.1,
      digit_more g a c.requires.monic c.loop-t.c.items _ i t (to_z w64 (of_z w64 x)) (omega arith) inside refl (ex ∙ found ∙ sym digit) c.loop-t.invariant.2,
    )

pub returns-clause-found : goal.returns-clause-found
returns-clause-found c =
    let count : c.saturating_sub-count.result ≡ length c.args.a.now - (length c.args.g.now - 1) = omega (arith, c.saturating_sub-count.ensures) in
    digits_all c.args.g.now c.args.a.now c.requires.monic c.loop-t.c.items c.saturating_sub-count.result c.loop-t.t (omega (arith, c.loop-t-test.false)) count (omega (arith, c.loop-t.invariant.0, c.loop-t.c.ok)) c.loop-t.invariant.2
