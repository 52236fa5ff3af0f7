use Rattle.std.proofs.Common.{◌≡◌, ◌<◌, ◌==◌, ℕ, zero, suc, Bool, false, arith, ap, sym, length, take, drop, fold, map, ◌∙◌}
use Rattle.std.proofs.lemmas.Bool.{eqb-true}
use Rattle.std.proofs.lemmas.List.{drop_all}
use Rattle.noise_bound.specs.Groups.{groups}
use Rattle.noise_bound.specs.Machine.{product_up, group_added, groups_added}
use Rattle.noise_bound.specs.Rounding.{plus, times, ratio}
use Rattle.noise_bound.specs.Value.{value}
use Rattle.noise_bound.proofs.GroupLaws.{groups-none, groups-no_sizes}
use Rattle.noise_bound.proofs.TableLaws.{groups_added-more, groups_added-end}
use Rattle.noise_bound.proofs.table.switched.Goals as goal

left_from_test : (n : ℕ) (b : Bool) → b ≡ (n == 0) → b ≡ false → 0 < n
left_from_test zero b is off = cc
left_from_test (suc n) b is off = omega arith

pub loop-size-init : goal.loop-size-init
unfolding groups_added
loop-size-init c = (
  ap (λ z. fold plus z (map (group_added (value c.args.factor) (value c.args.special)) (groups c.args.digits.now c.args.moduli.now))) c.of_word-sum.ensures.number,
  omega arith,
  omega arith,
)

pub returns-then-is_empty : goal.returns-then-is_empty
returns-then-is_empty c =
    let none : length c.loop-size.rest.now ≡ 0 = eqb-true (length c.loop-size.rest.now) 0 (sym c.is_empty.ensures ∙ c.if-is_empty.true) in
    record {
      number = groups_added-end _ _ _ _ (drop c.loop-size.size-index c.args.digits.now) c.loop-size.rest.now (groups-none _ _ none) c.loop-size.invariant.0;
      small = omega arith;
    }

pub loop-size-preserved : goal.loop-size-preserved
loop-size-preserved c =
    let i = c.loop-size.size-index in
    let qs = c.loop-size.rest.now in
    let k = value c.args.factor in
    let s = value c.args.special in
    let digit = c.requires.digits i 0 c.loop-size-test.true in
    let some : 0 < length qs = left_from_test (length qs) c.is_empty.result c.is_empty.ensures c.if-is_empty.false in
    let front = c.split_at.ensures.front ∙ ap (λ m. take m qs) c.min.ensures in
    let back = c.split_at.ensures.back ∙ ap (λ m. drop m qs) c.min.ensures in
    let next : value c.plus-sum.result ≡ plus (value c.loop-size.sum) (ratio (times k (product_up c.split_at.result.0.now)) s) =
    c.plus-sum.ensures.number
    ∙ ap (λ z. plus (value c.loop-size.sum) z) (c.ratio.ensures.number ∙ ap (λ z. ratio z s) (c.times.ensures.number ∙ ap (λ z. times k z) c.product_up.ensures.number)) in (
      groups_added-more k s (value c.loop-size.sum) _ i c.args.digits.now qs _ _ c.loop-size-test.true some front back next ∙ c.loop-size.invariant.0,
      omega (arith, digit, some),
      omega arith,
    )

pub returns : goal.returns
returns c =
    let done = drop_all c.loop-size.size-index c.args.digits.now c.loop-size-test.false in
    record {
      number = groups_added-end _ _ _ _ (drop c.loop-size.size-index c.args.digits.now) c.loop-size.rest.now
          (ap (λ sizes. groups sizes c.loop-size.rest.now) done ∙ groups-no_sizes c.loop-size.rest.now) c.loop-size.invariant.0;
      small = omega arith;
    }
