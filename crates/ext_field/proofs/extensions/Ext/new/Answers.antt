use Rattle.std.proofs.Common.{arith, map, ap, sym, ◌∙◌, subst}
use Rattle.algebra.specs.Power.{power}
use Rattle.algebra.specs.Whole.{below}
use Rattle.ext_field.specs.Element.{Extension, IsMonicFactor, degree, elements}
use Rattle.ext_field.proofs.Making.{never, image_is, frobenius, zero_value}
use Rattle.ext_field.proofs.extensions.Ext.new.Goals as goal

pub returns-then-not-equal-clause-refused : goal.returns-then-not-equal-clause-refused
returns-then-not-equal-clause-refused c =
    let f : Extension = record { p = c.args.p; factor = c.args.factor.now } in
    λ _ h. never c.equal.result c.if-not-equal.true (c.equal.ensures.1 (zero_value c.in_ok-base.base f c.in_ok-base.ensures c.in_ok-eta.eta c.in_ok-image.image c.in_ok-value.value c.in_ok-zero.zero c.in_ok-numbers.numbers.items c.deref.result.now c.in_ok-eta.ensures.value c.in_ok-image.ensures.value c.in_ok-numbers.ensures.value c.deref.ensures.value c.in_ok-value.ensures.value c.in_ok-zero.ensures.value h))

pub returns-clause-valid : goal.returns-clause-valid
returns-clause-valid c =
    let f : Extension = record { p = c.args.p; factor = c.args.factor.now } in
    let F : IsMonicFactor f = record { p_low = c.requires.p_low; p_high = c.requires.p_high; degree_low = omega (arith, c.requires.degree_low); degree_high = omega (arith, c.requires.degree_high); below = c.requires.below; monic = c.requires.monic } in
    record {
      factor = subst IsMonicFactor (sym c.in_ok-base.ensures) F;
      frobenius = frobenius c.in_ok-base.base f c.in_ok-base.ensures c.in_ok-eta.eta c.in_ok-image.image c.in_ok-value.value c.in_ok-zero.zero c.in_ok-numbers.numbers.items c.deref.result.now c.in_ok-eta.ensures.value c.in_ok-image.ensures.value c.in_ok-numbers.ensures.value c.deref.ensures.value c.in_ok-value.ensures.value c.in_ok-zero.ensures.value (c.equal.ensures.0 c.if-not-equal.false);
    }

pub invariant_of-result : goal.invariant_of-result
invariant_of-result c =
    let f : Extension = record { p = c.args.p; factor = c.args.factor.now } in
    let F : IsMonicFactor f = record { p_low = c.requires.p_low; p_high = c.requires.p_high; degree_low = omega (arith, c.requires.degree_low); degree_high = omega (arith, c.requires.degree_high); below = c.requires.below; monic = c.requires.monic } in (
      record {
        factor = subst IsMonicFactor (sym c.in_ok-base.ensures) F;
        frobenius = frobenius c.in_ok-base.base f c.in_ok-base.ensures c.in_ok-eta.eta c.in_ok-image.image c.in_ok-value.value c.in_ok-zero.zero c.in_ok-numbers.numbers.items c.deref.result.now c.in_ok-eta.ensures.value c.in_ok-image.ensures.value c.in_ok-numbers.ensures.value c.deref.ensures.value c.in_ok-value.ensures.value c.in_ok-zero.ensures.value (c.equal.ensures.0 c.if-not-equal.false);
      },
      c.in_ok-images.ensures.value ∙ ap (λ x. map (power (elements c.in_ok-base.base) x) (below (degree c.in_ok-base.base))) (image_is c.in_ok-base.base f c.in_ok-base.ensures c.in_ok-eta.eta c.in_ok-image.image c.in_ok-value.value c.in_ok-zero.zero c.in_ok-numbers.numbers.items c.deref.result.now c.in_ok-eta.ensures.value c.in_ok-image.ensures.value),
    )
