use Rattle.std.proofs.Common.{◌≡◌, ◌+◌, ◌*◌, ◌/◌, ◌%◌, sym, arith, rules, div-add-mod'}
use Rattle.std.proofs.lemmas.Nat.{mod_below}
use Rattle.mod_ring.specs.Zq.{modulus_of}
use Rattle.moduli_table.proofs.EuclidSteps.{first_factors, last_factor, none_of_larger, factor_kept, divides_larger, divides_first, inverse_found, inverse_missing}
use Rattle.moduli_table.proofs.inverses.inverse_or_zero.Goals as goal

pub loop-smaller-init : goal.loop-smaller-init
loop-smaller-init c =
    let q = c.args.q in
    let a = c.args.a in
    record {
      larger_in = omega arith;
      larger_factor_in = omega arith;
      smaller_factor_in = omega arith;
      larger_is = (first_factors q a (omega arith)).0;
      smaller_is = (first_factors q a (omega arith)).1;
      smaller_in = omega (arith, mod_below a q (omega arith));
      common = λ d h k. divides_first d q a h k;
    }

pub loop-smaller-preserved : goal.loop-smaller-preserved
loop-smaller-preserved c =
    let q = c.args.q in
    let l = c.loop-smaller in
    let i = l.invariant in
    let same : modulus_of c.unwrap-ring.result ≡ q = search rules in
    let whole : l.larger / l.smaller * l.smaller + l.larger % l.smaller ≡ l.larger = div-add-mod' l.larger l.smaller in
    record {
      larger_in = omega (arith, i.smaller_in, i.larger_in);
      larger_factor_in = i.smaller_factor_in;
      smaller_factor_in = omega (arith, same, c.sub_word-factor.ensures.below);
      larger_is = i.smaller_is;
      smaller_is = factor_kept q (modulus_of c.unwrap-ring.result) c.args.a (l.larger / l.smaller) l.larger_factor l.smaller_factor l.larger l.smaller (l.larger % l.smaller) c.mul_word-product.result c.sub_word-factor.result (omega arith) same i.larger_is i.smaller_is whole c.mul_word-product.ensures.value c.sub_word-factor.ensures.value;
      smaller_in = mod_below l.larger l.smaller c.loop-smaller-test.true;
      common = λ d h k. i.common d (divides_larger d (l.larger / l.smaller) l.larger l.smaller (l.larger % l.smaller) whole h k) h;
    }

pub returns-then-larger-eq1-clause-value : goal.returns-then-larger-eq1-clause-value
returns-then-larger-eq1-clause-value c =
    let l = c.loop-smaller in
    sym (inverse_found c.args.q c.args.a l.larger_factor l.invariant.larger_factor_in (last_factor c.args.q c.args.a l.larger_factor l.larger (omega arith) c.if-larger-eq1.true l.invariant.larger_is))

pub returns-else-larger-eq1-clause-value : goal.returns-else-larger-eq1-clause-value
returns-else-larger-eq1-clause-value c =
    let l = c.loop-smaller in
    sym (inverse_missing c.args.q c.args.a (omega arith) (none_of_larger c.args.q c.args.a l.larger l.smaller c.if-larger-eq1.false (omega arith) l.invariant.common))

pub returns-else-larger-eq1-clause-none : goal.returns-else-larger-eq1-clause-none
returns-else-larger-eq1-clause-none c = λ _.
    let l = c.loop-smaller in
    none_of_larger c.args.q c.args.a l.larger l.smaller c.if-larger-eq1.false (omega arith) l.invariant.common
