use Rattle.std.proofs.Common.{◌-◌, arith, refl}
use Rattle.mod_ring.specs.Zq.{modulus_of}
use Rattle.slot_factor.proofs.RowSteps.{terms_before, term_more, sum_small, product_coefficient}
use Rattle.slot_factor.proofs.rows.terms_at.Goals as goal

pub loop-j-init : goal.loop-j-init
loop-j-init c = record {
  value = terms_before c.args.a.now c.args.b.now c.args.i c.saturating_sub-j.result (omega (arith, c.saturating_sub-j.ensures));
  small = omega arith;
}

pub loop-j-preserved : goal.loop-j-preserved
loop-j-preserved c =
    let q = modulus_of c.args.zq.now in
    record {
      value = term_more c.args.a.now c.args.b.now c.args.i c.loop-j.j c.loop-j.sum _ _ _ (omega (arith, c.loop-j-test.true, c.min-j-end.ensures)) (omega (arith, c.loop-j-test.true, c.min-j-end.ensures, c.loop-j.auto.j, c.saturating_sub-j.ensures)) refl c.loop-j.invariant.value;
      small = sum_small q c.args.a.now c.args.b.now c.loop-j.j (c.args.i - c.loop-j.j) _ _ c.loop-j.sum _ c.loop-j.j c.requires.p_high c.requires.a_below c.requires.b_below (omega (arith, c.loop-j-test.true, c.min-j-end.ensures)) (omega (arith, c.loop-j-test.true, c.min-j-end.ensures, c.loop-j.auto.j, c.saturating_sub-j.ensures)) refl c.loop-j.invariant.small;
    }

pub returns-clause-value : goal.returns-clause-value
returns-clause-value c = product_coefficient (modulus_of c.args.zq.now) (omega (arith, c.args.zq.now.in_range)) c.args.a.now c.args.b.now c.requires.a_below c.requires.b_below c.args.i c.loop-j.j c.loop-j.sum (modulus_of c.args.zq.now) refl (omega (arith, c.min-j-end.ensures, c.saturating_sub-j.ensures, c.requires.i_in, c.loop-j-test.false, c.loop-j.auto.j-end)) c.loop-j.invariant.value
