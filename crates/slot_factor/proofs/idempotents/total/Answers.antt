use Rattle.std.proofs.Common.{◌<◌, map, pos, ap, sym, subst, ◌∙◌, arith, length, get_or}
use Rattle.std.specs.List.{All}
use Rattle.std.proofs.lemmas.List.{length-replicate}
use Rattle.mod_ring.specs.Zq.{modulus_of}
use Rattle.algebra.specs.Whole.{residue}
use Rattle.cyclotomic.specs.Cyclotomic.{fold}
use Rattle.hyper_cube.specs.Torus.{T_of, index}
use Rattle.slot_laws.specs.Slots.{inverse_modulo}
use Rattle.slot_laws.proofs.EncodeSums.{fold_zeros}
use Rattle.slot_factor.proofs.UnitSteps.{images_more, total_is, inverse_low, zeros_below, unit_below}
use Rattle.slot_factor.proofs.idempotents.total.Goals as goal

pub loop-e-init : goal.loop-e-init
loop-e-init c =
    let q = modulus_of c.args.zq.now in
    let p : 0 < modulus_of c.args.zq.now = omega (arith, c.args.zq.now.in_range) in
    record {
      value = ap (λ z. map (residue q) (fold c.m-m.result (map pos z))) (c.in_ok-sums.ensures.items_if_clones_equal (λ _ e. e)) ∙ fold_zeros q c.m-m.result p (omega (arith, c.m-m.ensures.value, c.m-m.ensures.low)) c.m-m.result;
      long = ap length (c.in_ok-sums.ensures.items_if_clones_equal (λ _ e. e)) ∙ length-replicate c.m-m.result 0;
      below = subst (All (λ v. v < q)) (sym (c.in_ok-sums.ensures.items_if_clones_equal (λ _ e. e))) (zeros_below q c.m-m.result p);
    }

pub placed-sums-requires-clause-k_low : goal.placed-sums-requires-clause-k_low
placed-sums-requires-clause-k_low c = subst (λ z. 0 < z) (sym (c.requires.inverses.at c.loop-e.e (omega (arith, c.loop-e-test.true, c.slot_count-e-end.ensures.value)))) (inverse_low c.args.cube.now c.slot_count-e-end.ensures.valid c.loop-e.e (omega (arith, c.loop-e-test.true, c.slot_count-e-end.ensures.value)))

pub placed-sums-requires-clause-a_below : goal.placed-sums-requires-clause-a_below
placed-sums-requires-clause-a_below c = unit_below c.args.ext.now c.args.cube.now c.args.unit.now (modulus_of c.args.zq.now) (omega (arith, c.args.zq.now.in_range)) c.requires.same_q c.requires.unit

pub loop-e-preserved : goal.loop-e-preserved
loop-e-preserved c =
    let q = modulus_of c.args.zq.now in
    record {
      value = images_more q c.m-m.result (omega (arith, c.args.zq.now.in_range)) (omega (arith, c.m-m.ensures.value, c.m-m.ensures.low)) (λ j. inverse_modulo c.args.cube.now.m (T_of c.args.cube.now (index c.args.cube.now.dimensions j))) (map pos c.args.unit.now) c.loop-e.e (get_or c.args.inverses.now c.loop-e.e 0) (fold c.m-m.result (map pos c.loop-e.sums.items)) (fold c.m-m.result (map pos c.placed-sums.result.items)) (c.requires.inverses.at c.loop-e.e (omega (arith, c.loop-e-test.true, c.slot_count-e-end.ensures.value))) c.placed-sums.ensures.value c.loop-e.invariant.value;
      long = c.placed-sums.ensures.long;
      below = c.placed-sums.ensures.below;
    }

pub returns : goal.returns
returns c = record { value = total_is c.args.ext.now c.p-p.ensures.valid.factor c.args.cube.now (omega (arith, c.requires.same_m, c.m-m.ensures.low)) (modulus_of c.args.zq.now) c.m-m.result c.args.cyclo.now c.loop-e.e c.args.unit.now c.loop-e.sums.items c.folded-rest.result.items c.requires.same_q (c.m-m.ensures.value ∙ c.requires.same_m) c.requires.same_m (omega (arith, c.loop-e-test.false, c.loop-e.auto.e-end, c.slot_count-e-end.ensures.value)) c.requires.unit c.loop-e.invariant.value c.folded-rest.ensures.value }
