use Rattle.std.proofs.Common.{◌<◌, ◌^◌, map, pos, refl, ap, sym, subst, ◌∙◌, arith, length, get_or}
use Rattle.std.specs.List.{All}
use Rattle.std.proofs.lemmas.List.{length-replicate}
use Rattle.algebra.specs.Poly.{times}
use Rattle.algebra.specs.Ring.{residues}
use Rattle.mod_ring.specs.Zq.{modulus_of}
use Rattle.cyclotomic.specs.Cyclotomic.{fold}
use Rattle.slot_factor.proofs.EncodeSteps.{element_at, k_low, zeros_start, slot_more, encoded_reduced, encoded_is}
use Rattle.slot_factor.proofs.LazySteps.{reduced_below}
use Rattle.slot_factor.proofs.PackedSteps.{balanced_from}
use Rattle.slot_factor.proofs.UnitSteps.{zeros_below, unit_below}
use Rattle.slot_factor.proofs.encoding.encode.Goals as goal

pub loop-e-init : goal.loop-e-init
loop-e-init c =
    let zs = c.in_ok-sums.ensures.items_if_clones_equal (λ _ e. e) in
    record {
      value = zeros_start c.args.ext.now c.args.cube.now c.requires.packing c.m-m.result c.args.x.now c.in_ok-sums.sums.items zs;
      long = ap length zs ∙ length-replicate c.m-m.result 0;
      room = subst (All (λ v. v < 2 ^ 62)) (sym zs) (zeros_below (2 ^ 62) c.m-m.result (omega arith));
    }

pub placed_product-sums-requires-clause-b_below : goal.placed_product-sums-requires-clause-b_below
placed_product-sums-requires-clause-b_below c = unit_below c.args.ext.now c.args.cube.now c.args.unit.now (modulus_of c.args.zq.now) (omega (arith, c.args.zq.now.in_range)) c.requires.same_q c.requires.unit

pub placed_product-sums-requires-clause-k_low : goal.placed_product-sums-requires-clause-k_low
placed_product-sums-requires-clause-k_low c = subst (λ z. 0 < z) (sym (c.requires.inverses.at c.loop-e.e (omega (arith, c.loop-e-test.true, c.slot_count-e-end.ensures.value)))) (k_low c.args.ext.now c.args.cube.now c.requires.packing c.loop-e.e (omega (arith, c.loop-e-test.true, c.slot_count-e-end.ensures.value)))

pub loop-e-preserved : goal.loop-e-preserved
loop-e-preserved c = record {
  value = slot_more c.args.ext.now c.args.cube.now c.requires.packing c.args.x.now c.loop-e.e (modulus_of c.args.zq.now) c.m-m.result (get_or c.args.inverses.now c.loop-e.e 0) c.coeffs-coeffs.result.now c.args.unit.now (times (residues (modulus_of c.args.zq.now)) c.coeffs-coeffs.result.now c.args.unit.now) (map pos c.loop-e.sums.items) (map pos c.placed_product-sums.result.items) c.requires.array (omega (arith, c.loop-e-test.true, c.slot_count-e-end.ensures.value)) c.requires.same_q (c.m-m.ensures.value ∙ c.requires.same_m) (c.requires.inverses.at c.loop-e.e (omega (arith, c.loop-e-test.true, c.slot_count-e-end.ensures.value))) (c.coeffs-coeffs.ensures ∙ element_at c.args.x.now c.loop-e.e c.index-x-e.result (omega (arith, c.loop-e-test.true, c.slot_count-e-end.ensures.value, c.requires.array.long)) c.index-x-e.is) c.requires.unit refl c.placed_product-sums.ensures.value c.loop-e.invariant.value;
  long = c.placed_product-sums.ensures.long;
  room = c.placed_product-sums.ensures.room;
}

pub folded-rest-requires-clause-below : goal.folded-rest-requires-clause-below
folded-rest-requires-clause-below c = reduced_below (modulus_of c.args.zq.now) (omega (arith, c.args.zq.now.in_range)) c.loop-e.sums.items c.reduced.result.items c.reduced.ensures.value

pub returns : goal.returns
returns c =
    let q = modulus_of c.args.zq.now in
    let q_pos : 0 < q = omega (arith, c.args.zq.now.in_range) in
    encoded_is c.args.ext.now c.args.cube.now c.requires.packing c.args.x.now q c.args.cyclo.now c.loop-e.e c.reduced.result.items c.in_ok-row.row.items c.requires.same_q c.requires.same_m (omega (arith, c.loop-e-test.false, c.loop-e.auto.e-end, c.slot_count-e-end.ensures.value)) (balanced_from q c.args.cyclo.now q_pos (fold c.args.cyclo.now (map pos c.reduced.result.items)) c.in_ok-row.row.items c.deref.result.now c.folded-rest.result.items c.in_ok-row.ensures c.deref.ensures.value c.folded-rest.ensures.value)
    (encoded_reduced c.args.ext.now c.args.cube.now c.requires.packing q c.requires.same_q q_pos c.loop-e.sums.items c.reduced.result.items c.reduced.ensures.long c.reduced.ensures.value ∙ c.loop-e.invariant.value)
