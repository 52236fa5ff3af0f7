use Rattle.std.proofs.Common.{map, pos, arith, ap, sym, ◌∙◌}
use Rattle.mod_ring.specs.Zq.{modulus_of}
use Rattle.algebra.specs.Whole.{residue}
use Rattle.cyclotomic.specs.Cyclotomic.{R, fold, substituted}
use Rattle.slot_factor.proofs.UnitSteps.{on_zeros}
use Rattle.slot_factor.proofs.idempotents.substituted.Goals as goal

pub returns-clause-value : goal.returns-clause-value
returns-clause-value c =
    let q = modulus_of c.args.zq.now in
    on_zeros q c.args.cyclo.now (omega (arith, c.args.zq.now.in_range)) (omega (arith, c.m-m.ensures.low)) c.args.k c.m-m.result (map pos c.args.a.now) c.in_ok-zeros.zeros.items c.folded-rest.result.items (fold c.args.cyclo.now (map pos c.placed-sums.result.items)) (c.in_ok-zeros.ensures.items_if_clones_equal (λ _ e. e)) (ap (λ z. map (residue q) (fold z (map pos c.placed-sums.result.items))) (sym c.m-m.ensures.value) ∙ c.placed-sums.ensures.value ∙ ap (λ z. map (residue q) ((R z).add (fold z (map pos c.in_ok-zeros.zeros.items)) (substituted z c.args.k (map pos c.args.a.now)))) c.m-m.ensures.value) c.folded-rest.ensures.value
