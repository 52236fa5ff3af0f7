use Rattle.std.proofs.Common.{map, pos, arith, ap, ◌∙◌}
use Rattle.algebra.specs.Whole.{residue}
use Rattle.mod_ring.specs.Zq.{modulus_of}
use Rattle.cyclotomic.specs.Cyclotomic.{substituted}
use Rattle.slot_factor.proofs.UnitSteps.{times_row}
use Rattle.slot_factor.proofs.idempotents.multiplied.Goals as goal

pub returns-clause-value : goal.returns-clause-value
returns-clause-value c =
    let q = modulus_of c.args.zq.now in
    c.in_ok-rest.ensures.value ∙ ap (λ z. map (residue q) (substituted c.args.cyclo.now 1 (map pos z))) c.deref.ensures.value ∙ times_row q c.args.cyclo.now (omega (arith, c.args.zq.now.in_range)) c.requires.m_low c.args.a.now c.args.b.now c.in_ok-product.product.items c.requires.a_below c.requires.b_below c.in_ok-product.ensures.below c.in_ok-product.ensures.value
