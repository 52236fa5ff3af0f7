use Rattle.std.proofs.Common.{[], map, pos, ap, ◌∙◌, arith}
use Rattle.mod_ring.specs.Zq.{modulus_of}
use Rattle.slot_factor.proofs.UnitSteps.{unit_below, eps_lifted}
use Rattle.slot_factor.proofs.CheckSteps.{annihilated_test, by_one}
use Rattle.slot_factor.proofs.checks.is_annihilated.Goals as goal

pub multiplied-requires-clause-a_below : goal.multiplied-requires-clause-a_below
multiplied-requires-clause-a_below c = unit_below c.args.ext.now c.args.cube.now c.args.unit.now (modulus_of c.args.zq.now) (omega (arith, c.args.zq.now.in_range)) c.requires.same_q c.requires.unit

pub returns : goal.returns
returns c = annihilated_test c.args.ext.now c.args.cube.now c.is_same.result (modulus_of c.args.zq.now) c.args.cyclo.now c.args.unit.now c.factor.result.now c.deref.result.now c.deref-2.result.now c.in_ok-product.product.items c.in_ok-zero.zero.items c.requires.same_q c.requires.same_m (ap (map pos) c.requires.unit ∙ eps_lifted c.args.ext.now c.factor.ensures.valid.factor c.args.cube.now (omega (arith, c.m-m.ensures.valid.shape.m_low))) c.factor.ensures.value c.in_ok-product.ensures.value (by_one (modulus_of c.args.zq.now) c.args.cyclo.now [] c.in_ok-zero.zero.items c.in_ok-zero.ensures.value) c.deref.ensures.value c.deref-2.ensures.value c.is_same.ensures
