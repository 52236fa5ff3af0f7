use Rattle.std.proofs.Common.{[], ◌∷◌, pos}
use Rattle.mod_ring.specs.Zq.{modulus_of}
use Rattle.slot_factor.proofs.CheckSteps.{complete_test, by_one}
use Rattle.slot_factor.proofs.checks.is_complete.Goals as goal

pub returns : goal.returns
returns c = complete_test c.args.ext.now c.args.cube.now c.is_same.result (modulus_of c.args.zq.now) c.args.cyclo.now c.deref.result.now c.deref-2.result.now c.in_ok-total.total.items c.in_ok-one.one.items c.requires.same_q c.requires.same_m c.in_ok-total.ensures.value (by_one (modulus_of c.args.zq.now) c.args.cyclo.now (pos 1 ∷ []) c.in_ok-one.one.items c.in_ok-one.ensures.value) c.deref.ensures.value c.deref-2.ensures.value c.is_same.ensures
