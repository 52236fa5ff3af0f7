use Rattle.std.proofs.Common.{◌∙◌}
use Rattle.mod_ring.specs.Zq.{modulus_of}
use Rattle.slot_factor.proofs.CheckSteps.{phi_test}
use Rattle.slot_factor.proofs.checks.is_phi_factor.Goals as goal

pub returns : goal.returns
returns c = phi_test c.args.ext.now c.args.cube.now c.equal-holds.result c.in_ok-value.value c.in_ok-zero.zero c.args.root.now c.in_ok-numbers.numbers.items c.in_ok-numbers.numbers.items c.deref-2.result.now c.deref.result.now (modulus_of c.args.zq.now) c.args.cyclo.now c.phi.result.now c.requires.same_q c.requires.same_m c.phi.ensures.value c.requires.root (c.deref.ensures.value ∙ c.in_ok-residues.ensures.value) c.in_ok-numbers.ensures.value c.deref-2.ensures.value c.in_ok-value.ensures.value c.in_ok-zero.ensures.value c.equal-holds.ensures
