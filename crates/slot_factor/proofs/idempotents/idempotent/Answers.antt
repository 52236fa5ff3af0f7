use Rattle.std.proofs.Common.{◌<◌, ◌-◌, ◌%◌, refl, ap, ap₂, sym, subst, ◌∙◌, arith}
use Rattle.std.proofs.Math.Nat.{mod-lt}
use Rattle.std.proofs.lemmas.List.Elements.{All-push, All-same}
use Rattle.ext_field.specs.Element.{IsElement, eta_power}
use Rattle.mod_ring.specs.Zq.{modulus_of}
use Rattle.hyper_cube.proofs.Tabled.{filled_more}
use Rattle.slot_laws.specs.Slots.{constant_trace, inverse_modulo}
use Rattle.slot_laws.proofs.DecodeSums.{eta_power_in}
use Rattle.slot_factor.proofs.PowerSteps.{row_is}
use Rattle.slot_factor.proofs.UnitSteps.{trace_is, eps_is, mul_same, refilled}
use Rattle.slot_factor.proofs.idempotents.idempotent.Goals as goal

pub constant_trace-trace-requires-clause-row_in : goal.constant_trace-trace-requires-clause-row_in
constant_trace-trace-requires-clause-row_in c =
    let k = (c.m-m.result - c.loop-i.i) % c.m-m.result in
    subst (IsElement c.args.ext.now) (sym (row_is c.args.ext.now c.args.cube.now.m k c.degree-d.result c.args.powers.now c.requires.powers (omega (arith, mod-lt (c.m-m.result - c.loop-i.i) (let l : 0 < c.m-m.result = omega (arith, c.loop-i-test.true) in l), c.m-m.ensures.value)) c.degree-d.ensures.value)) (eta_power_in c.args.ext.now c.requires.valid.factor k)

pub loop-i-preserved : goal.loop-i-preserved
loop-i-preserved c =
    let f = c.args.ext.now in
    let q = modulus_of c.args.zq.now in
    let k = (c.m-m.result - c.loop-i.i) % c.m-m.result in
    let row_eq = row_is f c.args.cube.now.m k c.degree-d.result c.args.powers.now c.requires.powers (omega (arith, mod-lt (c.m-m.result - c.loop-i.i) (let l : 0 < c.m-m.result = omega (arith, c.loop-i-test.true) in l), c.m-m.ensures.value)) c.degree-d.ensures.value ∙ ap (λ z. eta_power f ((c.m-m.result - c.loop-i.i) % z)) c.m-m.ensures.value in
    let t_is = trace_is f c.requires.valid.factor c.args.cube.now (omega (arith, c.loop-i-test.true, c.m-m.ensures.value)) c.requires.root (c.m-m.result - c.loop-i.i) c.constant_trace-trace.result _ _ row_eq refl c.constant_trace-trace.ensures.value in
    record {
      value = filled_more _ c.loop-i.i c.mul_word-value.result c.loop-i.values.items c.push.new.self.items c.loop-i.invariant.value c.in_ok-push.ensures.items (mul_same (c.inverse.result % c.p-2.result) c.constant_trace-trace.result c.mul_word-value.result q (constant_trace f c.args.cube.now (c.m-m.result - c.loop-i.i)) c.mul_word-value.ensures.value t_is);
      below = All-same (λ v. v < q) _ _ c.in_ok-push.ensures.items (All-push (λ v. v < q) c.loop-i.values.items c.mul_word-value.result c.loop-i.invariant.below c.mul_word-value.ensures.below);
    }

pub returns : goal.returns
returns c =
    let f = c.args.ext.now in
    record { value = eps_is f c.requires.valid.factor c.args.cube.now (omega (arith, c.m-m.ensures.valid.shape.m_low)) (modulus_of c.args.zq.now) c.args.cyclo.now (c.inverse.result % c.p-2.result) c.loop-i.values.items c.folded-rest.result.items c.requires.same_q c.requires.same_m (ap₂ (λ y z. y % z) (c.inverse.ensures ∙ ap₂ inverse_modulo c.p.ensures.value c.m-m.ensures.value) c.p-2.ensures.value) c.loop-i.invariant.below (refilled f c.args.cube.now (c.inverse.result % c.p-2.result) (modulus_of c.args.zq.now) c.m-m.result c.loop-i.i c.args.cube.now.m c.loop-i.values.items c.m-m.ensures.value (omega (arith, c.loop-i-test.false, c.loop-i.auto.i-end, c.m-m.ensures.value)) c.loop-i.invariant.value) c.folded-rest.ensures.value }
