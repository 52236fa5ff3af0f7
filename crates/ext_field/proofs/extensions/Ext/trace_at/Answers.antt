use Rattle.std.proofs.Common.{refl}
use Rattle.ext_field.proofs.Images.{rows_long, rows_in, pairing_is}
use Rattle.ext_field.proofs.extensions.Ext.trace_at.Goals as goal

pub combination-requires-clause-long : goal.combination-requires-clause-long
combination-requires-clause-long c = rows_long _ c.args.self.now c.self.view_is c.self.invariant.0 c.args.theta.now c.requires.element c.args.k _ c.args.traces.now _ c.requires.traces refl c.requires.k_in c.requires.traces_in refl _ c.coeffs.ensures

pub combination-requires-clause-rows_in : goal.combination-requires-clause-rows_in
combination-requires-clause-rows_in c = rows_in _ c.args.self.now c.self.view_is c.self.invariant.0 c.args.theta.now c.requires.element c.args.k _ c.args.traces.now _ c.requires.traces refl c.requires.k_in c.requires.traces_in refl

pub returns-clause-value : goal.returns-clause-value
returns-clause-value c = pairing_is _ c.args.self.now c.self.view_is c.self.invariant.0 c.args.theta.now c.requires.element c.args.k _ c.args.traces.now _ c.requires.traces refl c.requires.k_in c.requires.traces_in refl _ _ c.coeffs.ensures c.in_ok-trace.ensures.value
