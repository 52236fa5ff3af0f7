use Rattle.ext_field.proofs.Images.{trace_is}
use Rattle.ext_field.proofs.extensions.Ext.trace.Goals as goal

pub returns-clause-value : goal.returns-clause-value
returns-clause-value c = trace_is c.args.self.now c.args.a.now _ c.self.view_is _ _ _ c.in_ok-images.ensures.value c.deref.ensures.value c.in_ok-total.ensures.value
