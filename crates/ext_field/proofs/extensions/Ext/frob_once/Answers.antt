use Rattle.std.proofs.Common.{arith}
use Rattle.ext_field.proofs.Images.{images_long, images_in, factors_long, image_is}
use Rattle.ext_field.proofs.extensions.Ext.frob_once.Goals as goal

pub combination-requires-clause-long : goal.combination-requires-clause-long
combination-requires-clause-long c = omega (arith, factors_long _ c.args.self.now c.self.view_is c.self.invariant.0 _ _ c.self.invariant.1 c.deref-2.ensures.value c.args.a.now c.args.a.now _ _ c.requires c.a.view_is c.deref.ensures.value, images_long _ c.args.self.now c.self.view_is c.self.invariant.0 _ _ c.self.invariant.1 c.deref-2.ensures.value)

pub combination-requires-clause-rows_in : goal.combination-requires-clause-rows_in
combination-requires-clause-rows_in c = images_in _ c.args.self.now c.self.view_is c.self.invariant.0 _ _ c.self.invariant.1 c.deref-2.ensures.value

pub returns-clause-value : goal.returns-clause-value
returns-clause-value c = image_is _ c.args.self.now c.self.view_is c.self.invariant.0 _ _ c.self.invariant.1 c.deref-2.ensures.value c.args.a.now _ _ _ c.requires c.a.view_is c.deref.ensures.value c.in_ok-image.ensures.value
