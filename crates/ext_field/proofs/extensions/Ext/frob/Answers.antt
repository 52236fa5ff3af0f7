use Rattle.std.proofs.Common.{subst, sym}
use Rattle.ext_field.specs.Element.{IsElement}
use Rattle.ext_field.proofs.Images.{no_image, next_image}
use Rattle.ext_field.proofs.extensions.Ext.frob.Goals as goal

pub loop-taken-init : goal.loop-taken-init
loop-taken-init c = record { value = no_image c.args.self.now c.args.a.now _ c.in_ok-image.ensures; element = subst (IsElement c.args.self.now) (sym c.in_ok-image.ensures) c.requires }

pub loop-taken-preserved : goal.loop-taken-preserved
loop-taken-preserved c = record { value = next_image c.args.self.now c.args.a.now c.loop-taken._taken _ _ c.loop-taken.invariant.value c.in_ok-image-2.ensures.value; element = c.in_ok-image-2.ensures.element }
