use Rattle.std.proofs.Common.{subst, sym, arith}
use Rattle.ext_field.specs.Element.{IsElement}
use Rattle.ext_field.proofs.Images.{no_image, next_image, one_image_more, all_more}
use Rattle.ext_field.proofs.extensions.Ext.images.Goals as goal

pub loop-taken-init : goal.loop-taken-init
loop-taken-init c = record { value = c.new-images.ensures.items; elements = grind (arith, c.new-images.ensures.items); image = no_image c.args.self.now c.args.a.now _ c.in_ok-image.ensures; element = subst (IsElement c.args.self.now) (sym c.in_ok-image.ensures) c.requires }

pub loop-taken-preserved : goal.loop-taken-preserved
loop-taken-preserved c =
    record {
      value = one_image_more c.args.self.now c.args.a.now c.loop-taken._taken _ _ _ c.loop-taken.invariant.image c.loop-taken.invariant.value c.in_ok-push.ensures.items;
      elements = all_more c.args.self.now _ _ _ c.loop-taken.invariant.elements c.loop-taken.invariant.element c.in_ok-push.ensures.items;
      image = next_image c.args.self.now c.args.a.now c.loop-taken._taken _ _ c.loop-taken.invariant.image c.in_ok-next.ensures.value;
      element = c.in_ok-next.ensures.element;
    }
