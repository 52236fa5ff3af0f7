use Rattle.std.proofs.Common.{ℕ, ◌∙◌, List, ap₂, sym}
use Rattle.ext_field.specs.Element.{Extension}
use Rattle.ext_field.proofs.Images.{images_kept}
use Rattle.ext_field.proofs.extensions.Ext.copy.Goals as goal

pub invariant_of-result : goal.invariant_of-result
invariant_of-result c =
    let made : ℕ → List ℕ → Extension = λ p g. record { p = p; factor = g } in
    images_kept _ _ _ _ (c.in_ok-base.ensures ∙ ap₂ made c.p.ensures.value c.factor.ensures.value ∙ sym c.self.view_is) (c.in_ok-images.ensures ∙ c.deref.ensures.value) c.self.invariant.0 c.self.invariant.1
