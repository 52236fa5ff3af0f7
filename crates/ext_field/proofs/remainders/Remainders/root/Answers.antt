use Rattle.std.proofs.Common.{[], ◌∷◌, ◌++◌, ap, ◌∙◌}
use Rattle.ext_field.proofs.Reduced.{root_is}
use Rattle.ext_field.proofs.remainders.Remainders.root.Goals as goal

pub returns-clause-value : goal.returns-clause-value
returns-clause-value c = root_is _ c.args.self.now _ _ c.self.view_is c.self.invariant.0 (c.in_ok-push-2.ensures.items ∙ ap (λ l. l ++ 1 ∷ []) (c.in_ok-push.ensures.items ∙ ap (λ l. l ++ 0 ∷ []) c.new-coeffs.ensures.items)) c.in_ok-root.ensures.value
