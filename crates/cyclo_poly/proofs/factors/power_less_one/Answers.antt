use Rattle.std.proofs.Common.{◌≡◌, ◌∷◌, ◌++◌, [], pos, negsuc, set, replicate, subst}
use Rattle.cyclo_poly.proofs.FactorSteps.{power_is}
use Rattle.cyclo_poly.proofs.factors.power_less_one.Goals as goal

pub returns-clause-value : goal.returns-clause-value
returns-clause-value c =
    let e : c.in_ok-f.f.items ≡ replicate c.args.m (pos 0) = c.in_ok-f.ensures in
    let h : c.push.new.self.items ≡ set (replicate c.args.m (pos 0)) 0 (negsuc 0) ++ pos 1 ∷ [] = subst (λ z. c.push.new.self.items ≡ set z 0 (negsuc 0) ++ pos 1 ∷ []) e c.in_ok-push.ensures.items in
    power_is c.args.m c.requires.low c.push.new.self.items h
