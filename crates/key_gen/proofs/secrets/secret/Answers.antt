use Rattle.std.proofs.Common.{subst}
use Rattle.residue_rows.specs.Kept.{RingSetting}
use Rattle.scheme_laws.specs.Keys.{IsSecret}
use Rattle.key_gen.proofs.KeySteps.{secret_is}
use Rattle.key_gen.proofs.secrets.secret.Goals as goal

pub invariant_of-result : goal.invariant_of-result
invariant_of-result c =
    let drawn = secret_is c.deref-ring.result.now c.n.ensures.setting c.args.draws.now c.n.result c.weight.result c.in_ok-coeffs.coeffs.items c.n.ensures.value c.weight.ensures.value c.in_ok-coeffs.ensures.value in
    record { small = drawn.small }

pub returns-clause-is_secret : goal.returns-clause-is_secret
returns-clause-is_secret c =
    let drawn = secret_is c.deref-ring.result.now c.n.ensures.setting c.args.draws.now c.n.result c.weight.result c.in_ok-coeffs.coeffs.items c.n.ensures.value c.weight.ensures.value c.in_ok-coeffs.ensures.value in
    subst (λ (r : RingSetting). IsSecret r c.in_ok-coeffs.coeffs.items) c.deref-ring.ensures drawn
