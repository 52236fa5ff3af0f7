use Rattle.std.proofs.Common.{◌≡◌, ◌-◌, ◌<◌, ◌∙◌, length, ap, arith}
use Rattle.algebra.specs.Divisor.{number_of_units}
use Rattle.cyclo_poly.proofs.CycloSteps.{kept_filled, kept_units, kept_positive, kept_less}
use Rattle.cyclo_poly.proofs.cyclo.Cyclo.degree.Goals as goal

pub overflow_sub-result : goal.overflow_sub-result
overflow_sub-result c = omega (arith, kept_filled _ _ _ _ _ c.self.invariant, c.self.inside.member.ok, c.len.ensures)

pub overflow_cast-result : goal.overflow_cast-result
overflow_cast-result c =
    let s : c.len.result < 65537 = omega (arith, kept_less _ _ _ _ _ c.self.invariant, c.self.invariant.m_high, c.self.inside.member.ok, c.len.ensures) in
    omega (arith, s)

pub returns-clause-units : goal.returns-clause-units
returns-clause-units c =
    let e : c.len.result ≡ length c.self.inside.member.items = omega (arith, c.self.inside.member.ok, c.len.ensures) in
    ap (λ z. z - 1) e ∙ kept_units _ _ _ _ _ c.self.invariant ∙ ap number_of_units c.self.view_is

pub returns-clause-positive : goal.returns-clause-positive
returns-clause-positive c = omega (arith, kept_positive _ _ _ _ _ c.self.invariant, c.self.inside.member.ok, c.len.ensures)

pub returns-clause-less : goal.returns-clause-less
returns-clause-less c = omega (arith, kept_less _ _ _ _ _ c.self.invariant, c.self.view_is, c.self.inside.member.ok, c.len.ensures)
