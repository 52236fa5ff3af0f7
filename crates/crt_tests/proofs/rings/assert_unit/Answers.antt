use Rattle.std.proofs.Common.{ℕ, ◌∙◌, ap, subst}
use Rattle.algebra.specs.Divisor.{UnitModulo}
use Rattle.residue_rows.specs.Kept.{RingSetting}
use Rattle.crt_tests.proofs.rings.assert_unit.Goals as goal

pub returns-clause-unit : goal.returns-clause-unit
returns-clause-unit g c = subst (λ (m : ℕ). UnitModulo m c.args.k) (c.m-m.ensures.value ∙ ap (λ (t : RingSetting). t.moduli.m) (c.deref.ensures ∙ c.tables.ensures.value)) c.assert_inverse.ensures
