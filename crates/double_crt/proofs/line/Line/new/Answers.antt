use Rattle.std.proofs.Common.{arith, ap, sym, ◌∙◌, subst}
use Rattle.bluestein.specs.Plan.{Roots}
use Rattle.residue_rows.specs.ValueLaws.{IsAcceptedRoot}
use Rattle.double_crt.specs.Roots.{point_of}
use Rattle.double_crt.proofs.LineSteps.{plan_roots, accepted_point}
use Rattle.double_crt.proofs.line.Line.new.Goals as goal

pub new-requires : goal.new-requires
new-requires c = plan_roots c.args.m c.args.row c.requires.low c.requires.high c.requires.accepted

pub invariant_of-result : goal.invariant_of-result
invariant_of-result c = record {
  modulus = c.residues_modulo.ensures ∙ sym (ap (λ (r : Roots). r.q) c.in_ok-new.ensures);
  accepted = subst (λ (r : Roots). IsAcceptedRoot r.m (point_of r)) (sym c.in_ok-new.ensures) (accepted_point c.args.m c.args.row c.requires.low c.requires.accepted);
  few = let e = ap (λ (r : Roots). r.m) c.in_ok-new.ensures in let h = c.requires.high in omega arith;
}
