use Rattle.std.proofs.Common.{◌≡◌, ◌-◌, ℕ, List, ◌++◌, length, map, take, replicate, arith, ap, sym, ◌∙◌, subst}
use Rattle.algebra.specs.Ring.{residues}
use Rattle.algebra.specs.Poly.{remainder}
use Rattle.algebra.specs.Whole.{residue}
use Rattle.bluestein.specs.Plan.{Roots}
use Rattle.cyclotomic.specs.Cyclotomic.{phi, degree}
use Rattle.residue_rows.specs.Values.{IsRow, interpolated}
use Rattle.double_crt.specs.Places.{ArePlaces}
use Rattle.double_crt.specs.Roots.{point_of}
use Rattle.double_crt.proofs.UnitSteps.{degree_most}
use Rattle.double_crt.proofs.ValueSteps.{found}
use Rattle.double_crt.proofs.line.Line.coefficients.Goals as goal

pub returns-clause-value : goal.returns-clause-value
returns-clause-value c = subst (λ (r : Roots). take (length c.args.words.now) c.fold.new.values ≡ interpolated r.m (point_of r) c.args.words.now) c.self.view_is (found plan c.self.invariant.accepted c.args.words.now c.inverse.new.out c.args.places.now c.fold.new.values (subst (λ (r : Roots). IsRow r.m r.q c.args.words.now) (sym c.self.view_is) (c.requires.long, c.requires.words_in)) (subst (λ (r : Roots). ArePlaces r.m c.args.places.now) (sym c.self.view_is) c.requires.places) c.inverse.ensures.row (c.inverse.ensures.values ∙ c.spread_words.ensures.value) (c.fold.ensures.value ∙ ap (λ q. folded q c.args.cyclo.now) c.self.invariant.modulus ∙ ap (folded plan.q) (c.requires.same_m ∙ sym (ap (λ (r : Roots). r.m) c.self.view_is))))
  where
    plan : Roots
    plan = c.self.inside.plan

    folded : ℕ → ℕ → List ℕ
    folded q m = remainder (residues q) (map (residue q) (phi m)) c.inverse.new.out ++ replicate (m - degree m) 0

pub returns-clause-fits : goal.returns-clause-fits
returns-clause-fits c = let e = ap (λ (r : Roots). r.m) c.self.view_is in let l = c.self.invariant.accepted.some in let h = degree_most c.args.self.now.m (omega arith) in omega arith
