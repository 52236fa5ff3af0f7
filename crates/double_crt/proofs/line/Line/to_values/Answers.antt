use Rattle.std.proofs.Common.{◌≡◌, ◌<◌, ℕ, List, All, length, map, get_or, arith, ap, sym, ◌∙◌, subst}
use Rattle.algebra.specs.Divisor.{units}
use Rattle.algebra.specs.Whole.{below}
use Rattle.bluestein.specs.Plan.{Roots, value_of}
use Rattle.cyclotomic.specs.Cyclotomic.{degree}
use Rattle.residue_rows.specs.Values.{values_of}
use Rattle.double_crt.specs.Roots.{point_of}
use Rattle.double_crt.proofs.UnitSteps.{units_long, degree_most, units_below}
use Rattle.double_crt.proofs.ValueSteps.{picked}
use Rattle.double_crt.proofs.line.Line.to_values.Goals as goal

pub forward-requires-clause-few : goal.forward-requires-clause-few
forward-requires-clause-few c = let e = ap (λ (r : Roots). r.m) c.self.view_is in let l = c.self.invariant.accepted.some in let h = degree_most c.self.inside.plan.m (omega arith) in let k : degree c.args.self.now.m ≡ degree c.self.inside.plan.m = ap degree (omega arith) in omega arith

pub pick_words-requires-clause-room : goal.pick_words-requires-clause-room
pick_words-requires-clause-room c = let e = ap (λ (r : Roots). r.m) c.self.view_is in let l = c.self.invariant.accepted.some in c.requires.long ∙ sym (units_long c.args.self.now.m (omega arith)) ∙ sym (ap length c.requires.units)

pub pick_words-requires-clause-places_in : goal.pick_words-requires-clause-places_in
pick_words-requires-clause-places_in c = let e = ap (λ (r : Roots). r.m) c.self.view_is in let l = c.self.invariant.accepted.some in let n : length c.forward.new.out ≡ c.args.self.now.m = omega arith in subst (λ n. All (λ j. j < n) c.args.units.now) (sym n) (subst (All (λ j. j < c.args.self.now.m)) (sym c.requires.units) (units_below c.args.self.now.m (omega arith)))

pub returns-clause-value : goal.returns-clause-value
returns-clause-value c = subst (λ (r : Roots). c.pick_words.new.words ≡ values_of r.m (point_of r) c.args.words.now) c.self.view_is (c.pick_words.ensures.value ∙ ap (λ (out : List ℕ). map (λ j. get_or out j 0) c.args.units.now) c.forward.ensures.values ∙ ap (map (λ j. get_or (values c.args.words.now) j 0)) units_are ∙ picked c.self.inside.plan c.self.invariant.accepted c.args.words.now)
  where
    values : List ℕ → List ℕ
    values a = map (value_of c.self.inside.plan a) (below c.self.inside.plan.m)

    units_are : c.args.units.now ≡ units c.self.inside.plan.m
    units_are = c.requires.units ∙ ap (λ (r : Roots). units r.m) (sym c.self.view_is)
