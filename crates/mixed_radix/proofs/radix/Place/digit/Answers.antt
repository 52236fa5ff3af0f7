use Rattle.std.proofs.Common.{◌≡◌, ◌≤◌, length, ℤ, pos, ◌+ℤ◌, ◌*ℤ◌, ◌∙◌, sym, subst, arith, rules}
use Rattle.std.proofs.lemmas.Int.{to_z-of_z}
use mir.Syntax.{w64}
use mir.Val.{SFits}
use Rattle.algebra.specs.Whole.{residue, product_of}
use Rattle.mod_ring.specs.Zq.{modulus_of}
use Rattle.mixed_radix.specs.Mixed.{mixed}
use Rattle.mixed_radix.proofs.Steps.{next_digit, steps_end}
use Rattle.mixed_radix.proofs.radix.Place.digit.Goals as goal

pub returns-clause-value : goal.returns-clause-value
returns-clause-value c = λ qs h.
    let q = modulus_of c.args.self.now.ring in
    let es = c.args.self.now.inverse.items in
    let vs = c.args.earlier.now in
    let v = c.balanced.result in
    let fits : SFits w64 v = search rules in
    let long : length vs ≡ length es = omega (arith, c.args.self.now.inverse.ok.0, c.requires.places) in
    let past : length es ≤ c.loop-i.i = omega (arith, c.loop-i-test.false) in
    subst (λ (z : ℤ). residue q (mixed qs vs +ℤ pos (product_of qs) *ℤ z) ≡ c.args.remainder) (sym (to_z-of_z w64 v fits)) (next_digit q qs es vs c.args.remainder v (omega (arith, c.requires.remainder_in)) c.requires.remainder_in long (c.balanced.ensures.congruent ∙ steps_end q es vs c.loop-i.i c.loop-i.rest _ past c.loop-i.invariant.steps_left) h)
