use Rattle.std.proofs.Common.{◌≡◌, ◌∷◌, ◌++◌, ◌∙◌, [], pos, nat_abs, ap, arith, rules}
use Rattle.std.proofs.lemmas.Int.{to_z-of_z}
use mir.Syntax.{w64}
use mir.Val.{SFits, to_z, of_z}
use Rattle.algebra.specs.Whole.{balanced}
use Rattle.mod_ring.specs.Zq.{modulus_of}
use Rattle.cyclo_poly.proofs.ExactSteps.{small_push, map_push}
use Rattle.cyclo_poly.proofs.exact.small_row.Goals as goal

pub loop-i-preserved : goal.loop-i-preserved
loop-i-preserved c =
    let x = c.balanced-value.result in
    let fits : SFits w64 x = search rules in
    let back : to_z w64 (of_z w64 x) ≡ x = to_z-of_z w64 x fits in
    let pushed : c.push.new.self.items ≡ c.loop-i.list.items ++ x ∷ [] = c.in_ok-push.ensures.items ∙ ap (λ z. c.loop-i.list.items ++ z ∷ []) back in
    record {
      value = map_push (λ x. balanced (modulus_of c.args.zq.now) (pos x)) c.args.row.now c.loop-i.list.items c.push.new.self.items c.loop-i.i x pushed c.loop-i-test.true c.balanced-value.ensures.value c.loop-i.invariant.value;
      small = small_push c.loop-i.list.items c.push.new.self.items x pushed (omega (arith, ap nat_abs back, c.if-unsigned_abs.false, c.unsigned_abs.ensures.value)) c.loop-i.invariant.small;
    }
