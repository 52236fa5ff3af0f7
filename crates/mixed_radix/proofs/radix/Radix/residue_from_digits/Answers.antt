use Rattle.std.proofs.Common.{◌≡◌, ◌+◌, ◌-◌, ◌*◌, ◌%◌, ◌<◌, length, get_or, pos, ap, arith, rules}
use Rattle.std.proofs.lemmas.Int.{to_z-of_z}
use Rattle.std.proofs.lemmas.List.{length-map}
use mir.Syntax.{w64}
use mir.Val.{SFits, to_z, of_z}
use Rattle.algebra.specs.Whole.{residue}
use Rattle.mod_ring.specs.Zq.{modulus_of}
use Rattle.mixed_radix.specs.Basis.{Basis}
use Rattle.mixed_radix.specs.Places.{basis_of}
use Rattle.mixed_radix.specs.declared.radix.Place.{Place}
use Rattle.mixed_radix.proofs.Rows.{place_modulus}
use Rattle.mixed_radix.proofs.Steps.{horner_none, horner_more}
use Rattle.mixed_radix.proofs.radix.Radix.residue_from_digits.Goals as goal

pub loop-i-init : goal.loop-i-init
loop-i-init c =
    let p : 0 < modulus_of c.args.target.now = omega (arith, c.args.target.now.in_range) in
    record { below = p; value = horner_none (modulus_of c.args.target.now) _ c.args.digits.now _ p (omega arith) }

pub loop-i-preserved : goal.loop-i-preserved
loop-i-preserved c =
    let b : Basis = basis_of c.self.inside in
    let ps = c.self.inside.places.items in
    let t = modulus_of c.args.target.now in
    let f = c.args.first in
    let i = c.loop-i.i in
    let vs = c.args.digits.now in
    let p : 0 < t = omega (arith, c.args.target.now.in_range) in
    let long : length b.moduli ≡ length c.args.self.now.moduli = ap (λ (b : Basis). length b.moduli) c.self.view_is in
    let up : i - 1 + 1 ≡ i = omega (arith, c.loop-i-test.true) in
    let m : i - 1 < length vs = omega (arith, c.loop-i.auto.i, c.loop-i-test.true) in
    let l : f + (i - 1) < length b.moduli = omega (arith, long, c.requires, m) in
    let in_places : f + (i - 1) < length ps = omega (arith, l, length-map ps (λ (p : Place). modulus_of p.ring)) in
    let q = place_modulus ps (f + (i - 1)) c.index.result.now in_places c.index.ensures in
    let v = get_or vs (i - 1) (pos 0) in
    let fits : SFits w64 v = search rules in
    let back : to_z w64 (of_z w64 v) ≡ v = to_z-of_z w64 v fits in
    let digit : c.from_signed.result ≡ residue t v = cc in
    let product : c.mul_word.result ≡ (get_or b.moduli (f + (i - 1)) 0 % t * c.loop-i.sum) % t = cc in
    record {
      below = c.add_word-sum.ensures.below;
      value = horner_more t b.moduli vs f i (i - 1) c.loop-i.sum c.from_signed.result c.mul_word.result c.add_word-sum.result p up l m c.loop-i.invariant.value digit product c.add_word-sum.ensures.value;
    }
