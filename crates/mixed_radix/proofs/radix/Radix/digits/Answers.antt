use Rattle.std.proofs.Common.{◌≡◌, ◌+◌, ◌<◌, length, take, set, ℤ, ap, sym, subst, arith, rules}
use Rattle.std.specs.List.{AllZip}
use Rattle.std.proofs.lemmas.Int.{to_z-of_z}
use Rattle.std.proofs.lemmas.List.{length-map, length-take-le}
use mir.Syntax.{w64}
use mir.Val.{SFits}
use Rattle.mod_ring.specs.Zq.{modulus_of}
use Rattle.mixed_radix.specs.Basis.{Basis}
use Rattle.mixed_radix.specs.Mixed.{AreDigits}
use Rattle.mixed_radix.specs.Places.{basis_of}
use Rattle.mixed_radix.specs.declared.radix.Place.{Place}
use Rattle.mixed_radix.proofs.Digits.{AreDigits-more}
use Rattle.mixed_radix.proofs.Rows.{place_modulus, place_inverse, row_odd, row_long, row_in, row_right, row_below}
use Rattle.mixed_radix.proofs.radix.Radix.digits.Goals as goal

pub digit-digit-requires : goal.digit-digit-requires
digit-digit-requires c =
    let b : Basis = basis_of c.self.inside in
    let ps = c.self.inside.places.items in
    let p = c.index.result.now in
    let j = c.loop-j.j in
    let n = length c.args.residues.now in
    let long : length b.moduli ≡ length c.args.self.now.moduli = ap (λ (b : Basis). length b.moduli) c.self.view_is in
    let l : j < length b.moduli = omega (arith, long, c.requires.count, c.loop-j-test.true) in
    let in_places : j < length ps = omega (arith, l, length-map ps (λ (p : Place). modulus_of p.ring)) in
    let q = place_modulus ps j p in_places c.index.ensures in
    let es = place_inverse ps j p in_places c.index.ensures in
    let earlier : length (take j c.loop-j.out) ≡ j = length-take-le j c.loop-j.out (omega (arith, c.loop-j.auto.out, c.requires.room, c.loop-j-test.true)) in
    let below : AllZip (λ q r. r < q) (take n b.moduli) c.args.residues.now = subst (λ (z : Basis). AllZip (λ q r. r < q) (take n z.moduli) c.args.residues.now) (sym c.self.view_is) c.requires.below in
    record {
      odd = row_odd b c.self.invariant j _ l q;
      places = omega (arith, earlier, row_long b c.self.invariant j p.inverse.items l es, p.inverse.ok.0);
      inverse_in = row_in b c.self.invariant j _ p.inverse.items l q es;
      remainder_in = row_below b.moduli c.args.residues.now n j _ below c.loop-j-test.true c.loop-j-test.true q;
    }

pub loop-j-preserved : goal.loop-j-preserved
loop-j-preserved c =
    let b : Basis = basis_of c.self.inside in
    let ps = c.self.inside.places.items in
    let p = c.index.result.now in
    let j = c.loop-j.j in
    let v = c.digit-digit.result in
    let long : length b.moduli ≡ length c.args.self.now.moduli = ap (λ (b : Basis). length b.moduli) c.self.view_is in
    let l : j < length b.moduli = omega (arith, long, c.requires.count, c.loop-j-test.true) in
    let in_places : j < length ps = omega (arith, l, length-map ps (λ (p : Place). modulus_of p.ring)) in
    let q = place_modulus ps j p in_places c.index.ensures in
    let es = place_inverse ps j p in_places c.index.ensures in
    let in_out : j < length c.loop-j.out = omega (arith, c.loop-j.auto.out, c.requires.room, c.loop-j-test.true) in
    let fits : SFits w64 v = search rules in
    subst (λ (z : ℤ). AreDigits (take (j + 1) b.moduli) (take (j + 1) c.args.residues.now) (take (j + 1) (set c.loop-j.out j z))) (sym (to_z-of_z w64 v fits)) (AreDigits-more b.moduli c.args.residues.now c.loop-j.out j (modulus_of p.ring) v l c.loop-j-test.true in_out q c.loop-j.invariant c.digit-digit.ensures.balanced (c.digit-digit.ensures.value (take j b.moduli) (row_right b c.self.invariant j (modulus_of p.ring) p.inverse.items l q es)))
