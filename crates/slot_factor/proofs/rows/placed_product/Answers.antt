use Rattle.std.proofs.Common.{◌≡◌, ◌<◌, ◌+◌, ◌%◌, ◌^◌, map, pos, refl, sym, subst, ap, ◌∙◌, arith}
use Rattle.std.proofs.Math.Nat.{mod-eq_of_lt}
use Rattle.std.proofs.lemmas.List.{length-set}
use Rattle.std.proofs.lemmas.List.Elements.{All-set}
use Rattle.algebra.specs.Poly.{times}
use Rattle.algebra.specs.Ring.{residues}
use Rattle.algebra.specs.Whole.{residue}
use Rattle.algebra.proofs.Lists.{length-times}
use Rattle.cyclotomic.specs.Cyclotomic.{fold}
use Rattle.cyclotomic.proofs.RingR.{fold_element}
use Rattle.mod_ring.specs.Zq.{modulus_of}
use Rattle.slot_laws.proofs.EncodeSums.{places_start}
use Rattle.slot_laws.proofs.FoldSums.{place_term}
use Rattle.slot_factor.proofs.LazySteps.{place_lazily}
use Rattle.slot_factor.proofs.RowSteps.{zero_mul, step_more, places_whole}
use Rattle.slot_factor.proofs.rows.placed_product.Goals as goal

pub loop-i-init : goal.loop-i-init
loop-i-init c =
    let S = fold c.args.m (map pos c.args.sums.items) in
    record {
      value = places_start (modulus_of c.args.zq.now) c.args.m (omega (arith, c.args.zq.now.in_range)) c.requires.m_low c.args.sums.items S (place_term c.args.m c.args.k (map pos (times (residues (modulus_of c.args.zq.now)) c.args.a.now c.args.b.now))) (fold_element c.args.m (map pos c.args.sums.items)) refl;
      long = c.requires.long;
      room = c.requires.room;
      place = sym (ap (λ z. z % c.args.m) (zero_mul c.args.k) ∙ mod-eq_of_lt c.requires.m_low);
      within = c.requires.m_low;
    }

pub loop-i-preserved : goal.loop-i-preserved
loop-i-preserved c =
    let q = modulus_of c.args.zq.now in
    let at = c.loop-i.place in
    record {
      value = place_lazily q c.args.m (omega (arith, c.args.zq.now.in_range)) c.requires.m_low c.loop-i.sums.items (fold c.args.m (map pos c.args.sums.items)) c.args.k (times (residues (modulus_of c.args.zq.now)) c.args.a.now c.args.b.now) c.loop-i.i at c.add_lazily.result c.terms_at-term.result c.index.result.now 0 c.loop-i.invariant.long (omega (arith, c.loop-i-test.true, length-times (residues q) c.args.a.now c.args.b.now c.requires.a_some c.requires.b_some)) c.loop-i.invariant.place c.loop-i.invariant.within c.index.ensures (subst (λ z. c.add_lazily.result % z ≡ (c.index.result.now + c.terms_at-term.result) % z) c.modulus.ensures c.add_lazily.ensures.value) c.terms_at-term.ensures.value c.loop-i.invariant.value;
      long = length-set c.loop-i.sums.items at c.add_lazily.result ∙ c.loop-i.invariant.long;
      room = All-set (λ v. v < 2 ^ 62) c.loop-i.sums.items at c.add_lazily.result c.add_lazily.ensures.low c.loop-i.invariant.room;
      place = step_more c.args.m c.args.k c.loop-i.i at (c.args.k % c.args.m) c.next_place-place.result c.loop-i.invariant.place refl c.next_place-place.ensures.value;
      within = c.next_place-place.ensures.below;
    }

pub returns-clause-value : goal.returns-clause-value
returns-clause-value c =
    let q = modulus_of c.args.zq.now in
    c.loop-i.invariant.value ∙ ap (map (residue q)) (places_whole q c.args.m c.requires.m_low (fold c.args.m (map pos c.args.sums.items)) c.args.k c.requires.k_low (times (residues (modulus_of c.args.zq.now)) c.args.a.now c.args.b.now) c.loop-i.i _ (omega (arith, c.loop-i-test.false, c.loop-i.auto.i-end, length-times (residues q) c.args.a.now c.args.b.now c.requires.a_some c.requires.b_some)) refl)
