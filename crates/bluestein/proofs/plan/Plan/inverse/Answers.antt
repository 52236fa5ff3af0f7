use Rattle.std.proofs.Common.{◌≡◌, ◌-◌, ◌*◌, ◌/◌, ◌%◌, ◌^◌, ap, sym, ◌∙◌, subst, arith, length, get_or}
use Rattle.bluestein.specs.Plan.{Roots, Room, AreRoots, IsLeastPower}
use Rattle.bluestein.specs.Chirps.{AreChirps}
use Rattle.bluestein.proofs.Powers.{size_same}
use Rattle.bluestein.proofs.Finish.{inverse_turned}
use Rattle.bluestein.proofs.plan.Plan.inverse.Goals as goal

pub returns-clause-values : goal.returns-clause-values
returns-clause-values c =
    let r = c.args.self.now in
    let inside = c.self.inside in
    let tables = c.self.invariant in
    let room = c.scratch.inside in
    let size = length c.deref_mut.result.now in
    let m_is : inside.count ≡ r.m = ap (λ (r : Roots). r.m) c.self.view_is in
    let room_is : room.count ≡ c.args.scratch.now.m = ap (λ (r : Room). r.m) c.scratch.view_is in
    let count_is : inside.count ≡ room.count = omega (arith, m_is, room_is) in
    let size_is : 2 ^ inside.cyclic.levels ≡ 2 * size = size_same inside.count room.count size inside.cyclic.levels count_is tables.size (subst (λ z. IsLeastPower (2 * room.count - 1) (2 * length z)) (sym c.deref_mut.ensures.value) c.scratch.invariant.lo_size) in
    let scale : (tables.back_scale * (2 * size)) % r.q ≡ r.q - (r.q - 1) / r.m = subst (λ (r : Roots). (tables.back_scale * (2 * size)) % r.q ≡ r.q - (r.q - 1) / r.m) c.self.view_is (ap (λ z. (tables.back_scale * z) % inside.q) (sym size_is) ∙ tables.back_share) in
    let long : length c.transform.new.out ≡ r.m = omega arith in
    inverse_turned r.q r.m r.zeta r.psi (subst (λ (r : Roots). AreRoots r.q r.m r.zeta r.psi) c.self.view_is tables.roots) tables.back_scale (2 * size) c.args.values.now c.transform.new.out c.turn_back.new.row scale c.requires.all c.requires.values_in (omega arith) (c.turn_back.ensures.below r.q c.transform.ensures.below) (λ j l. c.transform.ensures.values tables.back_scale (subst (λ (r : Roots). AreChirps r.q r.zeta tables.back_scale r.m c.deref.result.now) c.self.view_is (subst (AreChirps inside.q inside.zeta tables.back_scale inside.count) (sym c.deref.ensures.value) tables.back)) j l) c.turn_back.ensures.first (λ k p l. c.turn_back.ensures.rest k p (omega (arith, long)) ∙ ap (λ z. get_or c.transform.new.out (z - k) 0) long)
