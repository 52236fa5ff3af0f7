use Rattle.std.proofs.Common.{◌≡◌, ◌-◌, ◌*◌, ◌%◌, ◌^◌, ap, sym, ◌∙◌, subst, arith, length}
use Rattle.bluestein.specs.Plan.{Roots, Room, IsLeastPower}
use Rattle.bluestein.specs.Chirps.{AreChirps}
use Rattle.bluestein.proofs.Powers.{size_same}
use Rattle.bluestein.proofs.Finish.{forward_made}
use Rattle.bluestein.proofs.plan.Plan.forward.Goals as goal

pub returns-clause-values : goal.returns-clause-values
returns-clause-values c =
    let r = c.args.self.now in
    let inside = c.self.inside in
    let tables = c.self.invariant in
    let room = c.scratch.inside in
    let size = length c.deref_mut.result.now in
    let q_is : inside.q ≡ r.q = ap (λ (r : Roots). r.q) c.self.view_is in
    let m_is : inside.count ≡ r.m = ap (λ (r : Roots). r.m) c.self.view_is in
    let room_is : room.count ≡ c.args.scratch.now.m = ap (λ (r : Room). r.m) c.scratch.view_is in
    let count_is : inside.count ≡ room.count = omega (arith, m_is, room_is) in
    let size_is : 2 ^ inside.cyclic.levels ≡ 2 * size = size_same inside.count room.count size inside.cyclic.levels count_is tables.size (subst (λ z. IsLeastPower (2 * room.count - 1) (2 * length z)) (sym c.deref_mut.ensures.value) c.scratch.invariant.lo_size) in
    let one : (tables.forth_scale * (2 * size)) % r.q ≡ 1 = subst (λ (r : Roots). (tables.forth_scale * (2 * size)) % r.q ≡ 1) c.self.view_is (ap (λ z. (tables.forth_scale * z) % inside.q) (sym size_is) ∙ tables.forth_one) in
    forward_made r (omega (arith, q_is, tables.roots.above)) tables.forth_scale (2 * size) c.args.coeffs.now c.transform.new.out one (omega arith) (λ j l. c.transform.ensures.values tables.forth_scale (subst (λ (r : Roots). AreChirps r.q r.zeta tables.forth_scale r.m c.deref.result.now) c.self.view_is (subst (AreChirps inside.q inside.zeta tables.forth_scale inside.count) (sym c.deref.ensures.value) tables.forth)) j l)
