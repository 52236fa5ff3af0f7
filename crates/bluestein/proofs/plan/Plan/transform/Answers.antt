use Rattle.std.proofs.Common.{◌≡◌, ◌-◌, ◌*◌, ◌%◌, ◌<◌, ◌^◌, ap, sym, ◌∙◌, subst, arith, length, get_or, All}
use Rattle.bluestein.specs.Plan.{Roots, IsLeastPower}
use Rattle.bluestein.proofs.Powers.{size_same, half_of}
use Rattle.bluestein.proofs.Finish.{transform_at}
use Rattle.bluestein.proofs.plan.Plan.transform.Goals as goal

pub convolve-requires-clause-lo_size : goal.convolve-requires-clause-lo_size
convolve-requires-clause-lo_size c =
    let m_is : c.self.inside.count ≡ c.args.self.now.m = ap (λ (r : Roots). r.m) c.self.view_is in
    let half : length c.args.lo.now ≡ 2 ^ (c.self.inside.cyclic.levels - 1) = half_of c.self.inside.cyclic.levels (length c.args.lo.now) (size_same c.self.inside.count c.args.self.now.m (length c.args.lo.now) c.self.inside.cyclic.levels m_is c.self.invariant.size c.requires.lo_size) in
    omega (arith, half)

pub convolve-requires-clause-hi_size : goal.convolve-requires-clause-hi_size
convolve-requires-clause-hi_size c =
    let m_is : c.self.inside.count ≡ c.args.self.now.m = ap (λ (r : Roots). r.m) c.self.view_is in
    c.requires.hi_size ∙ half_of c.self.inside.cyclic.levels (length c.args.lo.now) (size_same c.self.inside.count c.args.self.now.m (length c.args.lo.now) c.self.inside.cyclic.levels m_is c.self.invariant.size c.requires.lo_size)

pub returns-clause-values : goal.returns-clause-values
returns-clause-values c =
    let inside = c.self.inside in
    let coeffs = c.args.coeffs.now in
    let size = length c.args.lo.now in
    let m_is : inside.count ≡ c.args.self.now.m = ap (λ (r : Roots). r.m) c.self.view_is in
    rw (← c.self.view_is) (transform_at inside c.self.invariant size (subst (λ (r : Roots). IsLeastPower (2 * r.m - 1) (2 * size)) (sym c.self.view_is) c.requires.lo_size) coeffs c.start.new.row c.convolve.new.lo c.convolve.new.hi c.args.factors.now c.finish.new.out (omega (arith, m_is)) (subst (λ (r : Roots). All (λ a. a < r.q) coeffs) (sym c.self.view_is) c.requires.coeffs_in) (omega arith) (λ i l. c.start.ensures.values i l ∙ ap (λ z. (get_or z i 0 * get_or coeffs i 0) % inside.q) c.deref.ensures.value) c.start.ensures.zeros c.convolve.ensures.value (λ j l. c.finish.ensures.values j (omega (arith, m_is))))
