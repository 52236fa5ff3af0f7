use Rattle.std.proofs.Common.{◌≡◌, ◌*◌, ◌%◌, ap, ◌∙◌, arith}
use Rattle.std.proofs.Math.Nat.{mod-mod_of_dvd, dvd-mul_left}
use Rattle.mod_ring.proofs.Wrapped.{min_wrapped}
use Rattle.mod_ring.proofs.lazy.reduce_double.Goals as goal

pub returns-clause-congruent : goal.returns-clause-congruent
returns-clause-congruent c =
    let e : c.min.result ≡ c.args.x % (2 * c.args.q) =
    omega (arith, min_wrapped c.args.x (2 * c.args.q) (omega arith) (omega arith)) in
    ap (λ n. n % c.args.q) e ∙ mod-mod_of_dvd c.args.q c.args.x (dvd-mul_left c.args.q 2)
