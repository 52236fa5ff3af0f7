use Rattle.std.proofs.Common.{◌*◌, ◌/◌, arith}
use Rattle.std.proofs.Math.Nat.{div-add-mod}
use Rattle.algebra.proofs.Units.{unit_of_inverse}
use Rattle.crt_tests.proofs.rings.assert_inverse.Goals as goal

pub returns : goal.returns
returns g c = unit_of_inverse c.args.m c.args.k (c.args.inverse, c.args.k * c.args.inverse / c.args.m, omega (arith, div-add-mod (c.args.k * c.args.inverse) c.args.m))
