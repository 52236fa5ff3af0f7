use Rattle.std.proofs.Common.{arith}
use Rattle.transform_tests.proofs.roots.convolution_length.Goals as goal

pub returns : goal.returns
returns c =
    let e = c.next_power_of_two.ensures in
    record { exponent = e.power.0; is_power = e.power.1; enough = e.lower_bound; least = omega (arith, e.upper_bound) }
