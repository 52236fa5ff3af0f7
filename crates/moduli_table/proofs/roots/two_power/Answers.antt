use Rattle.std.proofs.Common.{arith}
use Rattle.moduli_table.proofs.TwoPowers.{only_two_power}
use Rattle.moduli_table.proofs.roots.two_power.Goals as goal

pub returns : goal.returns
returns c =
    let e = c.next_power_of_two.ensures in
    only_two_power c.args.m c.next_power_of_two.result (omega arith) (e.power, e.lower_bound, e.upper_bound)
