-- The roots of each case, with the inverses that the test at the divisors asks for.
use Rattle.std.proofs.Common.{[], ◌∷◌, refl, arith, lit<, lit≤}
use Rattle.transform_tests.proofs.Checked.{root_by}
use Rattle.transform_tests.proofs.pairs.values_of_x.Goals as goal

pub new-requires : goal.new-requires
new-requires g c = record {
  some = omega arith;
  few = omega arith;
  odd = refl;
  above = omega arith;
  small = lit< tt;
  zeta_in = lit< tt;
  psi_in = lit< tt;
  one_more = refl;
  zeta_order = refl;
  is_root = root_by 113 49 7 (0 ∷ 73 ∷ []) refl refl refl;
  size = 16;
  is_size = record { exponent = 4; is_power = refl; enough = lit≤ tt; least = lit< tt };
  psi_half = refl;
}
