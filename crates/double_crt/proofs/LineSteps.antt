-- The roots of an accepted row are those of a plan.
use Rattle.std.proofs.Common.{ℕ, ◌-◌, ◌*◌, ◌/◌, ◌<◌, ◌≤◌, max, arith, div-add-mod'}
use Rattle.bluestein.specs.Plan.{AreRoots}
use Rattle.moduli_table.specs.declared.rows.ModRow.{ModRow}
use Rattle.moduli_table.specs.Checks.{two_power}
use Rattle.moduli_table.specs.Accepted.{IsAcceptedRow}
use Rattle.moduli_table.proofs.Omega.{held_root}
use Rattle.moduli_table.proofs.TwoPowers.{two_power_next}
use Rattle.residue_rows.specs.ValueLaws.{IsAcceptedRoot}
use Rattle.double_crt.specs.Roots.{roots_of_row, point_of}

least : (n p : ℕ) → 1 ≤ n → p / 2 < max 1 n → p < 2 * n
least n p l h = omega (arith, div-add-mod' p 2)

pub plan_roots : (m : ℕ) (r : ModRow) → 3 ≤ m → m ≤ 65536 → IsAcceptedRow m r → AreRoots r.q m r.zeta r.psi
plan_roots m r low high A = record {
  some = low;
  few = high;
  odd = A.odd;
  above = A.low;
  small = A.high;
  zeta_in = A.zeta_in;
  psi_in = A.psi_in;
  one_more = A.residue;
  zeta_order = A.half_root;
  is_root = held_root m r low A;
  size = two_power m;
  is_size =
      let next = two_power_next m (omega arith) in
      record { exponent = next.0.0; is_power = next.0.1; enough = next.1; least = least (2 * m - 1) (two_power m) (omega arith) next.2 };
  psi_half = A.two_root;
}

pub accepted_point : (m : ℕ) (r : ModRow) → 3 ≤ m → IsAcceptedRow m r → IsAcceptedRoot m (point_of (roots_of_row m r))
accepted_point m r low A = record { some = low; above = A.low; one_more = A.residue; is_root = held_root m r low A }
