-- What the tables keep of one modulus.
use Rattle.std.specs.Prelude.{◌≡◌, ◌≤◌}
use Rattle.mod_ring.specs.Zq.{modulus_of}
use Rattle.residue_rows.specs.ValueLaws.{IsAcceptedRoot}
use Rattle.double_crt.specs.Roots.{point_of}
use Rattle.double_crt.specs.declared.line.Line.TheInside.{Inside}

pub record IsLine (line : Inside) : Type 0 where
  pub modulus : modulus_of line.ring ≡ line.plan.q
  pub accepted : IsAcceptedRoot line.plan.m (point_of line.plan)
  pub few : line.plan.m ≤ 65536
