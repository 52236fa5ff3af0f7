-- What contracts see of a scratch, and what its fields keep.
use Rattle.std.specs.Prelude.{◌≡◌, ◌-◌, ◌*◌, length}
use Rattle.bluestein.specs.Plan.{Room, IsLeastPower}
use Rattle.bluestein.specs.declared.plan.Scratch.TheInside.{Inside}

abbrev pub room_of : Inside → Room
room_of scratch = record { q = scratch.q; m = scratch.count }

pub record HasRoom (scratch : Inside) : Type 0 where
  pub lo_size : IsLeastPower (2 * scratch.count - 1) (2 * length scratch.lo.items)
  pub hi_size : length scratch.hi.items ≡ length scratch.lo.items
