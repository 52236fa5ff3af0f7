-- What a table of bounds holds.
use Rattle.std.specs.Prelude.{◌≡◌, length, vec_len}
use Rattle.noise_bound.specs.declared.table.BoundTable.TheInside.{Inside}
use Rattle.noise_bound.specs.Machine.{Sizes, IsSizes, fresh, divided, settled, limit, switched}
use Rattle.noise_bound.specs.Value.{IsBoundOf, AreBounds}

-- what a table is made from
abbrev pub sizes_of : Inside → Sizes
sizes_of a = record {
  n = a.n;
  p = a.p;
  weight = a.weight;
  height = a.height;
  chain = a.chain.items;
  special = a.special.items;
  digits = a.digits.items;
}

-- the bounds that are kept are those of these sizes
pub record HoldsBoundsOf (t : Sizes) (a : Inside) : Type 0 where
  pub sizes : IsSizes t
  pub first : IsBoundOf a.first (fresh t)
  pub division : IsBoundOf a.division (divided t)
  pub rest : IsBoundOf a.rest (settled t)
  pub limits_len : vec_len a.limits ≡ length t.chain
  pub limits : AreBounds (limit t) a.limits.items
  pub switches_len : vec_len a.switches ≡ length t.chain
  pub switches : AreBounds (switched t) a.switches.items

abbrev pub IsTable : Inside → Type 0
IsTable a = HoldsBoundsOf (sizes_of a) a
