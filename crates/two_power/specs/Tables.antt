-- What contracts see of a `Cyclic`, and what its tables keep.
use Rattle.std.specs.Prelude.{◌≡◌, ◌-◌, ◌^◌, ◌<◌, ◌≤◌, length, get_or}
use Rattle.two_power.specs.Tree.{AreFactors, IsTree, AreInverses}
use Rattle.two_power.specs.Convolution.{Convolver}
use Rattle.two_power.specs.declared.cyclic.Cyclic.TheInside.{Inside}

abbrev pub convolver_of : Inside → Convolver
convolver_of a = record { q = a.q; levels = a.levels; ws = a.ws.items; values = a.values.items }

pub record AreTables (a : Inside) : Type 0 where
  pub above : 2 ≤ a.q
  pub small : a.q < 2 ^ 62
  pub some : 1 ≤ a.levels
  pub size : length a.ws.items ≡ 2 ^ (a.levels - 1)
  pub first : get_or a.ws.items 0 0 ≡ 1
  pub tree : IsTree a.q a.ws.items
  pub inverses : AreInverses a.q a.ws.items a.vs.items
  pub ws_factors : AreFactors a.q a.ws.items a.ws_quotients.items
  pub vs_factors : AreFactors a.q a.vs.items a.vs_quotients.items
  pub values_size : length a.values.items ≡ 2 ^ a.levels
  pub values_factors : AreFactors a.q a.values.items a.values_quotients.items
