-- What contracts see of a plan, and what its fields keep.
use Rattle.std.specs.Prelude.{◌≡◌, ℕ, ◌-◌, ◌*◌, ◌/◌, ◌%◌, ◌^◌, List}
use Rattle.two_power.specs.Tree.{AreFactors}
use Rattle.two_power.specs.Convolution.{HasRow}
use Rattle.bluestein.specs.Plan.{Roots, AreRoots, IsLeastPower}
use Rattle.bluestein.specs.Chirps.{AreChirps, IsMirrored}
use Rattle.bluestein.specs.declared.plan.Plan.TheInside.{Inside}

abbrev pub roots_of : Inside → Roots
roots_of plan = record { q = plan.q; m = plan.count; zeta = plan.zeta; psi = plan.psi }

pub record HasTables (plan : Inside) : Type 0 where
  pub roots : AreRoots plan.q plan.count plan.zeta plan.psi
  pub modulus : plan.cyclic.q ≡ plan.q
  pub size : IsLeastPower (2 * plan.count - 1) (2 ^ plan.cyclic.levels)
  -- the row of the convolution, from the inverse of zeta
  pub inverse_zeta : ℕ
  pub zeta_one : (plan.zeta * inverse_zeta) % plan.q ≡ 1
  pub row : List ℕ
  pub has_row : HasRow plan.cyclic row
  pub is_mirrored : IsMirrored plan.q inverse_zeta plan.count row
  -- the factors before and after it
  pub before : AreChirps plan.q plan.zeta 1 plan.count plan.chirps.items
  pub before_factors : AreFactors plan.q plan.chirps.items plan.chirp_quotients.items
  pub forth_scale : ℕ
  pub forth_one : (forth_scale * 2 ^ plan.cyclic.levels) % plan.q ≡ 1
  pub forth : AreChirps plan.q plan.zeta forth_scale plan.count plan.forth.items
  pub forth_factors : AreFactors plan.q plan.forth.items plan.forth_quotients.items
  pub back_scale : ℕ
  pub back_share : (back_scale * 2 ^ plan.cyclic.levels) % plan.q ≡ plan.q - (plan.q - 1) / plan.count
  pub back : AreChirps plan.q plan.zeta back_scale plan.count plan.back.items
  pub back_factors : AreFactors plan.q plan.back.items plan.back_quotients.items
