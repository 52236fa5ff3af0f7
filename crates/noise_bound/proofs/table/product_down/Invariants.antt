use Rattle.std.proofs.Common.{◌≡◌, ◌*◌, ◌≤◌, ◌<◌, take}
use Rattle.noise_bound.specs.Machine.{product_down}
use Rattle.noise_bound.specs.Value.{value}
use Rattle.noise_bound.proofs.table.product_down.Given as goal

abbrev pub invariant-loop-q : goal.invariant-loop-q
invariant-loop-q l =
    (value l.product ≡ product_down (take l.q-index l.moduli)) × (l.product.exp ≤ 64 * l.q-index) × (0 < value l.product)
