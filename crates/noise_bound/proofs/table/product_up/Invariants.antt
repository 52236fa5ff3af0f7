use Rattle.std.proofs.Common.{◌≡◌, ◌*◌, ◌≤◌, take}
use Rattle.noise_bound.specs.Machine.{product_up}
use Rattle.noise_bound.specs.Value.{value}
use Rattle.noise_bound.proofs.table.product_up.Given as goal

abbrev pub invariant-loop-q : goal.invariant-loop-q
invariant-loop-q l = (value l.product ≡ product_up (take l.q-index l.moduli)) × (l.product.exp ≤ 64 * l.q-index)
