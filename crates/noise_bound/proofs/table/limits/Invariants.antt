use Rattle.std.proofs.Common.{◌≡◌, suc, ◌*◌, ◌≤◌, take, vec_len}
use Rattle.noise_bound.specs.Machine.{product_down}
use Rattle.noise_bound.specs.Rounding.{half_over}
use Rattle.noise_bound.specs.Value.{value, AreBounds}
use Rattle.noise_bound.proofs.table.limits.Given as goal

abbrev pub invariant-loop-q : goal.invariant-loop-q
invariant-loop-q l =
    (value l.product ≡ product_down (take l.q-index l.chain))
    × (l.product.exp ≤ 64 * l.q-index)
    × (vec_len l.limits ≡ l.q-index)
    × AreBounds (λ level. half_over (product_down (take (suc level) l.chain)) l.height) l.limits.items
