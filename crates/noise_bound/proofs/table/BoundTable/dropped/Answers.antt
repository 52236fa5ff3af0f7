use Rattle.std.proofs.Common.{◌≡◌, ◌<◌, length, subst, sym, arith}
use Rattle.std.proofs.Math.Nat.{mod-le}
use Rattle.noise_bound.specs.Machine.{Sizes, IsModulus, dropped}
use Rattle.noise_bound.specs.Value.{value}
use Rattle.noise_bound.proofs.TableLaws.{dropped_is, exp_of_over}
use Rattle.noise_bound.proofs.table.BoundTable.dropped.Goals as goal

pub plus-requires-clause-self_small : goal.plus-requires-clause-self_small
plus-requires-clause-self_small c =
    let q = c.index-modulus.result.now in
    let in_range = subst (λ (t : Sizes). c.args.level < length t.chain) (sym c.self.view_is) c.requires.in_range in
    let modulus = subst IsModulus (sym c.index-modulus.ensures) (c.self.invariant.sizes.chain_moduli c.args.level q in_range) in
    omega (arith, exp_of_over c.over.result c.args.b c.min.result q c.over.ensures.number (omega (arith, modulus.0)) (omega (arith, c.min.ensures, mod-le q c.self.inside.p)))

pub returns-clause-number : goal.returns-clause-number
returns-clause-number c =
    let in_range = subst (λ (t : Sizes). c.args.level < length t.chain) (sym c.self.view_is) c.requires.in_range in
    subst (λ (t : Sizes). value c.plus.result ≡ dropped t c.args.level (value c.args.b)) c.self.view_is
    (dropped_is _ c.args.level (value c.args.b) c.index-modulus.result.now c.min.result (value c.over.result) (value c.self.inside.division) _
    in_range c.index-modulus.ensures (omega (arith, c.self.invariant.sizes.p_some)) c.min.ensures c.over.ensures.number c.self.invariant.division.number c.plus.ensures.number)

pub returns-clause-small : goal.returns-clause-small
returns-clause-small c =
    let q = c.index-modulus.result.now in
    let in_range = subst (λ (t : Sizes). c.args.level < length t.chain) (sym c.self.view_is) c.requires.in_range in
    let modulus = subst IsModulus (sym c.index-modulus.ensures) (c.self.invariant.sizes.chain_moduli c.args.level q in_range) in
    let over_small = exp_of_over c.over.result c.args.b c.min.result q c.over.ensures.number (omega (arith, modulus.0)) (omega (arith, c.min.ensures, mod-le q c.self.inside.p)) in
    omega (arith, over_small, c.plus.ensures.small, c.self.invariant.division.small)
