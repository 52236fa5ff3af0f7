use Rattle.std.proofs.Common.{arith}
use Rattle.noise_bound.specs.Machine.{Sizes, fresh, divided}
use Rattle.noise_bound.proofs.TableLaws.{IsTable-of_copies, limits_are, switches_are, settled_is}
use Rattle.noise_bound.proofs.table.BoundTable.new.Goals as goal

pub invariant_of-result : goal.invariant_of-result
unfolding fresh divided
invariant_of-result c =
    let t : Sizes = record {
      n = c.args.n;
      p = c.args.p;
      weight = c.args.weight;
      height = c.args.height;
      chain = c.args.chain.now;
      special = c.args.special.now;
      digits = c.args.digits.now;
    } in
    IsTable-of_copies _ c.args.chain.now c.args.special.now c.args.digits.now
    (c.in_ok-to_vec.ensures.items_if_clones_equal (λ _ _ e. e))
    (c.in_ok-to_vec-2.ensures.items_if_clones_equal (λ _ _ e. e))
    (c.in_ok-to_vec-3.ensures.items_if_clones_equal (λ _ _ e. e))
    (record {
      sizes = c.requires;
      first = record { number = c.fresh_bound.ensures.number; small = omega (arith, c.fresh_bound.ensures.small) };
      division = record { number = c.division_bound-division.ensures.number; small = omega (arith, c.division_bound-division.ensures.small) };
      rest = record {
        number = settled_is t _ _ c.division_bound-division.ensures.number c.plus.ensures.number;
        small = omega (arith, c.division_bound-division.ensures.small, c.plus.ensures.small);
      };
      limits_len = c.in_ok-limits.ensures.len;
      limits = limits_are t c.in_ok-limits.field-0.items c.in_ok-limits.ensures.bounds;
      switches_len = c.in_ok-switches.ensures.len;
      switches = switches_are t _ _ c.in_ok-switches.field-0.items c.key_factor.ensures.number c.product_down.ensures.number c.in_ok-switches.ensures.bounds;
    })
