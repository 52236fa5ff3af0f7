use Rattle.std.proofs.Common.{◌<◌, ◌≤◌, ap, ap₂, All, sum, sym, ◌∙◌, subst}
use Rattle.algebra.specs.Divisor.{units}
use Rattle.cyclotomic.specs.Cyclotomic.{degree}
use Rattle.residue_rows.specs.Kept.{RingSetting, IsSetting}
use Rattle.double_crt.specs.Bases.{basis_from}
use Rattle.double_crt.specs.Places.{ArePlaces}
use Rattle.double_crt.proofs.TableSteps.{chain_basis_is, special_basis_is}
use Rattle.double_crt.proofs.tables.RingTables.new.Goals as goal

pub invariant_of-result : goal.invariant_of-result
invariant_of-result c = record {
  setting = setting;
  same_m = c.requires.same_m;
  same_p = c.requires.same_p;
  units = c.in_ok-unit_list.ensures ∙ ap units c.m-m.ensures.value;
  places = subst (λ m. ArePlaces m c.in_ok-places.places.items) c.m-m.ensures.value c.in_ok-places.ensures;
  lines = c.in_ok-lines.ensures;
  chain = c.in_ok-chain_radix.ensures.value ∙ ap (basis_from c.args.moduli 0) c.chain_len-chain_len.ensures.value ∙ chain_basis_is t setting.accepted.shaped;
  chain_is = c.in_ok-chain_radix.ensures.basis;
  special = c.in_ok-special_radix.ensures.value ∙ ap₂ (basis_from c.args.moduli) c.chain_len-chain_len.ensures.value c.special_len-special_len.ensures.value ∙ special_basis_is t setting.accepted.shaped;
  special_is = c.in_ok-special_radix.ensures.basis;
}
  where
    t : RingSetting
    t = record { moduli = c.args.moduli; weight = c.args.weight; digits = c.in_ok-groups.groups.items }

    setting : IsSetting t
    setting = record {
      accepted = c.m-m.ensures.valid;
      weight_some = c.requires.weight_some;
      weight_most = subst (λ m. c.args.weight ≤ degree m) c.requires.same_m c.requires.weight_most;
      digits_some = subst (All (λ d. 0 < d)) (sym c.in_ok-groups.ensures.items) c.requires.digits_some;
      digits_sum = ap sum c.in_ok-groups.ensures.items ∙ c.requires.digits_sum;
    }
