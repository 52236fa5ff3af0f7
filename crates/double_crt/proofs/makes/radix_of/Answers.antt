use Rattle.std.proofs.Common.{List, ℕ, ap, ap₂, sym, ◌∙◌, subst, map, Vec, Global}
use Rattle.mixed_radix.specs.Basis.{Basis, IsBasis}
use Rattle.double_crt.proofs.BasisSteps.{basis_is}
use Rattle.double_crt.proofs.makes.radix_of.Goals as goal

pub new-requires : goal.new-requires
new-requires c = subst IsBasis (sym (ap₂ basis (c.deref.ensures.value ∙ c.in_ok-list.ensures) (ap (map (λ (list : Vec ℕ Global). list.items)) c.deref-2.ensures.value ∙ c.in_ok-inverses.ensures))) (basis_is c.args.moduli.now c.chain_len-count.ensures.valid c.args.first c.args.many c.requires)
  where
    basis : List ℕ → List (List ℕ) → Basis
    basis ms es = record { moduli = ms; inverse = es }
