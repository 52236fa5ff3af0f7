use Rattle.std.proofs.Common.{subst}
use Rattle.mod_ring.specs.Zq.{modulus_of}
use Rattle.cyclo_poly.specs.Strides.{IsLess}
use Rattle.cyclo_poly.proofs.exact.pass.Goals as goal

pub returns-clause-passed : goal.returns-clause-passed
returns-clause-passed c =
    let q = modulus_of c.args.zq.now in
    let mid = c.lower_all.new.values in (
      mid,
      subst (λ z. IsLess q z c.args.row.now mid) c.deref.ensures.value c.lower_all.ensures.value,
      subst (λ z. IsLess q z c.raise_all.new.values mid) c.deref-2.ensures.value c.raise_all.ensures.value,
    )
