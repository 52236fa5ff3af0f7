use Rattle.std.proofs.Common.{arith}
use Rattle.he_files.proofs.SecretFiles.{read_is_secret}
use Rattle.he_files.proofs.secrets.read_secret.Goals as goal

pub invariant_of-result : goal.invariant_of-result
invariant_of-result c = record {
  small = (read_is_secret c.args.tables.now.value c.deref.result.now c.deref-2.result.now c.args.bytes.now c.args.from c.n.result c.weight.result c.in_ok-coeffs.coeffs.items c.in_ok-coeffs.end
      c.deref.ensures c.deref-2.ensures c.n.ensures.setting c.n.ensures.value c.weight.ensures.value (λ i. omega (arith, c.type_inv.bytes i)) c.requires c.in_ok-coeffs.ensures.value).small;
}

pub returns-clause-secret : goal.returns-clause-secret
returns-clause-secret c = read_is_secret c.args.tables.now.value c.deref.result.now c.deref-2.result.now c.args.bytes.now c.args.from c.n.result c.weight.result c.in_ok-coeffs.coeffs.items c.in_ok-coeffs.end
    c.deref.ensures c.deref-2.ensures c.n.ensures.setting c.n.ensures.value c.weight.ensures.value (λ i. omega (arith, c.type_inv.bytes i)) c.requires c.in_ok-coeffs.ensures.value
