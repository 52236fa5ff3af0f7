use Rattle.std.proofs.Common.{◌+◌, arith, rules}
use Rattle.bluestein.proofs.Ranges.{entries_more}
use Rattle.moduli_table.specs.Chain.{modulus_at}
use Rattle.moduli_table.specs.Accepted.{IsInverse}
use Rattle.double_crt.proofs.BasisSteps.{inverses_are}
use Rattle.double_crt.proofs.makes.inverses_before.Goals as goal

pub loop-i-preserved : goal.loop-i-preserved
loop-i-preserved c = record {
  long = search rules;
  done = entries_more (λ k x. IsInverse (modulus_at c.args.moduli.now (c.args.first + c.args.many)) (modulus_at c.args.moduli.now (c.args.first + k)) x) c.loop-i.list.items c.loop-i.i c.inverse.result (omega arith) c.loop-i.invariant.done c.inverse.ensures;
}

pub returns : goal.returns
returns c = inverses_are c.args.moduli.now c.chain_len.ensures.valid c.args.first c.args.many c.loop-i.list.items c.requires c.loop-i.invariant.long (λ k l. c.loop-i.invariant.done k (omega arith))
