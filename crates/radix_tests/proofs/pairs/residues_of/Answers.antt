use Rattle.std.proofs.Common.{ℕ, length, ap, arith}
use Rattle.radix_tests.proofs.pairs.residues_of.Goals as goal

pub residue_from_digits-requires : goal.residue_from_digits-requires
residue_from_digits-requires c = omega (arith, ap (length {A = ℕ}) c.requires)

pub residue_from_digits-requires-2 : goal.residue_from_digits-requires-2
residue_from_digits-requires-2 c = omega (arith, ap (length {A = ℕ}) c.requires)
