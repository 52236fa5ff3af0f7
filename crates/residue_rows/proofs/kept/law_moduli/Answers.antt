use Rattle.residue_rows.proofs.ModuliKept.{moduli_are}
use Rattle.residue_rows.proofs.kept.law_moduli.Goals as goal

pub returns : goal.returns
returns c t chain_rows special S fits = moduli_are t S chain_rows special fits
