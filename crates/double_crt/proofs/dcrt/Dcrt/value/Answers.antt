use Rattle.std.proofs.Common.{◌<◌, length, arith, ap, ◌∙◌, subst}
use Rattle.cyclotomic.specs.Cyclotomic.{degree}
use Rattle.residue_rows.specs.Kept.{Residues}
use Rattle.double_crt.proofs.HeldSteps.{row_long}
use Rattle.double_crt.proofs.Operations.{seen_kept, rows_many, value_is, value_modulus}
use Rattle.double_crt.proofs.dcrt.Dcrt.value.Goals as goal

pub index-requires : goal.index-requires
index-requires c = omega (arith, rows_many c.self.inside.tables.value c.self.inside.chain_rows c.self.inside.special c.self.inside.rows.items c.self.invariant, ap (λ (a : Residues). length a.rows) c.self.view_is)

pub word-requires : goal.word-requires
word-requires c = omega (arith, row_long c.self.inside.tables.value c.self.inside.chain_rows c.self.inside.special c.self.inside.rows.items c.self.invariant.held c.args.row c.index.result.now (omega (arith, rows_many c.self.inside.tables.value c.self.inside.chain_rows c.self.inside.special c.self.inside.rows.items c.self.invariant, ap (λ (a : Residues). length a.rows) c.self.view_is)) c.index.ensures, ap (λ (a : Residues). degree a.tables.moduli.m) c.self.view_is, c.requires.unit_in)

pub returns-clause-value : goal.returns-clause-value
returns-clause-value c = c.word.ensures.value ∙ value_is c.self.inside.tables.value c.self.inside.chain_rows c.self.inside.special c.self.inside.rows.items c.self.invariant c.args.self.now c.self.view_is c.args.row c.args.unit c.index.result.now (omega (arith, rows_many c.self.inside.tables.value c.self.inside.chain_rows c.self.inside.special c.self.inside.rows.items c.self.invariant, ap (λ (a : Residues). length a.rows) c.self.view_is)) c.index.ensures

pub returns-clause-below : goal.returns-clause-below
returns-clause-below c = subst (λ q. c.word.result < q) (value_modulus c.self.inside.tables.value c.self.inside.chain_rows c.self.inside.special c.self.inside.rows.items c.self.invariant c.args.self.now c.self.view_is c.args.row c.index.result.now (omega (arith, rows_many c.self.inside.tables.value c.self.inside.chain_rows c.self.inside.special c.self.inside.rows.items c.self.invariant, ap (λ (a : Residues). length a.rows) c.self.view_is)) c.index.ensures) c.word.ensures.below

pub returns-clause-kept : goal.returns-clause-kept
returns-clause-kept c = seen_kept c.self.inside.tables.value c.self.inside.chain_rows c.self.inside.special c.self.inside.rows.items c.args.self.now c.self.view_is c.self.invariant
