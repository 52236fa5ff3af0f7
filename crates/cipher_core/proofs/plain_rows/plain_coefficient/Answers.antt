use Rattle.std.proofs.Common.{◌∙◌, false, length, map, ap}
use Rattle.std.specs.Int.{w64}
use Rattle.std.proofs.lemmas.Int.{to_z-of_z}
use Rattle.mixed_radix.specs.Basis.{Basis}
use Rattle.residue_rows.specs.Kept.{moduli_kept}
use Rattle.cipher_core.proofs.Columns.{items, rows_inside}
use Rattle.cipher_core.proofs.PlainSteps.{column_in, coefficient_is}
use Rattle.cipher_core.proofs.plain_rows.plain_coefficient.Goals as goal

pub read_column-requires-clause-inside : goal.read_column-requires-clause-inside
read_column-requires-clause-inside c =
    let rows = c.args.rows.now in
    rows_inside c.args.tables.now.moduli.m (moduli_kept c.args.tables.now (length rows) false) rows c.args.place c.requires.rows c.requires.place

pub plain_residue-requires-clause-below : goal.plain_residue-requires-clause-below
plain_residue-requires-clause-below c =
    let rows = c.args.rows.now in
    column_in c.args.tables.now c.chain_radix.ensures.setting (length rows) c.requires.few (map items rows) c.requires.rows
    c.args.place c.chain_radix.result.now.moduli c.read_column.new.out c.requires.place (ap (λ (b : Basis). b.moduli) c.chain_radix.ensures.value)
    (c.read_column.auto.out ∙ c.requires.residues) c.read_column.ensures

pub returns : goal.returns
returns c =
    let rows = c.args.rows.now in
    to_z-of_z w64 c.plain_residue.result (record { sfits = c.plain_residue.type_inv })
    ∙ coefficient_is c.args.tables.now c.chain_radix.ensures.setting (length rows) c.requires.few (map items rows) c.requires.rows
    c.args.place c.args.plain.now.q c.plain_residue.result c.chain_radix.result.now.moduli c.read_column.new.out c.requires.place (ap (λ (b : Basis). b.moduli) c.chain_radix.ensures.value)
    (c.read_column.auto.out ∙ c.requires.residues) c.read_column.ensures c.plain_residue.ensures
