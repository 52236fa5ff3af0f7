use Rattle.std.proofs.Common.{◌∙◌, ap, subst, map, arith}
use Rattle.residue_rows.specs.Kept.{IsSetting}
use Rattle.he_files.proofs.PolynomialForms.{rows_read, rows_fit, polynomial_read}
use Rattle.he_files.proofs.polynomials.polynomial_at.Goals as goal

pub from_values-requires-clause-rows : goal.from_values-requires-clause-rows
from_values-requires-clause-rows c =
    let t = c.args.tables.now.value in
    let rows = map (λ row. row.items) c.in_ok-rows.rows.items in
    let setting : IsSetting t = subst IsSetting c.deref.ensures c.n.ensures.setting in
    let read = rows_read t c.deref.result.now c.deref-2.result.now c.moduli.result.now c.n.result c.args.count c.args.bytes.now c.args.at rows c.in_ok-rows.end c.deref.ensures c.deref-2.ensures c.n.ensures.value c.moduli.ensures.value c.in_ok-rows.ensures.value in
    let fit = rows_fit t setting c.args.count c.requires.few c.args.bytes.now c.args.at rows c.in_ok-rows.end (λ i. omega (arith, c.type_inv.bytes i)) c.requires.inside read in
    rw c.deref-3.ensures.value fit

pub returns-clause-value : goal.returns-clause-value
returns-clause-value c =
    let t = c.args.tables.now.value in
    let rows = map (λ row. row.items) c.in_ok-rows.rows.items in
    let a = c.in_ok-polynomial.polynomial in
    let read = rows_read t c.deref.result.now c.deref-2.result.now c.moduli.result.now c.n.result c.args.count c.args.bytes.now c.args.at rows c.in_ok-rows.end c.deref.ensures c.deref-2.ensures c.n.ensures.value c.moduli.ensures.value c.in_ok-rows.ensures.value in
    let values = c.in_ok-polynomial.ensures.values ∙ ap (map (λ row. row.items)) c.deref-3.ensures.value in
    polynomial_read t c.args.count c.args.bytes.now c.args.at rows c.in_ok-rows.end a c.in_ok-polynomial.ensures.kept c.in_ok-polynomial.ensures.tables c.in_ok-polynomial.ensures.chain_rows c.in_ok-polynomial.ensures.special values read
