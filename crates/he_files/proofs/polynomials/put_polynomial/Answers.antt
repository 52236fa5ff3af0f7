use Rattle.std.proofs.Common.{◌∙◌, ◌++◌, ◌<◌, ◌≤◌, ℕ, List, [], ap, sym, get_or, length, arith}
use Rattle.residue_rows.specs.Kept.{polynomial_values}
use Rattle.he_files.proofs.RowText.{row_bytes, more_written, all_written, values_long, polynomial_text, rows_of_chain}
use Rattle.he_files.proofs.polynomials.put_polynomial.Goals as goal

pub put_row-requires : goal.put_row-requires
put_row-requires c = omega (arith, c.loop-row-test.true, c.chain_rows-row-end.ensures.value, rows_of_chain c.args.x.now c.chain_rows-row-end.ensures.kept c.requires)

pub loop-row-preserved : goal.loop-row-preserved
loop-row-preserved c =
    let x = c.args.x.now in
    let kept = c.chain_rows-row-end.ensures.kept in
    let lt : c.loop-row.row < length (polynomial_values x) = omega (arith, c.loop-row-test.true, c.chain_rows-row-end.ensures.value, rows_of_chain x kept c.requires, values_long x kept) in
    c.in_ok-put_row.ensures
    ∙ ap (λ (t : List ℕ). t ++ row_bytes (get_or (polynomial_values x) c.loop-row.row [])) c.loop-row.invariant
    ∙ more_written row_bytes c.args.out.now.items (polynomial_values x) c.loop-row.row [] lt

pub returns : goal.returns
returns c =
    let x = c.args.x.now in
    let kept = c.chain_rows-row-end.ensures.kept in
    let le : length (polynomial_values x) ≤ c.loop-row.row = omega (arith, c.loop-row-test.false, c.chain_rows-row-end.ensures.value, rows_of_chain x kept c.requires, values_long x kept) in
    c.loop-row.invariant ∙ all_written row_bytes c.args.out.now.items (polynomial_values x) c.loop-row.row le
    ∙ ap (λ (t : List ℕ). c.args.out.now.items ++ t) (sym (polynomial_text x kept c.requires))
