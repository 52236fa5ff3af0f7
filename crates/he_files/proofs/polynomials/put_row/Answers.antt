use Rattle.std.proofs.Common.{◌≡◌, ◌∙◌, ◌++◌, ◌<◌, ◌≤◌, ℕ, List, [], ap, get_or, length, take, arith}
use Rattle.std.specs.Int.{w64}
use Rattle.std.specs.List.{flat_map}
use Rattle.cyclotomic.specs.Cyclotomic.{degree}
use Rattle.residue_rows.specs.Kept.{RingSetting, polynomial_values}
use Rattle.he_files.specs.Form.{number_bytes}
use Rattle.he_files.proofs.RowText.{more_written, all_written, value_row_long}
use Rattle.he_files.proofs.polynomials.put_row.Goals as goal

pub loop-unit-preserved : goal.loop-unit-preserved
loop-unit-preserved c =
    let x = c.args.x.now in
    let row = get_or (polynomial_values x) c.args.row [] in
    let n-is : c.n-unit-end.result ≡ degree x.tables.moduli.m = c.n-unit-end.ensures.value ∙ ap (λ (t : RingSetting). degree t.moduli.m) (c.deref.ensures ∙ c.tables.ensures.value) in
    let lt : c.loop-unit.unit < length row = omega (arith, n-is, value_row_long x c.tables.ensures.kept c.args.row c.requires) in
    c.in_ok-put_u64.ensures
    ∙ ap (λ (t : List ℕ). t ++ number_bytes w64 c.value.result) c.loop-unit.invariant
    ∙ ap (λ (v : ℕ). (c.args.out.now.items ++ flat_map (number_bytes w64) (take c.loop-unit.unit row)) ++ number_bytes w64 v) c.value.ensures.value
    ∙ more_written (number_bytes w64) c.args.out.now.items row c.loop-unit.unit 0 lt

pub returns : goal.returns
returns c =
    let x = c.args.x.now in
    let row = get_or (polynomial_values x) c.args.row [] in
    let n-is : c.n-unit-end.result ≡ degree x.tables.moduli.m = c.n-unit-end.ensures.value ∙ ap (λ (t : RingSetting). degree t.moduli.m) (c.deref.ensures ∙ c.tables.ensures.value) in
    let le : length row ≤ c.loop-unit.unit = omega (arith, n-is, c.loop-unit-test.false, value_row_long x c.tables.ensures.kept c.args.row c.requires) in
    c.loop-unit.invariant ∙ all_written (number_bytes w64) c.args.out.now.items row c.loop-unit.unit le
