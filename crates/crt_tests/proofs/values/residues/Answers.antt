use Rattle.std.proofs.Common.{◌≡◌, true, map, sym, subst}
use Rattle.std.specs.Prelude.{Vec}
use Rattle.std.proofs.lemmas.Result.{IfOk-weaker}
use Rattle.residue_rows.specs.Rows.{AreRows}
use Rattle.residue_rows.specs.Kept.{moduli_kept}
use Rattle.crt_tests.proofs.Modulo.{rows_in}
use Rattle.crt_tests.proofs.values.residues.Goals as goal

pub returns : goal.returns
returns g c =
    let t = c.args.tables.now.value in
    let a = c.in_ok-a.a in
    let are = rows_in t a c.to_residues.ensures.kept c.in_ok-a.ensures.tables c.in_ok-a.ensures.chain_rows c.in_ok-a.ensures.special in
    IfOk-weaker c.to_residues.result (λ v. map (λ row. row.items) v.items ≡ a.rows) (λ v. AreRows t.moduli.m (moduli_kept t 2 true) (map (λ row. row.items) v.items)) (λ v h. subst (AreRows t.moduli.m (moduli_kept t 2 true)) (sym h) are) c.to_residues.ensures.value
