use Rattle.std.proofs.Common.{ℕ, List, true, map, sym, subst}
use Rattle.std.specs.Prelude.{Vec}
use Rattle.std.specs.declared.alloc.Global.{Global}
use Rattle.residue_rows.specs.Rows.{AreRows}
use Rattle.residue_rows.specs.Kept.{moduli_kept}
use Rattle.crt_tests.proofs.values.check_with_values.Goals as goal

pub from_values-requires-clause-rows : goal.from_values-requires-clause-rows
from_values-requires-clause-rows g c =
    let t = c.args.tables.now.value in
    subst (λ (rows : List (Vec ℕ Global)). AreRows t.moduli.m (moduli_kept t 2 true) (map (λ row. row.items) rows)) (sym c.deref.ensures.value) c.in_ok-rows.ensures
