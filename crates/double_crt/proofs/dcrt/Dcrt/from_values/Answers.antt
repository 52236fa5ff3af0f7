use Rattle.std.proofs.Common.{ℕ, map, Vec, Global}
use Rattle.double_crt.proofs.Operations.{given_held, given_values, held_kept}
use Rattle.double_crt.proofs.dcrt.Dcrt.from_values.Goals as goal

pub returns-clause-values : goal.returns-clause-values
returns-clause-values c = given_values c.in_ok-clone.field-0.value c.args.chain_rows c.args.special c.in_ok-rows.rows.items (map (λ (row : Vec ℕ Global). row.items) c.args.rows.now) (given_held c.args.tables.now.value c.deref.result.now c.in_ok-clone.field-0.value c.args.chain_rows c.args.special c.deref.ensures c.in_ok-clone.ensures.cases c.in_ok-rows.ensures.setting c.requires.fits c.in_ok-rows.rows.items (map (λ (row : Vec ℕ Global). row.items) c.args.rows.now) c.in_ok-rows.ensures.moduli c.in_ok-rows.ensures.entries c.requires.rows) c.in_ok-rows.ensures.entries

pub returns-clause-kept : goal.returns-clause-kept
returns-clause-kept c = held_kept c.in_ok-clone.field-0.value c.args.chain_rows c.args.special c.in_ok-rows.rows.items (given_held c.args.tables.now.value c.deref.result.now c.in_ok-clone.field-0.value c.args.chain_rows c.args.special c.deref.ensures c.in_ok-clone.ensures.cases c.in_ok-rows.ensures.setting c.requires.fits c.in_ok-rows.rows.items (map (λ (row : Vec ℕ Global). row.items) c.args.rows.now) c.in_ok-rows.ensures.moduli c.in_ok-rows.ensures.entries c.requires.rows)
