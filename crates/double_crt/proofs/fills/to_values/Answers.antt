use Rattle.std.proofs.Common.{◌≡◌, ℕ, List, get_or, length, arith, ap, ap₂, sym, ◌∙◌}
use Rattle.std.proofs.lemmas.List.{get_or_default}
use Rattle.bluestein.specs.Plan.{Roots}
use Rattle.cyclotomic.specs.Cyclotomic.{degree}
use Rattle.moduli_table.specs.Chain.{no_row}
use Rattle.residue_rows.specs.Values.{values_of}
use Rattle.residue_rows.specs.Kept.{rows_kept, root_of}
use Rattle.double_crt.specs.ModuloRows.{ModuloRow, empty_row}
use Rattle.double_crt.specs.Roots.{point_of}
use Rattle.double_crt.proofs.ListSteps.{written_long, stepped_more, stepped_rest}
use Rattle.double_crt.proofs.HeldSteps.{modulus_or, long_or}
use Rattle.double_crt.proofs.fills.to_values.Goals as goal

pub to_values-requires-clause-modulus : goal.to_values-requires-clause-modulus
to_values-requires-clause-modulus c = ap (λ (r : ModuloRow). r.q) (get_or_default c.loop-i.rows c.loop-i.i c.index-rows-i.result empty_row (omega arith) ∙ c.loop-i.invariant.rest c.loop-i.i (omega arith)) ∙ modulus_or c.args.tables.now c.args.chain_rows c.args.special c.args.rows.now c.requires.held c.loop-i.i (omega arith) ∙ sym (ap (λ (r : Roots). r.q) c.line-line.ensures)

pub to_values-requires-clause-long : goal.to_values-requires-clause-long
to_values-requires-clause-long c = ap (λ (r : ModuloRow). length r.entries) (get_or_default c.loop-i.rows c.loop-i.i c.index-rows-i.result empty_row (omega arith) ∙ c.loop-i.invariant.rest c.loop-i.i (omega arith)) ∙ long_or c.args.tables.now c.args.chain_rows c.args.special c.args.rows.now c.requires.held c.loop-i.i (omega arith) ∙ sym (ap (λ (r : Roots). degree r.m) c.line-line.ensures)

pub loop-i-preserved : goal.loop-i-preserved
loop-i-preserved c = record {
  room = let e : length c.to_values.new.buffer ≡ c.loop-i.buffer.len = omega arith in let r : c.loop-i.buffer.len ≡ c.args.tables.now.moduli.m = omega arith in written_long c.loop-i.buffer.len c.to_values.new.buffer c.loop-i.buffer.items e ∙ r;
  done = stepped_more empty_row turned c.loop-i.rows c.loop-i.i c.to_values.new.self (omega arith) c.loop-i.invariant.done (c.in_ok-to_values.ensures ∙ ap₂ (λ (r : Roots) (row : ModuloRow). made row.q (values_of r.m (point_of r) row.entries)) c.line-line.ensures (get_or_default c.loop-i.rows c.loop-i.i c.index-rows-i.result empty_row (omega arith) ∙ c.loop-i.invariant.rest c.loop-i.i (omega arith)));
  rest = stepped_rest empty_row c.args.rows.now c.loop-i.rows c.loop-i.i c.to_values.new.self c.loop-i.invariant.rest;
}
  where
    made : ℕ → List ℕ → ModuloRow
    made q entries = record { q = q; entries = entries }

    turned : ℕ → ModuloRow
    turned k = made (get_or c.args.rows.now k empty_row).q (values_of c.args.tables.now.moduli.m (root_of (get_or (rows_kept c.args.tables.now c.args.chain_rows c.args.special) k no_row)) (get_or c.args.rows.now k empty_row).entries)
