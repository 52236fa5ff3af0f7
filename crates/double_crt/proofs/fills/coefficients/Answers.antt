use Rattle.std.proofs.Common.{◌≡◌, ◌<◌, ℕ, Bool, [], get_or, length, map, arith, ap, sym, ◌∙◌, Vec, Global}
use Rattle.bluestein.specs.Plan.{Roots}
use Rattle.cyclotomic.specs.Cyclotomic.{degree}
use Rattle.moduli_table.specs.Chain.{no_row}
use Rattle.residue_rows.specs.Values.{interpolated}
use Rattle.residue_rows.specs.Kept.{RingSetting, rows_kept, root_of, interpolated_each}
use Rattle.double_crt.specs.Held.{entries_in}
use Rattle.double_crt.specs.Roots.{point_of}
use Rattle.double_crt.proofs.ListSteps.{written_long}
use Rattle.double_crt.proofs.HeldSteps.{pushed, all_taken, row_modulus, row_long, entry_is, rows_long, entries_long, interpolated_at, interpolated_long}
use Rattle.double_crt.proofs.fills.coefficients.Goals as goal

pub coefficients-requires-clause-modulus : goal.coefficients-requires-clause-modulus
coefficients-requires-clause-modulus c = row_modulus c.args.tables.now c.args.chain_rows c.args.special c.args.rows.now c.requires.held c.loop-i.i c.index-rows-i.result (omega arith) c.index-rows-i.is ∙ sym (ap (λ (r : Roots). r.q) c.line-line.ensures)

pub coefficients-requires-clause-long : goal.coefficients-requires-clause-long
coefficients-requires-clause-long c = row_long c.args.tables.now c.args.chain_rows c.args.special c.args.rows.now c.requires.held c.loop-i.i c.index-rows-i.result (omega arith) c.index-rows-i.is ∙ sym (ap (λ (r : Roots). degree r.m) c.line-line.ensures)

pub loop-i-preserved : goal.loop-i-preserved
loop-i-preserved c = record {
  values_room = let e : length c.coefficients.new.values ≡ c.loop-i.values.len = omega arith in let r : c.loop-i.values.len ≡ c.args.tables.now.moduli.m = omega arith in written_long c.loop-i.values.len c.coefficients.new.values c.loop-i.values.items e ∙ r;
  coeffs_room = let e : length c.coefficients.new.coeffs ≡ c.loop-i.coeffs.len = omega arith in let r : c.loop-i.coeffs.len ≡ c.args.tables.now.moduli.m = omega arith in written_long c.loop-i.coeffs.len c.coefficients.new.coeffs c.loop-i.coeffs.items e ∙ r;
  done = pushed (λ (list : Vec ℕ Global). list.items) c.loop-i.lists.items c.push.new.self.items c.in_ok-coefficients.field-0 (interpolated_each t.moduli.m (rows_kept t n b) (entries_in c.args.rows.now)) c.loop-i.i [] c.in_ok-push.ensures.items c.loop-i.invariant.done (omega (arith, within, interpolated_long t.moduli.m (rows_kept t n b) (entries_in c.args.rows.now) long)) (c.in_ok-coefficients.ensures ∙ ap (λ (r : Roots). interpolated r.m (point_of r) c.index-rows-i.result.entries) c.line-line.ensures ∙ ap (interpolated t.moduli.m (root_of (get_or (rows_kept t n b) c.loop-i.i no_row))) (sym (entry_is t n b c.args.rows.now c.requires.held c.loop-i.i c.index-rows-i.result (omega arith) c.index-rows-i.is)) ∙ sym (interpolated_at t.moduli.m (rows_kept t n b) (entries_in c.args.rows.now) c.loop-i.i long within));
}
  where
    t : RingSetting
    t = c.args.tables.now

    n : ℕ
    n = c.args.chain_rows

    b : Bool
    b = c.args.special

    long : length (entries_in c.args.rows.now) ≡ length (rows_kept t n b)
    long = entries_long t n b c.args.rows.now c.requires.held

    within : c.loop-i.i < length (rows_kept t n b)
    within = omega (arith, rows_long t n b c.args.rows.now c.requires.held)

pub returns : goal.returns
returns c = all_taken (interpolated_each c.args.tables.now.moduli.m (rows_kept c.args.tables.now c.args.chain_rows c.args.special) (entries_in c.args.rows.now)) (map (λ (list : Vec ℕ Global). list.items) c.loop-i.lists.items) c.loop-i.i c.loop-i.invariant.done (omega (arith, rows_long c.args.tables.now c.args.chain_rows c.args.special c.args.rows.now c.requires.held, interpolated_long c.args.tables.now.moduli.m (rows_kept c.args.tables.now c.args.chain_rows c.args.special) (entries_in c.args.rows.now) (entries_long c.args.tables.now c.args.chain_rows c.args.special c.args.rows.now c.requires.held)))
