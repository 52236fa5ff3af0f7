use Rattle.std.proofs.Common.{◌≡◌, ◌+◌, ◌-◌, ◌<◌, ◌≤◌, ◌++◌, List, length, get_or, arith, ap, sym, ◌∙◌, subst}
use Rattle.std.proofs.lemmas.List.{length-append}
use Rattle.moduli_table.specs.declared.rows.ModRow.{ModRow}
use Rattle.moduli_table.specs.Chain.{no_row}
use Rattle.residue_rows.specs.Kept.{RingSetting, rows_kept}
use Rattle.double_crt.specs.Roots.{roots_of_row}
use Rattle.double_crt.specs.Tables.{setting_of}
use Rattle.double_crt.proofs.TableSteps.{first_kept, later_kept, line_is}
use Rattle.double_crt.proofs.tables.RingTables.line.Goals.{then-i-chain_rows, else-i-chain_rows}
use Rattle.double_crt.proofs.tables.RingTables.line.Goals as goal

pub returns : goal.returns
returns c = subst (λ (t : RingSetting). c.index.result.now ≡ roots_of_row t.moduli.m (get_or (rows_kept t c.args.chain_rows c.args.special) c.args.i no_row)) c.self.view_is (elim c.if-i-chain_rows.branch [
  | then-i-chain_rows w ↦ let e = w.place-is in let l = w.if-i-chain_rows.true in at (omega (arith, fits, length-append t.moduli.chain t.moduli.special)) ∙ ap (roots_of_row t.moduli.m) (ap (λ z. get_or rows z no_row) e ∙ sym (first_kept t.moduli.chain t.moduli.special c.args.chain_rows fits c.args.special c.args.i l))
  | else-i-chain_rows w ↦ let e : c.if-i-chain_rows.place ≡ c.args.i - c.args.chain_rows + length t.moduli.chain = w.place-is ∙ ap (λ n. c.args.i - c.args.chain_rows + n) w.chain_len.ensures.value in let later = later_kept t.moduli.chain t.moduli.special c.args.chain_rows fits c.args.special c.args.i w.if-i-chain_rows.false i_in in at (omega (arith, later.0, length-append t.moduli.chain t.moduli.special)) ∙ ap (roots_of_row t.moduli.m) (ap (λ z. get_or rows z no_row) e ∙ sym later.1)
])
  where
    t : RingSetting
    t = setting_of c.self.inside

    rows : List ModRow
    rows = t.moduli.chain ++ t.moduli.special

    fits : c.args.chain_rows ≤ length t.moduli.chain
    fits = subst (λ (t : RingSetting). c.args.chain_rows ≤ length t.moduli.chain) (sym c.self.view_is) c.requires.fits

    i_in : c.args.i < length (rows_kept t c.args.chain_rows c.args.special)
    i_in = subst (λ (t : RingSetting). c.args.i < length (rows_kept t c.args.chain_rows c.args.special)) (sym c.self.view_is) c.requires.i_in

    at : c.if-i-chain_rows.place < length rows → c.index.result.now ≡ roots_of_row t.moduli.m (get_or rows c.if-i-chain_rows.place no_row)
    at l = line_is t.moduli.m c.self.inside.lines.items rows c.if-i-chain_rows.place c.index.result.now c.self.invariant.lines l c.index.ensures
