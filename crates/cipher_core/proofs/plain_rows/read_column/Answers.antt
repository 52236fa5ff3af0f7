use Rattle.std.proofs.Common.{◌<◌, ◌≢◌, ◌∙◌, sym, arith, length, below_more, get_or-set_other, get_or-set_same}
use Rattle.std.proofs.lemmas.Grind.{same_number_lists}
use Rattle.cipher_core.proofs.Columns.{column, column_at, length-column}
use Rattle.cipher_core.proofs.plain_rows.read_column.Goals as goal

pub loop-j-preserved : goal.loop-j-preserved
loop-j-preserved c =
    let inside : c.loop-j.j < length c.loop-j.out = omega arith in
    below_more _ _
    (λ k h. let ne : k ≢ c.loop-j.j = omega arith in rw get_or-set_other (c.loop-j.invariant k h))
    (rw get_or-set_same
    (column_at c.args.rows.now c.args.place c.loop-j.j c.index.result.now c.index-rows-j.result c.loop-j-test.true c.index-rows-j.is (c.requires.inside c.loop-j.j c.index-rows-j.result c.loop-j-test.true) c.index.ensures))

pub returns : goal.returns
returns c =
    let rows = c.args.rows.now in
    same_number_lists c.loop-j.out (column c.args.place rows) (c.loop-j.auto.out ∙ c.requires.same ∙ sym (length-column c.args.place rows)) (λ k h. c.loop-j.invariant k (omega (arith, h)))
