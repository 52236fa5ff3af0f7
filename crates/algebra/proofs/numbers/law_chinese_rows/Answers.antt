use Rattle.algebra.proofs.ChineseRows.{rows_product, rows_each, chinese_rows}
use Rattle.algebra.proofs.numbers.law_chinese_rows.Goals as goal

pub returns : goal.returns
returns c = record { same = λ qs f g l m h. (rows_product qs f g l m h, rows_each qs f g l h); exists = chinese_rows }
