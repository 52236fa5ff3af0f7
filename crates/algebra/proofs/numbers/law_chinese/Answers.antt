use Rattle.algebra.proofs.Chinese.{same_product, same_each, chinese, chinese_only}
use Rattle.algebra.proofs.numbers.law_chinese.Goals as goal

pub returns : goal.returns
returns c = record { same = λ qs a b m. (same_product qs a b m, same_each qs a b); exists = chinese; only = chinese_only }
