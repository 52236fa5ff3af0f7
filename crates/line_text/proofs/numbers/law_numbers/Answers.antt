use Rattle.line_text.proofs.NumberLemmas.{number_is_read}
use Rattle.line_text.proofs.numbers.law_numbers.Goals as goal

pub returns : goal.returns
returns c = number_is_read
