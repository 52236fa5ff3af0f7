use Rattle.line_text.proofs.FileTexts.{file_text_is_injective}
use Rattle.line_text.proofs.kinds.law_file_text.Goals as goal

pub returns : goal.returns
returns c = file_text_is_injective
