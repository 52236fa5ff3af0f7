use Rattle.line_text.proofs.PieceLemmas.{are_pieces_alone}
use Rattle.line_text.proofs.splitting.law_pieces.Goals as goal

pub returns : goal.returns
returns c = are_pieces_alone
