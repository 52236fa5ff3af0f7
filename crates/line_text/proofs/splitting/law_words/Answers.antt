use Rattle.line_text.proofs.RoundTrips.{printed_words_are_read}
use Rattle.line_text.proofs.splitting.law_words.Goals as goal

pub returns : goal.returns
returns c = printed_words_are_read
