use Rattle.line_text.proofs.RoundTrips.{printed_lines_are_read}
use Rattle.line_text.proofs.splitting.law_lines.Goals as goal

pub returns : goal.returns
returns c = printed_lines_are_read
