use Rattle.draw_stream.proofs.Choices.{sparse_is_sparse}
use Rattle.draw_stream.proofs.law_sparse.Goals as goal

pub returns : goal.returns
returns c = sparse_is_sparse
