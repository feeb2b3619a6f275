use Rattle.rv_invariant.proofs.Fitting.{documents-written}
use Rattle.rv_invariant.proofs.laws.documents_are_written.Goals as goal

pub returns : goal.returns
returns c = documents-written
