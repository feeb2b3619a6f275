use Rattle.rv_invariant.proofs.Fitting.{documents-fit, documents-free}
use Rattle.rv_invariant.proofs.laws.documents_fit.Goals as goal

pub returns : goal.returns
returns c = record { fits = documents-fit; free = documents-free }
