use Rattle.rv_invariant.proofs.Located.{document-exists}
use Rattle.rv_invariant.proofs.laws.documents_exist.Goals as goal

pub returns : goal.returns
returns c = document-exists
