use Rattle.rv_proofs.proofs.Leasts.{least_good}
use Rattle.rv_proofs.proofs.control.least_closed_claims.Goals as goal

pub returns : goal.returns
returns c = least_good
