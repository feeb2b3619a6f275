use Rattle.rv_invariant.proofs.Reporting.{reports-same}
use Rattle.rv_invariant.proofs.laws.reports_are_told.Goals as goal

pub returns : goal.returns
returns c = reports-same
