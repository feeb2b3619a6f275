use Rattle.rv_proofs.proofs.RowTighter.{claim-shows, claim-taken, row_least_good}
use Rattle.rv_proofs.proofs.control.tighter_row_claims.Goals as goal

pub returns-clause-shows : goal.returns-clause-shows
returns-clause-shows c s thresholds x y v r claim below shown = claim-shows s thresholds x y claim below v r shown

pub returns-clause-taken : goal.returns-clause-taken
returns-clause-taken c s thresholds x y v claim below taken = claim-taken s thresholds x y claim below v taken

pub returns-clause-good : goal.returns-clause-good
returns-clause-good c = row_least_good
