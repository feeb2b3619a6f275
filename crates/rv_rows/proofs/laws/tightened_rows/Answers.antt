use Rattle.rv_rows.proofs.{TightLemmas.tight_same, Tightening.some_tightened, Tightening.one_tightened, Tightening.tight_again}
use Rattle.rv_rows.proofs.laws.tightened_rows.Goals as goal

pub returns-clause-some : goal.returns-clause-some
returns-clause-some c = some_tightened

pub returns-clause-one : goal.returns-clause-one
returns-clause-one c = one_tightened

pub returns-clause-same_points : goal.returns-clause-same_points
returns-clause-same_points c = tight_same

pub returns-clause-tight : goal.returns-clause-tight
returns-clause-tight c = tight_again
