use Rattle.rv_proofs.proofs.Claiming.{ten_claimed, ten_closed, ten_good, undecided_left}
use Rattle.rv_proofs.proofs.SampleSystems.{counting_system, paired_system, rising_system}
use Rattle.rv_proofs.proofs.RowClaiming.{equal_claimed, equal_closed, equal_good}
use Rattle.rv_proofs.proofs.laws.claims_are_met.Goals as goal

pub returns-clause-box_claim : goal.returns-clause-box_claim
returns-clause-box_claim c = (ten_claimed, ten_closed, ten_good)

pub returns-clause-row_claim : goal.returns-clause-row_claim
returns-clause-row_claim c = (equal_claimed, equal_closed, equal_good)

pub returns-clause-left : goal.returns-clause-left
returns-clause-left c = undecided_left

pub returns-clause-system : goal.returns-clause-system
returns-clause-system c = (counting_system, paired_system, rising_system)
