use Rattle.rv_proofs.proofs.CaseRows.{case_rows, one_case}
use Rattle.rv_proofs.proofs.control.rows_of_cases.Goals as goal

pub returns-clause-rows : goal.returns-clause-rows
returns-clause-rows c s case v h inside = case_rows s case v h inside

pub returns-clause-one : goal.returns-clause-one
returns-clause-one c = one_case
