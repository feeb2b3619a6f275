use Rattle.rv_rows.proofs.FormValues.{row_told, told_row}
use Rattle.rv_rows.proofs.laws.rows_of_tests.Goals as goal

pub returns : goal.returns
returns c = λ truth f point. (row_told point truth f, told_row point truth f)
