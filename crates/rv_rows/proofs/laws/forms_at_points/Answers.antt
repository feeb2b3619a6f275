use Rattle.rv_rows.proofs.FormValues.{constant_value, column_value, sum_value, times_value}
use Rattle.rv_rows.proofs.laws.forms_at_points.Goals as goal

pub returns-clause-constants : goal.returns-clause-constants
returns-clause-constants c = λ width z point. constant_value point width z

pub returns-clause-columns : goal.returns-clause-columns
returns-clause-columns c = λ width k point lt. column_value point width k lt

pub returns-clause-sums : goal.returns-clause-sums
returns-clause-sums c = λ f g point. sum_value point f g

pub returns-clause-multiples : goal.returns-clause-multiples
returns-clause-multiples c = λ by f point. times_value point by f
