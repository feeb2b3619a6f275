use Rattle.rv_rows.specs.Arithmetic.{test_row}
use Rattle.rv_agreement.specs.Valuations.{tested_form}
use Rattle.rv_agreement.proofs.laws.rows_of_valuations.Goals as goal

pub returns-clause-some : goal.returns-clause-some
returns-clause-some c = λ columns test t side present.
    let tight = c.tightened_rows.ensures.some (test_row (test t.at side) (tested_form columns test t side)) in (tight.0, (present, tight.1))

pub returns-clause-one : goal.returns-clause-one
returns-clause-one c = λ columns test t side a b one other. c.tightened_rows.ensures.one (test_row (test t.at side) (tested_form columns test t side)) a b one.1
    other.1

pub returns-clause-tight : goal.returns-clause-tight
returns-clause-tight c = λ columns test t side r is. c.tightened_rows.ensures.tight (test_row (test t.at side) (tested_form columns test t side)) r is.1

pub returns-clause-present : goal.returns-clause-present
returns-clause-present c = λ columns test t side r is. is.0
