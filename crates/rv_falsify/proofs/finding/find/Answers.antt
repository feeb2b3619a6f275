use Rattle.std.proofs.Common.{true≢false, sym, ◌∙◌}
use Rattle.rv_falsify.proofs.finding.find.Goals as goal

pub find_back-requires-clause-columns : goal.find_back-requires-clause-columns
find_back-requires-clause-columns c = c.has_no_columns.ensures.0 c.if-has_no_columns.true

pub returns-then-has_no_columns-clause-shortest : goal.returns-then-has_no_columns-clause-shortest
returns-then-has_no_columns-clause-shortest c = λ t thresholds none bad is. c.find_back.ensures.shortest t thresholds bad is

pub returns-then-has_no_columns-clause-exactly : goal.returns-then-has_no_columns-clause-exactly
returns-then-has_no_columns-clause-exactly c = λ thresholds none bad. c.find_back.ensures.exactly thresholds bad

pub returns-then-has_no_columns-clause-found : goal.returns-then-has_no_columns-clause-found
returns-then-has_no_columns-clause-found c = λ thresholds none bad. c.find_back.ensures.found thresholds bad

pub returns-clause-shortest : goal.returns-clause-shortest
returns-clause-shortest c = λ t thresholds none. absurd (true≢false (sym (c.has_no_columns.ensures.1 none) ∙ c.if-has_no_columns.false))

pub returns-clause-exactly : goal.returns-clause-exactly
returns-clause-exactly c = λ thresholds none. absurd (true≢false (sym (c.has_no_columns.ensures.1 none) ∙ c.if-has_no_columns.false))

pub returns-clause-found : goal.returns-clause-found
returns-clause-found c = λ thresholds none. absurd (true≢false (sym (c.has_no_columns.ensures.1 none) ∙ c.if-has_no_columns.false))
