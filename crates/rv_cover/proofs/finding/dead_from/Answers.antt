use Rattle.std.proofs.Common.{arith, ap, length, ◌+◌}
use Rattle.rv_cover.proofs.Rowing.{premises_few, searched_narrow, dead_found}
use Rattle.rv_cover.proofs.finding.dead_from.Goals as goal

pub told_rows-requires-clause-answers : goal.told_rows-requires-clause-answers
told_rows-requires-clause-answers c = let (s, is) = c.requires.searched in let ask = is.questions in ask.answers

pub least_refutation-requires-clause-few : goal.least_refutation-requires-clause-few
least_refutation-requires-clause-few c =
    let (s, is) = c.requires.searched in
    let few = premises_few s c.args.store.now c.args.questions.now c.args.frame.now c.args.given.now is in
    let size = c.in_ok-told.ensures in
    omega (arith, few, size)

pub least_refutation-requires-clause-narrow : goal.least_refutation-requires-clause-narrow
least_refutation-requires-clause-narrow c =
    let (s, is) = c.requires.searched in searched_narrow s c.args.store.now c.args.questions.now c.args.frame.now c.args.given.now is

pub dead_by-requires-clause-answers : goal.dead_by-requires-clause-answers
dead_by-requires-clause-answers c = let (s, is) = c.requires.searched in let ask = is.questions in ask.answers

pub returns-in-Some : goal.returns-in-Some
returns-in-Some c =
    dead_found c.args.store.now.nodes (length c.args.given.now + length c.args.questions.now.rows) (length c.args.given.now + length c.in_ok-told.told)
    c.in-Some.by c.in_ok-found-in-Some.found c.in_ok-found-in-Some.ensures.kind c.in_ok-found-in-Some.ensures.answers
    (rw c.in-Some.is at c.in_ok-by.ensures.record) (rw c.in-Some.is at c.in_ok-by.ensures.one) (ap (λ n. length c.args.given.now + n) c.in_ok-told.ensures)
