use Rattle.std.proofs.Common.{arith, ap, ◌∙◌, ◌+◌, length, All}
use Rattle.rv_proofs.specs.Ranges.{IsRecord}
use Rattle.rv_cover.proofs.Rowing.{premises_few, searched_narrow, questions_few, rooms, step_found}
use Rattle.rv_cover.proofs.finding.step_into.Goals as goal

pub told_rows-requires-clause-answers : goal.told_rows-requires-clause-answers
told_rows-requires-clause-answers c = let (s, is, kept) = c.requires.searched in let ask = is.questions in ask.answers

pub told_forms-requires-clause-answers : goal.told_forms-requires-clause-answers
told_forms-requires-clause-answers c = let (s, is, kept) = c.requires.searched in let ask = is.questions in ask.answers

pub told_forms-requires-clause-few : goal.told_forms-requires-clause-few
told_forms-requires-clause-few c =
    let (s, is, kept) = c.requires.searched in questions_few s c.args.store.now c.args.questions.now c.args.frame.now c.args.given.now is

pub least_reach-requires-clause-few : goal.least_reach-requires-clause-few
least_reach-requires-clause-few c =
    let (s, is, kept) = c.requires.searched in
    let few = premises_few s c.args.store.now c.args.questions.now c.args.frame.now c.args.given.now is in
    let size = c.in_ok-told.ensures in
    omega (arith, few, size)

pub least_reach-requires-clause-narrow : goal.least_reach-requires-clause-narrow
least_reach-requires-clause-narrow c =
    let (s, is, kept) = c.requires.searched in searched_narrow s c.args.store.now c.args.questions.now c.args.frame.now c.args.given.now is

pub least_reach-requires-clause-wanted : goal.least_reach-requires-clause-wanted
least_reach-requires-clause-wanted c =
    let (s, is, kept) = c.requires.searched in
    let ask = is.questions in
    rooms s is.system c.args.wanted.now kept c.in_ok-updates.updates (c.in_ok-updates.ensures.many ∙ ask.many_memories)
    (c.in_ok-updates.ensures.updates s is.system ask)

pub step_by-requires-clause-answers : goal.step_by-requires-clause-answers
step_by-requires-clause-answers c = let (s, is, kept) = c.requires.searched in let ask = is.questions in ask.answers

pub step_by-requires-clause-few : goal.step_by-requires-clause-few
step_by-requires-clause-few c =
    let (s, is, kept) = c.requires.searched in questions_few s c.args.store.now c.args.questions.now c.args.frame.now c.args.given.now is

pub returns-in-Some : goal.returns-in-Some
returns-in-Some c =
    let are : All (IsRecord (length c.args.given.now + length c.in_ok-told.told)) c.in-Some.reach = rw c.in-Some.is at c.in_ok-reach.ensures in
    step_found c.args.store.now.nodes (length c.args.given.now + length c.args.questions.now.rows) (length c.args.given.now + length c.in_ok-told.told)
    c.args.target c.in-Some.reach c.in_ok-found-in-Some.found c.in_ok-found-in-Some.ensures.kind c.in_ok-found-in-Some.ensures.answers are
    (ap (λ n. length c.args.given.now + n) c.in_ok-told.ensures)
