use Rattle.rv_loops.proofs.Asking.{questions_few}
use Rattle.rv_loops.proofs.turning.shifts.Goals as goal

pub told_forms-requires-clause-answers : goal.told_forms-requires-clause-answers
told_forms-requires-clause-answers c = let (s, system, ask) = c.requires.given in ask.answers

pub told_forms-requires-clause-few : goal.told_forms-requires-clause-few
told_forms-requires-clause-few c =
    let (s, system, ask) = c.requires.given in
    questions_few s c.args.store.now c.args.questions.now system ask

pub told_rows-requires-clause-answers : goal.told_rows-requires-clause-answers
told_rows-requires-clause-answers c = let (s, system, ask) = c.requires.given in ask.answers
