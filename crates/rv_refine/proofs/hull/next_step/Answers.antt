use Rattle.rv_refine.proofs.Framing.{questions_few}
use Rattle.rv_refine.proofs.hull.next_step.Goals as goal

pub told_rows-requires-clause-answers : goal.told_rows-requires-clause-answers
told_rows-requires-clause-answers c = let (s, is, ask) = c.requires.asked in ask.answers

pub told_forms-requires-clause-answers : goal.told_forms-requires-clause-answers
told_forms-requires-clause-answers c = let (s, is, ask) = c.requires.asked in ask.answers

pub told_forms-requires-clause-few : goal.told_forms-requires-clause-few
told_forms-requires-clause-few c = let (s, is, ask) = c.requires.asked in questions_few s c.args.store.now c.args.questions.now is ask

pub with_updates-requires-clause-answers : goal.with_updates-requires-clause-answers
with_updates-requires-clause-answers c = let (s, is, ask) = c.requires.asked in ask.answers

pub with_updates-requires-clause-few : goal.with_updates-requires-clause-few
with_updates-requires-clause-few c = let (s, is, ask) = c.requires.asked in questions_few s c.args.store.now c.args.questions.now is ask
