use Rattle.rv_refine.proofs.Framing.{questions_few}
use Rattle.rv_refine.proofs.bounding.answers_of.Goals as goal

pub test_answers-requires-clause-answers : goal.test_answers-requires-clause-answers
test_answers-requires-clause-answers c = let (s, is, ask) = c.requires.asked in ask.answers

pub with_updates-requires-clause-answers : goal.with_updates-requires-clause-answers
with_updates-requires-clause-answers c = let (s, is, ask) = c.requires.asked in ask.answers

pub with_updates-requires-clause-few : goal.with_updates-requires-clause-few
with_updates-requires-clause-few c = let (s, is, ask) = c.requires.asked in questions_few s c.args.store.now c.args.questions.now is ask
