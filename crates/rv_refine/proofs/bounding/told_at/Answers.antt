use Rattle.std.proofs.Common.{◌∙◌}
use Rattle.rv_refine.proofs.Framing.{questions_few}
use Rattle.rv_refine.proofs.bounding.told_at.Goals as goal

pub told_rows-requires-clause-answers : goal.told_rows-requires-clause-answers
told_rows-requires-clause-answers c = let (s, is, ask, side) = c.requires.asked in ask.answers

pub told_forms-requires-clause-answers : goal.told_forms-requires-clause-answers
told_forms-requires-clause-answers c = let (s, is, ask, side) = c.requires.asked in ask.answers

pub told_forms-requires-clause-few : goal.told_forms-requires-clause-few
told_forms-requires-clause-few c = let (s, is, ask, side) = c.requires.asked in questions_few s c.args.store.now c.args.questions.now is ask

pub form_of-requires : goal.form_of-requires
form_of-requires c =
    let (s, is, ask, side) = c.requires.asked in
    (s, is, side, c.in_ok-updates.ensures.many ∙ ask.many_memories, c.in_ok-updates.ensures.updates s is ask)
