use Rattle.std.proofs.Common.{refl}
use Rattle.rv_boxes.proofs.Giving.{given_allowed}
use Rattle.rv_boxes.proofs.certifying.start_of.Goals as goal

pub initial-requires : goal.initial-requires
initial-requires c = let (s, f, given) = c.requires in (s, given.relation)

pub cases-requires : goal.cases-requires
cases-requires c =
    let (s, f, given) = c.requires in
    let r = given.relation in
    let initial = c.in_ok-first.ensures s r in (
      s,
      r.system,
      given.questions,
      given_allowed s c.args.store.now c.args.store.now c.args.relation.now c.args.questions.now f given refl
          c.parts.result.now c.parts.ensures,
      initial.control,
    )

pub returns-clause-start : goal.returns-clause-start
returns-clause-start c s f given =
    let r = given.relation in
    let initial = c.in_ok-first.ensures s r in
    record {
      initial = initial;
      cases = c.in_ok-from_first.ensures.parted s r.system given.questions
          (given_allowed s c.args.store.now c.args.store.now c.args.relation.now c.args.questions.now f given refl c.parts.result.now c.parts.ensures)
          initial.control;
    }
