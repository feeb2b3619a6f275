use Rattle.rv_cases.proofs.Keeping.{questions_later}
use Rattle.rv_loops.proofs.turning.is_turn_in.Goals as goal

pub shifts-requires-clause-given : goal.shifts-requires-clause-given
shifts-requires-clause-given c =
    let (s, given) = c.requires.given in
    let of = given.relation in (
      s,
      of.system,
      questions_later s c.args.store.now c.within_both.new.store c.args.questions.now c.within_both.ensures.extends given.questions,
    )
