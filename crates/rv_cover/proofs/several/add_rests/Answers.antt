use Rattle.rv_cover.proofs.Chaining.{searched_later, targets_later}
use Rattle.rv_cover.proofs.several.add_rests.Goals as goal

pub add_rest-requires-clause-searched : goal.add_rest-requires-clause-searched
add_rest-requires-clause-searched c =
    let (s, is, to) = c.requires.searched in
    let e = c.loop-turn.invariant.extends in (
      s,
      searched_later s c.args.store.now c.loop-turn.store c.args.questions.now c.args.frame.now c.args.given.now e is,
      targets_later s c.args.store.now c.loop-turn.store c.args.targets.now e to,
    )
