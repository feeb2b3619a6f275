use Rattle.rv_cover.proofs.Chaining.{searched_later, target_later}
use Rattle.rv_cover.proofs.several.add_lean_steps.Goals as goal

pub add_leanly-requires-clause-searched : goal.add_leanly-requires-clause-searched
add_leanly-requires-clause-searched c =
    let (s, is, to) = c.requires.searched in
    let e = c.loop-turn.invariant.extends in (
      s,
      searched_later s c.args.store.now c.loop-turn.store c.args.questions.now c.args.frame.now c.args.given.now e is,
      target_later s c.args.store.now c.loop-turn.store c.args.target.now e to,
    )
