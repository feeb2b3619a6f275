use Rattle.rv_cover.proofs.Chaining.{searched_later}
use Rattle.rv_cover.proofs.covering.add_dead_entries.Goals as goal

pub add_dead-requires-clause-searched : goal.add_dead-requires-clause-searched
add_dead-requires-clause-searched c =
    let (s, is, kept) = c.requires.searched in (
      s,
      searched_later s c.args.store.now c.loop-turn.store c.args.questions.now c.args.frame.now c.args.given.now c.loop-turn.invariant.extends is,
      kept,
    )
