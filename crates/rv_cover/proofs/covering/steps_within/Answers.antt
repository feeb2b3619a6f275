use Rattle.rv_cover.proofs.Chaining.{searched_later, twice}
use Rattle.rv_cover.proofs.covering.steps_within.Goals as goal

pub cover_of-requires-clause-searched : goal.cover_of-requires-clause-searched
cover_of-requires-clause-searched c =
    let (s, is, kept) = c.requires.searched in (
      s,
      searched_later s c.args.store.now c.both.new.store c.args.questions.now c.args.frame.now c.args.given.now
          (twice c.args.store.now c.within.new.store c.both.new.store c.within.ensures.extends c.both.ensures.extends) is,
      kept,
    )
