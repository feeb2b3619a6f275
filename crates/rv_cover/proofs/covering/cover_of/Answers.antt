use Rattle.rv_cover.proofs.Chaining.{searched_later, short_none}
use Rattle.rv_cover.proofs.covering.cover_of.Goals as goal

pub add_steps-requires-clause-cover : goal.add_steps-requires-clause-cover
add_steps-requires-clause-cover c = record {
  entries = short_none c.args.frame.now _ c.new-entries.result c.new-entries.ensures;
  left = c.requires.left;
  rest = c.requires.rest;
}

pub add_dead_entries-requires-clause-searched : goal.add_dead_entries-requires-clause-searched
add_dead_entries-requires-clause-searched c =
    let (s, is, kept) = c.requires.searched in (
      s,
      searched_later s c.args.store.now c.add_steps.new.store c.args.questions.now c.args.frame.now c.args.given.now c.add_steps.ensures.extends is,
      kept,
    )
