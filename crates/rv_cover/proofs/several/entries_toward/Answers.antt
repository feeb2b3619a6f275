use Rattle.rv_cover.proofs.Chaining.{searched_later, targets_later, short_none}
use Rattle.rv_cover.proofs.several.entries_toward.Goals as goal

pub add_all_steps-requires-clause-cover : goal.add_all_steps-requires-clause-cover
add_all_steps-requires-clause-cover c = record {
  entries = short_none c.args.frame.now _ c.new-entries.result c.new-entries.ensures;
  left = c.requires.scope;
  rest = c.requires.scope;
}

pub add_rests-requires-clause-searched : goal.add_rests-requires-clause-searched
add_rests-requires-clause-searched c =
    let (s, is, to) = c.requires.searched in
    let e = c.add_all_steps.ensures.extends in (
      s,
      searched_later s c.args.store.now c.add_all_steps.new.store c.args.questions.now c.args.frame.now c.args.given.now e is,
      targets_later s c.args.store.now c.add_all_steps.new.store c.args.targets.now e to,
    )
