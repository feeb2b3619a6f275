use Rattle.std.proofs.Common.{length, ◌+◌}
use Rattle.rv_cover.proofs.Chaining.{searched_later, target_later}
use Rattle.rv_cover.proofs.several.add_steps_into.Goals as goal

pub turned-requires-clause-into : goal.turned-requires-clause-into
turned-requires-clause-into c = let (s, is, to) = c.requires.searched in to.into

pub turned-requires-clause-rest : goal.turned-requires-clause-rest
turned-requires-clause-rest c = c.requires.cover.rest

pub add_steps_left-requires-clause-searched : goal.add_steps_left-requires-clause-searched
add_steps_left-requires-clause-searched c =
    let (s, is, to) = c.requires.searched in
    let e = c.turned.ensures.extends in (
      s,
      searched_later s c.args.store.now c.turned.new.store c.args.questions.now c.args.frame.now c.args.given.now e is,
      target_later s c.args.store.now c.turned.new.store c.args.target.now e to,
    )

pub add_steps_left-requires-clause-cover : goal.add_steps_left-requires-clause-cover
add_steps_left-requires-clause-cover c =
    c.in_ok-cover.ensures.cover c.args.frame.now (length c.args.given.now + length c.args.questions.now.rows) c.requires.cover
