use Rattle.rv_cover.proofs.{Chaining.searched_later, Chaining.target_later, Rowing.got_all}
use Rattle.rv_cover.specs.Toward.{IsTarget}
use Rattle.rv_cover.proofs.several.add_all_steps.Goals as goal

pub add_steps_into-requires-clause-searched : goal.add_steps_into-requires-clause-searched
add_steps_into-requires-clause-searched c =
    let (s, is, to) = c.requires.searched in
    let e = c.loop-place.invariant.extends in (
      s,
      searched_later s c.args.store.now c.loop-place.store c.args.questions.now c.args.frame.now c.args.given.now e is,
      target_later s c.args.store.now c.loop-place.store c.at-target.result.now e
          (got_all (IsTarget s c.args.store.now.nodes) c.args.targets.now c.loop-place.place c.at-target.result.now c.at-target.ensures.value to),
    )
