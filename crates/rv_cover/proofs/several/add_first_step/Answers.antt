use Rattle.rv_cover.proofs.Rowing.{got_all}
use Rattle.rv_cover.specs.Toward.{IsTarget}
use Rattle.rv_cover.proofs.several.add_first_step.Goals as goal

pub target_at-requires-clause-targets : goal.target_at-requires-clause-targets
target_at-requires-clause-targets c = let (s, is, to) = c.requires.searched in (s, to)

pub add_step_into-requires-clause-searched : goal.add_step_into-requires-clause-searched
add_step_into-requires-clause-searched c =
    let (s, is, to) = c.requires.searched in (
      s,
      is,
      got_all (IsTarget s c.args.store.now.nodes) c.args.targets.now c.in-Some.place c.at-target.result.now c.at-target.ensures.value to,
    )
