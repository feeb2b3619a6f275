use Rattle.rv_cover.proofs.Rowing.{got_all}
use Rattle.rv_cover.specs.Toward.{IsTarget}
use Rattle.rv_cover.proofs.several.target_at.Goals as goal

pub value_at-requires-clause-found : goal.value_at-requires-clause-found
value_at-requires-clause-found c =
    let (s, to) = c.requires.targets in
    let is : IsTarget s c.args.store.now.nodes c.at-target.result.now
    = got_all (IsTarget s c.args.store.now.nodes) c.args.targets.now c.loop-place.place c.at-target.result.now c.at-target.ensures.value to in
    is.into
