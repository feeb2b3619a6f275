use Rattle.rv_paths.proofs.Settings.{relation_there}
use Rattle.rv_paths.proofs.finding.candidate.Goals as goal

pub search-requires : goal.search-requires
search-requires c =
    let (s, given, layers) = c.requires in
    let initial = c.in_ok-first.ensures s given.relation in (
      s,
      relation_there s c.args.store.now c.plan_of.new.store c.args.relation.now c.plan_of.ensures.same given.relation,
      c.in_ok-plan.ensures.plan s given initial.control layers,
      initial.control,
    )
