use Rattle.std.proofs.Common.{◌∙◌}
use Rattle.rv_paths.proofs.Settings.{search_there}
use Rattle.rv_paths.proofs.planning.plan_of.Goals as goal

pub other_states-requires : goal.other_states-requires
other_states-requires c = let (s, given, first, layers) = c.requires in (s, given.relation, first, layers)

pub cases_in-requires : goal.cases_in-requires
cases_in-requires c =
    let (s, given, first, layers) = c.requires in (
      s,
      search_there s c.args.store.now c.other_states.new.store c.args.relation.now c.args.questions.now c.args.columns c.other_states.ensures.same given,
      first,
    )

pub cases_in-requires-2 : goal.cases_in-requires-2
cases_in-requires-2 c =
    let (s, given, first, layers) = c.requires in (
      s,
      search_there s c.args.store.now c.cases_in.new.store c.args.relation.now c.args.questions.now c.args.columns
          (c.cases_in.ensures.same ∙ c.other_states.ensures.same) given,
      c.in_ok-others.ensures.control s given.relation first layers,
    )

pub returns-clause-plan : goal.returns-clause-plan
returns-clause-plan c s given first layers = record {
  first = c.in_ok-from_first.ensures.usable s
      (search_there s c.args.store.now c.other_states.new.store c.args.relation.now c.args.questions.now c.args.columns c.other_states.ensures.same given)
      first;
  others = c.in_ok-from_others.ensures.usable s
      (search_there s c.args.store.now c.cases_in.new.store c.args.relation.now c.args.questions.now c.args.columns
      (c.cases_in.ensures.same ∙ c.other_states.ensures.same) given) (c.in_ok-others.ensures.control s given.relation first layers);
}
