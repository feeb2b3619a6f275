use Rattle.rv_cases.proofs.parting.make_case.Goals as goal

pub returns : goal.returns
returns c = record {
  made = record {
    ordered = c.in_ok-frozen.ensures.ordered;
    means = c.in_ok-frozen.ensures.means;
    needed = c.in_ok-frozen.ensures.needed;
    tests = c.in_ok-present.ensures.told c.args.condition c.requires.settled c.in_ok-sample.ensures.sample;
    updates = c.in_ok-updates.ensures.updated c.args.condition c.requires.settled c.in_ok-sample.ensures.sample;
    observer = c.observer_in-observer.ensures.observed c.args.condition c.requires.settled c.in_ok-sample.ensures.sample;
  };
}
