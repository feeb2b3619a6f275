use Rattle.rv_tests.proofs.partitions.told_split.Goals as goal

pub split-requires-clause-hint : goal.split-requires-clause-hint
split-requires-clause-hint c =
    let set = c.in_ok-hint.ensures c.args.store.now.variables c.requires.below in
    rw c.in-Some-2.is at set
