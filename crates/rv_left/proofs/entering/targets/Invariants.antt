use Rattle.std.proofs.Common.{◌≡◌}
use Rattle.rv_left.specs.Targets.{AreTargets}
use Rattle.rv_left.proofs.entering.targets.Given as goal

abbrev pub invariant-loop-j : goal.invariant-loop-j
invariant-loop-j l = record {
  same : l.store ≡ l.initial.store;
  added : AreTargets l.initial.store l.source l.refs l.j l.entries;
}
