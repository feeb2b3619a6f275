use Rattle.std.proofs.Common.{◌+◌}
use Rattle.rv_calls.specs.Graphs.{IsWalk, Keeps, falses}
use Rattle.rv_calls.proofs.graph.explore.Given as goal

abbrev pub invariant-loop-top : goal.invariant-loop-top
invariant-loop-top l = record {
  walk : IsWalk l.graph l.walk;
  kept : Keeps l.initial.walk l.walk;
}

abbrev pub decreases-loop-top : goal.decreases-loop-top
decreases-loop-top l = falses l.walk.entered + falses l.walk.finished
