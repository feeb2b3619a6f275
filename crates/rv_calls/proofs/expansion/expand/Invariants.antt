use Rattle.std.proofs.Common.{length}
use Rattle.rv_calls.specs.Listing.{IsExpansion, ahead}
use Rattle.rv_calls.proofs.expansion.expand.Given as goal

abbrev pub invariant-loop-instance : goal.invariant-loop-instance
invariant-loop-instance l = IsExpansion l.calls l.root l.found l.waiting

abbrev pub decreases-loop-instance : goal.decreases-loop-instance
decreases-loop-instance l = length (ahead l.calls l.waiting)
