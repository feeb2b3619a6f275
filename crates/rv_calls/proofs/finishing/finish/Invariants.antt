use Rattle.rv_calls.specs.Components.{IsDepth}
use Rattle.rv_calls.proofs.Depths.{weight}
use Rattle.rv_calls.proofs.finishing.finish.Given as goal

abbrev pub invariant-loop-top : goal.invariant-loop-top
invariant-loop-top l = IsDepth l.graph l.walk

abbrev pub decreases-loop-top : goal.decreases-loop-top
decreases-loop-top l = weight l.walk
