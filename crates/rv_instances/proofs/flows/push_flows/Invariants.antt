use Rattle.std.proofs.Common.{◌≡◌, ◌++◌}
use Rattle.rv_instances.specs.Flowing.{flows_below}
use Rattle.rv_instances.proofs.flows.push_flows.Given as goal

abbrev pub invariant-loop-site : goal.invariant-loop-site
invariant-loop-site l = l.found ≡ l.initial.found ++ flows_below l.instance l.site
