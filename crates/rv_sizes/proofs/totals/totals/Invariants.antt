use Rattle.rv_sizes.specs.Totals.{AreSummed}
use Rattle.rv_sizes.proofs.totals.totals.Given as goal

abbrev pub invariant-loop-node : goal.invariant-loop-node
invariant-loop-node l = AreSummed l.own l.calls l.order l.node-index l.totals
