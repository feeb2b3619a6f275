use Rattle.rv_bits.specs.{Flows.AreFlowsRead, Shown.AreAfter}
use Rattle.rv_bits.proofs.flows.read_flows.Given as goal

abbrev pub invariant-loop-flow : goal.invariant-loop-flow
invariant-loop-flow l = record {
  read : AreFlowsRead l.flat l.initial.store l.store l.flow-index l.read;
  shown : AreAfter l.flat l.store.nodes l.shown;
}
