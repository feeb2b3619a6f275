use Rattle.std.proofs.Common.{◌≡◌, [], drop}
use Rattle.rv_calls.specs.{Numbering.with_names, Callings.node_texts}
use Rattle.rv_calls.proofs.calls.names_of_nodes.Given as goal

abbrev pub invariant-loop-node : goal.invariant-loop-node
invariant-loop-node l = with_names l.names (node_texts (drop l.node-index l.p.nodes)) ≡ with_names [] (node_texts l.p.nodes)
