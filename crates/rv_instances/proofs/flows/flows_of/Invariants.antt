use Rattle.std.proofs.Common.{◌≡◌, length}
use Rattle.rv_tree.specs.Tree.{program_tree}
use Rattle.rv_instances.specs.Flowing.{flows_to, flow_count}
use Rattle.rv_instances.proofs.flows.flows_of.Given as goal

abbrev pub invariant-loop-instance : goal.invariant-loop-instance
invariant-loop-instance l = record {
  found : l.found ≡ flows_to (flow_count (program_tree l.p) l.instances) l.instance;
  end : l.instance-end ≡ length l.instances;
}
