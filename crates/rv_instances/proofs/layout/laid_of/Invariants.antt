use Rattle.std.proofs.Common.{◌≡◌, ◌≤◌, ◌*◌, length}
use Rattle.rv_base.specs.Limits.{source_limit}
use Rattle.rv_instances.specs.Expanded.{program_of}
use Rattle.rv_instances.specs.{Flowing.flow_count, Layouts.all_laid, Layouts.flows_before}
use Rattle.rv_instances.proofs.layout.laid_of.Given as goal

abbrev pub invariant-loop-instance : goal.invariant-loop-instance
invariant-loop-instance l = record {
  laid : l.laid ≡ all_laid (program_of l.expanded) l.expanded.instances.now l.instance;
  first : l.first ≡ flows_before (flow_count (program_of l.expanded) l.expanded.instances.now) l.instance;
  few : l.first ≤ l.instance * source_limit;
  end : l.instance-end ≡ length l.expanded.instances.now;
}
