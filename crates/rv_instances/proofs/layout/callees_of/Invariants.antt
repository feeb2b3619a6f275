use Rattle.std.proofs.Common.{◌≡◌, length}
use Rattle.rv_instances.proofs.Chained.{IsChained, AreToldTo}
use Rattle.rv_instances.proofs.layout.callees_of.Given as goal

abbrev pub invariant-loop-instance : goal.invariant-loop-instance
invariant-loop-instance l = record {
  chained : IsChained l.instances l.instance l.chain;
  told : AreToldTo l.instances l.instance l.callees;
  end : l.instance-end ≡ length l.instances;
}
