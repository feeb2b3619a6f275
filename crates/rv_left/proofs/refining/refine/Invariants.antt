use Rattle.std.proofs.Common.{◌≡◌, ◌↔◌, ◌≤◌, ◌*◌, ◌+◌, ◌-◌, length}
use Rattle.rv_diagram.specs.Nodes.{Valuation}
use Rattle.rv_split.specs.Partitions.{IsPartition, IsInSome}
use Rattle.rv_left.specs.Turns.{AreOver}
use Rattle.rv_left.proofs.refining.refine.Given as goal

abbrev pub invariant-loop-at : goal.invariant-loop-at
invariant-loop-at l = record {
  same : l.store ≡ l.initial.store;
  partition : IsPartition l.initial.store.variables l.partition;
  union : (v : Valuation) → IsInSome l.partition.parts v ↔ IsInSome l.initial.partition.parts v;
  state : l.partition.state ≡ l.initial.partition.state;
  limit : l.partition.limit ≡ l.initial.partition.limit;
  within : l.at ≤ length l.partition.parts;
  over : AreOver l.initial.partition.state l.failing l.partition.parts l.at;
}

abbrev pub decreases-loop-at : goal.decreases-loop-at
decreases-loop-at l = 2 * (l.initial.partition.limit - length l.partition.parts) + (length l.partition.parts - l.at)
