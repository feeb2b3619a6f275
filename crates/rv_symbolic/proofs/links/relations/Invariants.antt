use Rattle.std.proofs.Common.{length, ◌≤◌}
use Rattle.rv_symbolic.specs.Linked.{AreParted}
use Rattle.rv_symbolic.proofs.links.relations.Given as goal

abbrev pub invariant-loop-end : goal.invariant-loop-end
invariant-loop-end l = record {
  parted : AreParted l.initial.store l.store l.next l.end (length l.next) l.relations.items;
  within : l.end ≤ length l.next;
}

abbrev pub decreases-loop-end : goal.decreases-loop-end
decreases-loop-end l = l.end
