use Rattle.std.proofs.Common.{◌-◌}
use Rattle.rv_symbolic.specs.{Growing.Finds, Linked.AreLinkedBetween}
use Rattle.rv_symbolic.proofs.links.link_some.Given as goal

abbrev pub invariant-loop-back : goal.invariant-loop-back
invariant-loop-back l = Finds l.initial.store l.store (AreLinkedBetween l.initial.store.nodes l.next (l.end - l.back) l.end) l.relation
