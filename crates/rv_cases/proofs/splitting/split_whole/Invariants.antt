use Rattle.std.proofs.Common.{ℕ, ◌<◌}
use Rattle.rv_diagram.specs.Nodes.{value_of}
use Rattle.rv_diagram.specs.Growing.{Extends}
use Rattle.rv_cases.specs.Conditions.{IsParted, AreWithin, AreJoined, list_at}
use Rattle.rv_cases.proofs.splitting.split_whole.Given as goal

abbrev pub invariant-loop-answers : goal.invariant-loop-answers
invariant-loop-answers l = record {
  extends : Extends l.initial.store l.store;
  parted : IsParted l.store.nodes (value_of l.initial.store.nodes l.whole) l.left.items;
  answered : (q : ℕ) → q < l.answers-index → AreWithin l.initial.store.nodes l.store.nodes (list_at l.questions q) l.left.items;
  joined : AreJoined l.initial.store.nodes l.store.nodes (value_of l.initial.store.nodes l.whole) l.questions l.answers-index l.left.items;
}
