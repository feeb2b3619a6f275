use Rattle.std.proofs.Common.{[]}
use Rattle.rv_diagram.specs.Growing.{Extends}
use Rattle.rv_cases.specs.Conditions.{among, AreRefs, Gathers, AreMeets}
use Rattle.rv_cases.proofs.splitting.split.Given as goal

abbrev pub invariant-loop-i : goal.invariant-loop-i
invariant-loop-i l = record {
  extends : Extends l.initial.store l.store;
  refs : AreRefs l.store.nodes l.made.items;
  gathers : Gathers l.initial.store.nodes l.store.nodes (among l.initial.store.nodes l.conditions l.i) [] l.made.items;
  met : AreMeets l.store.nodes l.conditions l.answers l.made.items;
}
