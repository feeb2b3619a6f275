use Rattle.std.proofs.Common.{◌&&◌}
use Rattle.rv_diagram.specs.Growing.{Extends}
use Rattle.rv_cases.specs.Conditions.{is_in, among, AreRefs, Gathers, AreMeets}
use Rattle.rv_cases.proofs.splitting.add_each.Given as goal

abbrev pub invariant-loop-b : goal.invariant-loop-b
invariant-loop-b l = record {
  extends : Extends l.initial.store l.store;
  refs : AreRefs l.store.nodes l.made.items;
  gathers : Gathers l.initial.store.nodes l.store.nodes
      (λ v. is_in l.initial.store.nodes l.conditions l.i v && among l.initial.store.nodes l.answers l.b v) l.initial.made.items l.made.items;
  met : AreMeets l.initial.store.nodes l.conditions l.answers l.initial.made.items → AreMeets l.store.nodes l.conditions l.answers l.made.items;
}
