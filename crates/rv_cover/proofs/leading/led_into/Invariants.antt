use Rattle.rv_diagram.specs.Growing.{Extends}
use Rattle.rv_cases.specs.Conditions.{AreRefs}
use Rattle.rv_cover.proofs.leading.led_into.Given as goal

abbrev pub invariant-loop-place : goal.invariant-loop-place
invariant-loop-place l = record {
  extends : Extends l.initial.store l.store;
  refs : AreRefs l.store.nodes l.made.items;
}
