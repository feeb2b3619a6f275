use Rattle.std.proofs.Common.{◌≡◌, true}
use Rattle.rv_diagram.specs.Nodes.{value_of}
use Rattle.rv_diagram.specs.Growing.{Extends}
use Rattle.rv_symbolic.specs.Growing.{Finds}
use Rattle.rv_open.specs.Given.{HoldOfTests}
use Rattle.rv_open.proofs.counting.open_in.Given as goal

abbrev pub invariant-loop-test : goal.invariant-loop-test
invariant-loop-test l = record {
  extends : Extends l.initial.store l.store;
  left : Finds l.initial.store l.store
      (λ v. (value_of l.initial.store.nodes l.fn.from v ≡ true) × HoldOfTests l.initial.store.nodes l.questions l.test v) l.rest;
}
