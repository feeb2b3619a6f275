use Rattle.rv_diagram.specs.Growing.{Extends}
use Rattle.rv_tested.specs.Testing.{AreTestsRead}
use Rattle.rv_tested.proofs.testing.read_tests.Given as goal

abbrev pub invariant-loop-number : goal.invariant-loop-number
invariant-loop-number l = record {
  extends : Extends l.initial.store l.store;
  tests : AreTestsRead l.flat l.store.nodes l.number l.questions l.rows;
}
