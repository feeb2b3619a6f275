use Rattle.rv_cases.specs.Conditions.{AreRefs}
use Rattle.rv_cover.proofs.answers.test_answers.Given as goal

abbrev pub invariant-loop-test : goal.invariant-loop-test
invariant-loop-test l = AreRefs l.store.nodes l.list.items
