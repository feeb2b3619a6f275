use Rattle.rv_cases.specs.Conditions.{AreRefs}
use Rattle.rv_cover.proofs.answers.with_updates.Given as goal

abbrev pub invariant-loop-memory : goal.invariant-loop-memory
invariant-loop-memory l = AreRefs l.store.nodes l.list.items
