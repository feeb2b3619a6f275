use Rattle.rv_symbolic.specs.{Growing.Finds, Words.AreMetWith}
use Rattle.rv_symbolic.proofs.words.met.Given as goal

abbrev pub invariant-loop-part : goal.invariant-loop-part
invariant-loop-part l = Finds l.initial.store l.store (AreMetWith l.initial.store.nodes l.fn.set l.links l.part-index) l.whole
