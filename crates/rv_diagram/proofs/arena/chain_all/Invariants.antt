use Rattle.rv_diagram.proofs.ChainLemmas.{IsChaining}
use Rattle.rv_diagram.proofs.arena.chain_all.Given as goal

abbrev pub invariant-loop-at : goal.invariant-loop-at
invariant-loop-at l = IsChaining l.fn.slots l.slots l.heads l.limit l.at
