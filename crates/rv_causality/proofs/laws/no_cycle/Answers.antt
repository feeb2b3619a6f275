use Rattle.rv_sequence.proofs.NoCycle as cycles
use Rattle.rv_causality.proofs.laws.no_cycle.Goals as goal

pub returns : goal.returns
returns c p main sequence cycle named declared fed ordered is = cycles.no_cycle p main sequence ordered named declared fed cycle is
