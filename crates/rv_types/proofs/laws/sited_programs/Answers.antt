use Rattle.rv_types.proofs.CallSites.{has_sites}
use Rattle.rv_types.proofs.laws.sited_programs.Goals as goal

pub returns : goal.returns
returns c = λ p tree n w. has_sites n (tree.numbered n w)
