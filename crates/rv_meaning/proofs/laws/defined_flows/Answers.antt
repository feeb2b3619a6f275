use Rattle.rv_meaning.proofs.Defined.{are_defined}
use Rattle.rv_meaning.proofs.laws.defined_flows.Goals as goal

pub returns : goal.returns
returns c program main well named = are_defined program main well named
