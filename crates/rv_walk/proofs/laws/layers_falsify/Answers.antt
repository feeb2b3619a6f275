use Rattle.rv_walk.proofs.Ending.{falsify, unsafe}
use Rattle.rv_walk.proofs.laws.layers_falsify.Goals as goal

pub returns-clause-run : goal.returns-clause-run
returns-clause-run c = falsify

pub returns-clause-unsafe_system : goal.returns-clause-unsafe_system
returns-clause-unsafe_system c = unsafe
