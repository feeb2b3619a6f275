use Rattle.rv_proofs.proofs.Layered.{first_layer, later_layer}
use Rattle.rv_proofs.proofs.control.layers_follow.Goals as goal

pub returns-clause-first : goal.returns-clause-first
returns-clause-first c = first_layer

pub returns-clause-later : goal.returns-clause-later
returns-clause-later c = later_layer
