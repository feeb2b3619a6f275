use Rattle.rv_invfile.proofs.Systems.{is-told}
use Rattle.rv_invfile.proofs.laws.told_systems.Goals as goal

pub returns : goal.returns
returns c = is-told
