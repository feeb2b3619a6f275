use Rattle.rv_instances.proofs.GiverLaws.{flow_giver}
use Rattle.rv_instances.proofs.GiverLaws as laws
use Rattle.rv_instances.proofs.laws.one_giver.Goals as goal

pub returns-clause-each : goal.returns-clause-each
returns-clause-each c p main instances q known flow = flow_giver p main instances known q flow

pub returns-clause-one : goal.returns-clause-one
returns-clause-one c p main instances q f g known gives other = laws.one_giver p main instances known q f g gives other
