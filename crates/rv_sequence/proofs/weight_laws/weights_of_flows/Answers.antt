use Rattle.rv_sequence.proofs.WeightFlows.{are_weights, one_weight}
use Rattle.rv_sequence.proofs.weight_laws.weights_of_flows.Goals as goal

pub returns-clause-some : goal.returns-clause-some
returns-clause-some c p main instances sequence known ordered = are_weights p main instances known sequence ordered

pub returns-clause-one : goal.returns-clause-one
returns-clause-one c p main instances sequence flows others q known ordered f g is = one_weight p main instances known sequence ordered flows others f g q is
