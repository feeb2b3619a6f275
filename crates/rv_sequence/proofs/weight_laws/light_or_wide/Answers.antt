use Rattle.rv_sequence.proofs.WideFlows.{not_both, one_first}
use Rattle.rv_sequence.proofs.weight_laws.light_or_wide.Goals as goal

pub returns-clause-not_both : goal.returns-clause-not_both
returns-clause-not_both c p main instances sequence at known sided ordered light first = not_both p main instances known sided sequence ordered at light first

pub returns-clause-one : goal.returns-clause-one
returns-clause-one c p main instances sequence at later known sided ordered f g = one_first p main instances known sided sequence ordered at later f g
