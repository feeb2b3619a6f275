use Rattle.rv_accept.proofs.Sampled.{given}
use Rattle.rv_accept.proofs.laws.counting_is_given.Goals as goal

pub returns : goal.returns
returns c = given
