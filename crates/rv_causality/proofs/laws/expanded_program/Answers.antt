use Rattle.rv_calls.proofs.FewInstances as law
use Rattle.rv_causality.proofs.laws.expanded_program.Goals as goal

pub returns : goal.returns
returns c p main instances bounded named sited well none lt are few = law.expanded_program p main instances bounded named sited well none lt are few
