use Rattle.rv_invfile.proofs.OneRule.{one_rule}
use Rattle.rv_invfile.proofs.laws.one_trace_rule.Goals as goal

pub returns : goal.returns
returns c = one_rule
