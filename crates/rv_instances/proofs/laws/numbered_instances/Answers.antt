use Rattle.rv_instances.proofs.ExpandedLaws.{instance_at, number_at, node_is, same}
use Rattle.rv_instances.proofs.laws.numbered_instances.Goals as goal

pub returns-clause-at : goal.returns-clause-at
returns-clause-at c p main instances m known lt = let r = instance_at p main instances known m lt in (r.0, r.1, (lt, r.2))

pub returns-clause-number : goal.returns-clause-number
returns-clause-number c p main instances i known is = let r = number_at p main instances known i is in (r.0, (r.1, r.2))

pub returns-clause-node : goal.returns-clause-node
returns-clause-node c p main instances m i known is n = node_is p main instances known m i is n.1

pub returns-clause-same : goal.returns-clause-same
returns-clause-same c p main instances i a known is js e = same p main instances known i a is js e
