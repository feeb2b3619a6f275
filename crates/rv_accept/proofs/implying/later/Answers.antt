use Rattle.rv_accept.proofs.Judged.{judged_some, judged_none}
use Rattle.rv_accept.proofs.implying.later.Goals as goal

pub returns-in-Some : goal.returns-in-Some
returns-in-Some c = λ rows forms xs ys size all f. let h = rw c.in-Some.is at f in judged_some rows forms xs ys c.args.many c.in-Some.n size all h

pub returns-in-None : goal.returns-in-None
returns-in-None c = λ rows forms xs ys size all rest. let h = rw c.in-None.is at rest in judged_none rows forms xs ys all h
