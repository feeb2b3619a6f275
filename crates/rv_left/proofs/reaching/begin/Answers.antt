use Rattle.rv_left.proofs.Rounds.{front_begun}
use Rattle.rv_left.proofs.reaching.begin.Goals as goal

pub returns : goal.returns
returns c s is = front_begun s c.in_ok-fresh.fresh c.in_ok-all.all (c.in_ok-fresh.ensures s is) (c.in_ok-all.ensures s is)
