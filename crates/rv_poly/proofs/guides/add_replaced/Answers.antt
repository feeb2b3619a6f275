use Rattle.rv_poly.proofs.GuideLemmas.{guided-same}
use Rattle.rv_poly.proofs.guides.add_replaced.Goals as goal

pub returns : goal.returns
returns c = guided-same c.args.width c.args.guide.now.rows
