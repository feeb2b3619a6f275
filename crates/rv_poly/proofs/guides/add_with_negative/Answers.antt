use Rattle.rv_poly.proofs.GuideLemmas.{guided-same}
use Rattle.rv_poly.proofs.guides.add_with_negative.Goals as goal

pub returns-then-leading-ge0 : goal.returns-then-leading-ge0
returns-then-leading-ge0 c = guided-same c.args.width c.args.guide.now.rows
