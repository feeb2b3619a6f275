use Rattle.rv_poly.proofs.GuideLemmas.{guided-same}
use Rattle.rv_poly.proofs.guides.add_row_sums.Goals as goal

pub returns-then-leading-le0 : goal.returns-then-leading-le0
returns-then-leading-le0 c = guided-same c.args.width c.args.guide.now.rows
