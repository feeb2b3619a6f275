use Rattle.rv_rows.proofs.TightLemmas.{tight_same, tight_stays}
use Rattle.rv_rows.proofs.linear.Row.tighten.Goals as goal

pub returns-clause-same_points : goal.returns-clause-same_points
returns-clause-same_points c = tight_same c.args.self.now c.make_tight.new.row c.make_tight.ensures

pub returns-clause-stays : goal.returns-clause-stays
returns-clause-stays c = tight_stays c.args.self.now c.make_tight.new.row c.make_tight.ensures
