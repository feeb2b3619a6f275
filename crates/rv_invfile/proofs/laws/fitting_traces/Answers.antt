use Rattle.rv_invfile.proofs.Kinded.{fits-values, values-fit}
use Rattle.rv_invfile.proofs.laws.fitting_traces.Goals as goal

pub returns : goal.returns
returns c f t = (fits-values f t, values-fit f t)
