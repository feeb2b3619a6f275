use Rattle.std.proofs.Common.{ap}
use Rattle.rv_rows.specs.declared.linear.Row.{Row}
use Rattle.rv_seek.proofs.PairLemmas.{row_none}
use Rattle.rv_seek.proofs.places.bound_of.Goals as goal

pub returns-in-None : goal.returns-in-None
returns-in-None c = ap (λ (r : Row). r.bound) (row_none c.args.premises.now c.args.place c.in-None.ensures.value)
