use Rattle.std.proofs.Common.{ap}
use Rattle.rv_rows.specs.{declared.linear.Row.Row, Rows.coefficient}
use Rattle.rv_seek.proofs.PairLemmas.{row_none}
use Rattle.rv_seek.proofs.places.coefficient_of.Goals as goal

pub returns-in-None : goal.returns-in-None
returns-in-None c = ap (λ (r : Row). coefficient c.args.column r) (row_none c.args.premises.now c.args.place c.in-None.ensures.value)
