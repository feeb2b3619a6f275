use Rattle.rv_rows.proofs.RowLemmas.{coefficient-none}
use Rattle.rv_rows.proofs.sums.number_at.Goals as goal

pub returns-in-None : goal.returns-in-None
returns-in-None c = coefficient-none c.args.numbers.now c.args.column c.in-None.ensures.value
