use Rattle.rv_rows.proofs.RowLemmas.{refutes_if, sums_below}
use Rattle.rv_rows.proofs.farkas.refutes.Goals as goal

pub returns-clause-sound : goal.returns-clause-sound
returns-clause-sound c = refutes_if c.is_refutation.result c.args.premises.now c.args.multipliers.now c.is_refutation.ensures

pub returns-clause-sums : goal.returns-clause-sums
returns-clause-sums c = sums_below c.args.premises.now c.args.multipliers.now.weights c.requires.premises c.requires.weights
