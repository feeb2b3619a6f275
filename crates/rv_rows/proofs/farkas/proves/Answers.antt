use Rattle.rv_rows.proofs.RowLemmas.{proves_if, sums_below}
use Rattle.rv_rows.proofs.farkas.proves.Goals as goal

pub returns-clause-sound : goal.returns-clause-sound
returns-clause-sound c = proves_if c.is_proof.result c.args.premises.now c.args.wanted.now c.args.multipliers.now c.is_proof.ensures

pub returns-clause-sums : goal.returns-clause-sums
returns-clause-sums c = sums_below c.args.premises.now c.args.multipliers.now.weights c.requires.premises c.requires.weights
