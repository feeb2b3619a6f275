use Rattle.std.proofs.Common.{arith, ◌≤◌, length}
use Rattle.rv_rows.proofs.RowLemmas.{sides_from}
use Rattle.rv_rows.proofs.farkas.same_sides.Goals as goal

pub returns : goal.returns
returns c =
    let least : length c.args.wanted.now.coefficients ≤ c.width_of-width.result = omega (arith, c.width_of-width.ensures.least) in
    sides_from c.args.premises.now c.args.wanted.now c.args.multipliers.now c.width_of-width.result least c.width_of-width.ensures.used
    (λ k l. c.loop-column.invariant k (omega arith))
