use Rattle.std.proofs.{Common.FitsSigned, Common.rules, lemmas.Int.to_z-of_z}
use Rattle.std.specs.Int.{w128}
use Rattle.rv_rows.specs.Multipliers.{weighted}
use Rattle.rv_seek.proofs.FloorLemmas.{floor_some}
use Rattle.rv_seek.proofs.seek.floor_of.Goals as goal

pub returns : goal.returns
returns c =
    let sum_fits : FitsSigned w128 c.in_ok-sum.sum = search rules in
    let divisor_fits : FitsSigned w128 c.args.multipliers.now.divisor = search rules in
    floor_some c.in_ok-sum.sum (weighted (λ r. r.bound) c.args.premises.now c.args.multipliers.now.weights) c.args.multipliers.now.divisor
    c.checked_div_euclid.result c.in_ok-sum.ensures (simp to_z-of_z at c.checked_div_euclid.ensures)
