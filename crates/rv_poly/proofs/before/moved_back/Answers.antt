use Rattle.std.proofs.{Common.FitsSigned, Common.rules, lemmas.Int.to_z-of_z}
use Rattle.std.specs.Int.{w128}
use Rattle.rv_poly.proofs.BeforeLemmas.{earlier-turned, turned-fits}
use Rattle.rv_poly.proofs.before.moved_back.Goals as goal

pub returns-in-Some-clause-earlier : goal.returns-in-Some-clause-earlier
returns-in-Some-clause-earlier c =
    let old_fits : FitsSigned w128 c.in_ok-copy.copy.bound = search rules in
    let turned_fits : FitsSigned w128 c.opposite.result = search rules in
    let sum_fits : FitsSigned w128 c.in-Some.sum = search rules in
    let new_fits : FitsSigned w128 c.opposite-in-Some.result = search rules in
    let turned = simp to_z-of_z at c.opposite.ensures in
    let sum = simp to_z-of_z at c.in-Some.ensures in
    let new = simp to_z-of_z at c.opposite-in-Some.ensures in
    simp to_z-of_z (earlier-turned c.args.updates.now c.args.row.now c.in_ok-copy.copy c.opposite.result c.in-Some.sum c.opposite-in-Some.result
    c.in_ok-copy.ensures c.requires.moves c.requires.width turned (sum.0) new)

pub returns-in-Some-clause-fits : goal.returns-in-Some-clause-fits
returns-in-Some-clause-fits c =
    let turned_fits : FitsSigned w128 c.opposite.result = search rules in
    let sum_fits : FitsSigned w128 c.in-Some.sum = search rules in
    let new_fits : FitsSigned w128 c.opposite-in-Some.result = search rules in
    let sum = simp to_z-of_z at c.in-Some.ensures in
    let new = simp to_z-of_z at c.opposite-in-Some.ensures in
    simp to_z-of_z (turned-fits c.args.updates.now c.args.row.now c.in_ok-copy.copy c.opposite.result c.in-Some.sum c.opposite-in-Some.result
    c.in_ok-copy.ensures c.requires.fits (sum.0) (sum.1) new)
