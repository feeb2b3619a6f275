use Rattle.std.proofs.{Common.◌≡◌, Common.FitsSigned, Common.rules, Common.arith, Common.length, lemmas.Int.to_z-of_z}
use Rattle.std.specs.Int.{w128}
use Rattle.rv_poly.proofs.ImageLemmas.{cut-fits}
use Rattle.rv_poly.proofs.image.cut.Goals as goal

pub returns-clause-fits : goal.returns-clause-fits
returns-clause-fits c =
    let b_fits : FitsSigned w128 c.args.row.now.bound = search rules in
    let past = c.loop-column-test.false in
    let last = c.loop-column.auto.column-end in
    let size = c.loop-column.invariant.size in
    let all : length c.loop-column.coefficients ≡ c.args.width = omega arith in
    simp to_z-of_z (cut-fits c.args.width c.args.row.now c.loop-column.coefficients c.requires all (λ k l. c.loop-column.invariant.numbers k (omega arith)))
