use Rattle.std.proofs.Common.{◌≡◌, ◌<◌, length, arith, set, ◌∙◌, rules, FitsSigned, length-set}
use Rattle.std.proofs.lemmas.Int.{to_z-of_z}
use Rattle.std.specs.Int.{w128}
use Rattle.rv_rows.proofs.TightLemmas.{divide-done, divide-left}
use Rattle.rv_rows.proofs.tighten.divide.Goals as goal

pub loop-column-preserved : goal.loop-column-preserved
loop-column-preserved c =
    let here_fits : FitsSigned w128 c.at.result.now = search rules in
    let q_fits : FitsSigned w128 c.quotient_down-divided.result = search rules in
    let written : c.set.new.self ≡ set c.loop-column.row.coefficients c.loop-column.column c.quotient_down-divided.result = simp to_z-of_z at c.set.ensures in
    let low = simp to_z-of_z at c.quotient_down-divided.ensures.lower in
    let high = simp to_z-of_z at c.quotient_down-divided.ensures.upper in
    let inside : c.loop-column.column < length c.loop-column.row.coefficients =
    omega (arith, c.loop-column.invariant.width, c.len-column-end.ensures) in
    rw written (record {
      width = length-set c.loop-column.row.coefficients c.loop-column.column c.quotient_down-divided.result ∙ c.loop-column.invariant.width;
      done = divide-done c.args.by c.args.row.now.coefficients c.loop-column.row.coefficients c.loop-column.column c.at.result.now
          c.quotient_down-divided.result
          c.requires.some c.loop-column.invariant.width inside c.loop-column.invariant.done c.loop-column.invariant.left c.at.ensures.value c.requires.divides
          low high;
      left = divide-left c.args.by c.args.row.now.coefficients c.loop-column.row.coefficients c.loop-column.column c.at.result.now
          c.quotient_down-divided.result
          c.requires.some c.loop-column.invariant.width inside c.loop-column.invariant.done c.loop-column.invariant.left c.at.ensures.value c.requires.divides
          low high;
      bound = c.loop-column.invariant.bound;
    })
