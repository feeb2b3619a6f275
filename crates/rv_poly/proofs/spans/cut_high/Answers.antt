use Rattle.std.proofs.{Common.FitsSigned, Common.rules, Common.arith, lemmas.Int.to_z-of_z, lemmas.Int.ints}
use Rattle.std.specs.Int.{w128}
use Rattle.rv_poly.proofs.WholeLemmas.{high-cut, high-kept}
use Rattle.rv_poly.proofs.spans.cut_high.Goals as goal

pub quotient_down-most-requires : goal.quotient_down-most-requires
quotient_down-most-requires c =
    let by_fits = c.ranges.by in
    let e = simp to_z-of_z at c.unsigned_abs.ensures.value in
    rw e (let p = c.requires in omega (arith, ints))

pub returns-then-most-span : goal.returns-then-most-span
returns-then-most-span c =
    let by_fits = c.ranges.by in
    let rest_fits = c.ranges.rest in
    let low_fits : FitsSigned w128 c.args.span.low = search rules in
    let q_fits : FitsSigned w128 c.quotient_down-most.result = search rules in
    let e = simp to_z-of_z at c.unsigned_abs.ensures.value in
    let lower = rw e at (simp to_z-of_z at c.quotient_down-most.ensures.lower) in
    let upper = rw e at (simp to_z-of_z at c.quotient_down-most.ensures.upper) in
    simp to_z-of_z (high-cut c.args.by c.args.rest c.quotient_down-most.result c.args.span c.requires lower upper (search rules))

pub returns : goal.returns
returns c =
    let by_fits = c.ranges.by in
    let rest_fits = c.ranges.rest in
    let e = simp to_z-of_z at c.unsigned_abs.ensures.value in
    let lower = rw e at (simp to_z-of_z at c.quotient_down-most.ensures.lower) in
    let upper = rw e at (simp to_z-of_z at c.quotient_down-most.ensures.upper) in
    high-kept c.args.by c.args.rest c.quotient_down-most.result c.args.span c.requires lower upper (search rules)
