use Rattle.std.proofs.Common.{◌≡◌, ℕ, ◌++◌, ◌∷◌, [], FitsSigned, rules, arith, subst}
use Rattle.std.proofs.lemmas.Int.{to_z-of_z}
use Rattle.std.specs.Int.{w128}
use Rattle.rv_poly.specs.Whole.{IsCandidate}
use Rattle.rv_poly.proofs.WholeLemmas.{candidate-none, candidate-more, width-past}
use Rattle.rv_poly.proofs.point.candidate.Goals as goal

pub loop-column-init : goal.loop-column-init
loop-column-init c = rw c.new-point.ensures (candidate-none c.args.rows.now)

pub span_of-span-requires-clause-fits : goal.span_of-span-requires-clause-fits
span_of-span-requires-clause-fits c = c.requires.fits

pub span_of-span-requires-clause-widths : goal.span_of-span-requires-clause-widths
span_of-span-requires-clause-widths c = width-past c.args.rows.now c.args.width c.loop-column.column c.requires.widths c.loop-column-test.true

pub span_of-span-requires-clause-size : goal.span_of-span-requires-clause-size
span_of-span-requires-clause-size c = c.loop-column.invariant.size

pub span_of-span-requires-clause-point : goal.span_of-span-requires-clause-point
span_of-span-requires-clause-point c = c.loop-column.invariant.replay

pub nearest-number-requires-clause-low : goal.nearest-number-requires-clause-low
nearest-number-requires-clause-low c = c.span_of-span.ensures.low

pub nearest-number-requires-clause-high : goal.nearest-number-requires-clause-high
nearest-number-requires-clause-high c = c.span_of-span.ensures.high

pub nearest-number-requires-clause-wanted : goal.nearest-number-requires-clause-wanted
nearest-number-requires-clause-wanted c =
    let wanted_fits = c.ranges.wanted in
    simp to_z-of_z c.requires.wanted

pub loop-column-preserved : goal.loop-column-preserved
loop-column-preserved c =
    let number_fits : FitsSigned w128 c.nearest-number.result = search rules in
    let new_is : c.push.new.self ≡ c.loop-column.point ++ c.nearest-number.result ∷ [] = simp to_z-of_z at c.in_ok-push.ensures.ok in
    rw new_is (candidate-more c.args.rows.now c.loop-column.column c.loop-column.point c.nearest-number.result c.span_of-span.result c.loop-column.invariant
    c.span_of-span.ensures c.nearest-number.ensures.replay c.nearest-number.ensures.within)

pub returns : goal.returns
returns c =
    let past = c.loop-column-test.false in
    let last = c.loop-column.auto.column-end in
    let all : c.loop-column.column ≡ c.args.width = omega arith in
    let P : ℕ → Type 0 = λ n. IsCandidate c.args.rows.now n c.loop-column.point in
    subst P all c.loop-column.invariant
