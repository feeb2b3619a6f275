use Rattle.std.proofs.{Common.◌-ℤ◌, Common.pos, Common.FitsSigned, Common.rules, Common.arith, Common.◌<◌, lemmas.Int.to_z-of_z, lemmas.Int.ints}
use Rattle.std.specs.{Int.w128, Int.RustNames.unsigned_abs}
use Rattle.rv_poly.proofs.WholeLemmas.{low-cut, low-kept, quotient-fits}
use Rattle.rv_poly.proofs.spans.cut_low.Goals as goal

pub quotient_down-least-requires : goal.quotient_down-least-requires
quotient_down-least-requires c =
    let by_fits = c.ranges.by in
    let e = simp to_z-of_z at c.unsigned_abs.ensures.value in
    rw e (let p = c.requires.by in omega (arith, ints))

pub overflow_sub-least : goal.overflow_sub-least
overflow_sub-least c =
    let by_fits = c.ranges.by in
    let rest_fits = c.ranges.rest in
    let q_fits : FitsSigned w128 c.quotient_down-least.result = search rules in
    let e = simp to_z-of_z at c.unsigned_abs.ensures.value in
    let lower = rw e at (simp to_z-of_z at c.quotient_down-least.ensures.lower) in
    let upper = rw e at (simp to_z-of_z at c.quotient_down-least.ensures.upper) in
    let some : 0 < unsigned_abs c.args.by = (let p = c.requires.by in omega (arith, ints)) in
    simp to_z-of_z (quotient-fits (unsigned_abs c.args.by) c.quotient_down-least.result c.args.rest some c.requires.rest lower upper)

pub returns-then-span-least : goal.returns-then-span-least
returns-then-span-least c =
    let by_fits = c.ranges.by in
    let rest_fits = c.ranges.rest in
    let high_fits : FitsSigned w128 c.args.span.high = search rules in
    let q_fits : FitsSigned w128 c.quotient_down-least.result = search rules in
    let e = simp to_z-of_z at c.unsigned_abs.ensures.value in
    let lower = rw e at (simp to_z-of_z at c.quotient_down-least.ensures.lower) in
    let upper = rw e at (simp to_z-of_z at c.quotient_down-least.ensures.upper) in
    let some : 0 < unsigned_abs c.args.by = (let p = c.requires.by in omega (arith, ints)) in
    let o_fits : FitsSigned w128 (pos 0 -ℤ c.quotient_down-least.result) =
    quotient-fits (unsigned_abs c.args.by) c.quotient_down-least.result c.args.rest some c.requires.rest lower upper in
    simp to_z-of_z (low-cut c.args.by c.args.rest c.quotient_down-least.result c.args.span c.requires.by lower upper (search rules))

pub returns : goal.returns
returns c =
    let by_fits = c.ranges.by in
    let rest_fits = c.ranges.rest in
    let q_fits : FitsSigned w128 c.quotient_down-least.result = search rules in
    let e = simp to_z-of_z at c.unsigned_abs.ensures.value in
    let lower = rw e at (simp to_z-of_z at c.quotient_down-least.ensures.lower) in
    let upper = rw e at (simp to_z-of_z at c.quotient_down-least.ensures.upper) in
    let some : 0 < unsigned_abs c.args.by = (let p = c.requires.by in omega (arith, ints)) in
    let o_fits : FitsSigned w128 (pos 0 -ℤ c.quotient_down-least.result) =
    quotient-fits (unsigned_abs c.args.by) c.quotient_down-least.result c.args.rest some c.requires.rest lower upper in
    low-kept c.args.by c.args.rest c.quotient_down-least.result c.args.span c.requires.by lower upper (search rules)
