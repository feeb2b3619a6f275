use Rattle.std.proofs.{Common.pos, Common.◌≤ℤ◌, Common.◌<ℤ◌, Common.arith, Common.rules, lemmas.Int.to_z-of_z, lemmas.Int.ints}
use Rattle.rv_poly.proofs.WholeLemmas.{below-zero}
use Rattle.rv_poly.proofs.spans.cut_span.Goals as goal

pub cut_high-requires : goal.cut_high-requires
cut_high-requires c =
    let by_fits = c.ranges.by in
    let above : pos 0 <ℤ c.args.by = (let t = c.if-by-gt0.true in first_of (search rules, omega (arith, ints))) in
    simp to_z-of_z above

pub returns-then-by-gt0 : goal.returns-then-by-gt0
returns-then-by-gt0 c =
    let by_fits = c.ranges.by in
    let rest_fits = c.ranges.rest in
    simp to_z-of_z at c.cut_high.ensures

pub cut_low-requires-clause-by : goal.cut_low-requires-clause-by
cut_low-requires-clause-by c =
    let by_fits = c.ranges.by in
    let not_above : c.args.by ≤ℤ pos 0 = (let t = c.if-by-gt0.false in first_of (search rules, omega (arith, ints))) in
    simp to_z-of_z (below-zero c.args.by c.requires.by not_above)

pub cut_low-requires-clause-rest : goal.cut_low-requires-clause-rest
cut_low-requires-clause-rest c =
    let rest_fits = c.ranges.rest in
    simp to_z-of_z c.requires.rest

pub returns : goal.returns
returns c =
    let by_fits = c.ranges.by in
    let rest_fits = c.ranges.rest in
    simp to_z-of_z at c.cut_low.ensures
