use Rattle.std.proofs.{Common.◌≤ℤ◌, Common.FitsSigned, Common.arith, Common.rules, lemmas.Int.to_z-of_z, lemmas.Int.ints}
use Rattle.std.specs.Int.{w128}
use Rattle.rv_poly.proofs.WholeLemmas.{low-replay, high-replay, le-itself}
use Rattle.rv_poly.proofs.spans.nearest.Goals as goal

pub returns-then-span-clause-replay : goal.returns-then-span-clause-replay
returns-then-span-clause-replay c =
    let wanted_fits = c.ranges.wanted in
    simp to_z-of_z c.requires.wanted

pub returns-then-span-clause-within : goal.returns-then-span-clause-within
returns-then-span-clause-within c h =
    let t = c.if-span.true in
    absurd (omega (arith, ints))

pub returns-then-wanted-span-clause-replay : goal.returns-then-wanted-span-clause-replay
returns-then-wanted-span-clause-replay c =
    let low_fits : FitsSigned w128 c.args.span.low = search rules in
    let some : c.args.span.low ≤ℤ c.args.span.high = (let t = c.if-span.false in first_of (search rules, omega (arith, ints))) in
    simp to_z-of_z (low-replay c.args.span.low c.args.span.high c.requires.low c.requires.high some)

pub returns-then-wanted-span-clause-within : goal.returns-then-wanted-span-clause-within
returns-then-wanted-span-clause-within c h =
    let low_fits : FitsSigned w128 c.args.span.low = search rules in
    simp to_z-of_z (le-itself c.args.span.low, h)

pub returns-then-span-wanted-clause-replay : goal.returns-then-span-wanted-clause-replay
returns-then-span-wanted-clause-replay c =
    let high_fits : FitsSigned w128 c.args.span.high = search rules in
    let some : c.args.span.low ≤ℤ c.args.span.high = (let t = c.if-span.false in first_of (search rules, omega (arith, ints))) in
    simp to_z-of_z (high-replay c.args.span.low c.args.span.high c.requires.low c.requires.high some)

pub returns-then-span-wanted-clause-within : goal.returns-then-span-wanted-clause-within
returns-then-span-wanted-clause-within c h =
    let high_fits : FitsSigned w128 c.args.span.high = search rules in
    simp to_z-of_z (h, le-itself c.args.span.high)

pub returns-clause-replay : goal.returns-clause-replay
returns-clause-replay c =
    let wanted_fits = c.ranges.wanted in
    simp to_z-of_z c.requires.wanted

pub returns-clause-within : goal.returns-clause-within
returns-clause-within c h =
    let wanted_fits = c.ranges.wanted in
    let above : c.args.span.low ≤ℤ c.args.wanted = (let t = c.if-wanted-span.false in first_of (search rules, omega (arith, ints))) in
    let below : c.args.wanted ≤ℤ c.args.span.high = (let t = c.if-span-wanted.false in first_of (search rules, omega (arith, ints))) in
    simp to_z-of_z (above, below)
