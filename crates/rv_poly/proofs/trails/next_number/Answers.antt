use Rattle.std.proofs.{Common.◌≤ℤ◌, Common.FitsSigned, Common.arith, Common.rules, lemmas.Int.to_z-of_z, lemmas.Int.ints}
use Rattle.std.specs.Int.{w128}
use Rattle.rv_poly.proofs.GuideLemmas.{between-replay}
use Rattle.rv_poly.proofs.trails.next_number.Goals as goal

pub nearest-requires : goal.nearest-requires
nearest-requires c =
    let wanted_fits = c.ranges.wanted in
    record { low = c.requires.low; high = c.requires.high; wanted = simp to_z-of_z c.requires.wanted }

pub returns : goal.returns
returns c =
    let next_fits : FitsSigned w128 c.at_least-next.result = search rules in
    let above : c.args.span.low ≤ℤ c.at_least-next.result = (let t = c.if-next-span.false in first_of (search rules, omega (arith, ints))) in
    let below : c.at_least-next.result ≤ℤ c.args.span.high = (let t = c.if-span-next.false in first_of (search rules, omega (arith, ints))) in
    simp to_z-of_z (between-replay c.args.span.low c.args.span.high c.at_least-next.result c.requires.low c.requires.high above below)
