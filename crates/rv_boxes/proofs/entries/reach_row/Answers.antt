use Rattle.std.proofs.Common.{arith, refl, length}
use Rattle.rv_boxes.specs.Boxed.{IsGreatest, IsUnbounded}
use Rattle.rv_boxes.proofs.entries.reach_row.Goals as goal

pub greatest-requires-clause-width : goal.greatest-requires-clause-width
greatest-requires-clause-width c = c.requires.wanted.narrow c.in_ok-row.row c.in_ok-row.ensures.exact

pub greatest-requires-clause-few : goal.greatest-requires-clause-few
greatest-requires-clause-few c = omega (arith, c.requires.few, c.requires.wanted.narrow c.in_ok-row.row c.in_ok-row.ensures.exact)

pub greatest-requires-clause-sizes : goal.greatest-requires-clause-sizes
greatest-requires-clause-sizes c = c.requires.wanted.small c.in_ok-row.row c.in_ok-row.ensures.exact

pub returns : goal.returns
returns c =
    let great : IsGreatest (length c.args.ends.now) c.args.premises.now c.in_ok-row.row.coefficients c.in-Some.peak = rw c.in-Some.is at
    c.in_ok-peak.ensures.some in (
      c.in_ok-row.row,
      c.in-Some.peak,
      omega (arith, c.requires.few, c.requires.wanted.narrow c.in_ok-row.row c.in_ok-row.ensures.exact),
      c.in_ok-row.ensures.exact,
      great,
      refl,
    )

pub unreachable-requires : goal.unreachable-requires
unreachable-requires c =
    let free : IsUnbounded (length c.args.ends.now) c.args.premises.now c.in_ok-row.row.coefficients = rw c.in-None.is at c.in_ok-peak.ensures.none in
    c.requires.wanted.bounded c.in_ok-row.row c.in_ok-row.ensures.exact free
