use Rattle.std.proofs.Common.{arith}
use Rattle.rv_pairs.proofs.Pairing.{sum_past, sum_more}
use Rattle.rv_pairs.proofs.showing.misses.Goals as goal

pub loop-column-preserved : goal.loop-column-preserved
loop-column-preserved c = sum_more c.args.numbers.now c.args.one.now c.args.other.now c.loop-column.column c.loop-column.invariant c.if-differs.ensures

pub returns : goal.returns
returns c = sum_past c.args.numbers.now c.args.one.now c.args.other.now c.loop-column.column
    (omega (arith, c.loop-column-test.false, c.widest-width.ensures.first))
    (omega (arith, c.loop-column-test.false, c.widest-width.ensures.second))
    (omega (arith, c.loop-column-test.false, c.widest-width.ensures.third)) c.loop-column.invariant
