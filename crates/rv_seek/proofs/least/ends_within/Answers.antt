use Rattle.std.proofs.Common.{◌≤◌, length, arith}
use Rattle.rv_seek.proofs.SideLemmas.{all_past}
use Rattle.rv_seek.proofs.least.ends_within.Goals as goal

pub returns : goal.returns
returns c =
    let le : length c.args.wanted.now ≤ c.loop-column.column = omega arith in
    all_past c.args.wanted.now c.args.width c.loop-column.column le c.loop-column.invariant
