use Rattle.std.proofs.Common.{arith}
use Rattle.rv_poly.proofs.MovedLemmas.{moves-more, moves-not, moves-all}
use Rattle.rv_poly.proofs.moving.are_moves.Goals as goal

pub loop-column-preserved : goal.loop-column-preserved
loop-column-preserved c =
    moves-more c.args.updates.now c.loop-column.column c.at-form.result.now c.loop-column.invariant c.at-form.ensures.value
    (rw c.if-not-is_move.false at c.is_move.ensures)

pub returns-then-not-is_move : goal.returns-then-not-is_move
returns-then-not-is_move c =
    moves-not c.args.updates.now c.loop-column.column c.at-form.result.now (omega (arith, c.len-column-end.ensures)) c.at-form.ensures.value
    (rw c.if-not-is_move.true at c.is_move.ensures)

pub returns : goal.returns
returns c =
    let past = c.loop-column-test.false in
    let last = c.loop-column.auto.column-end in
    let size = c.len-column-end.ensures in
    moves-all c.args.updates.now c.loop-column.column (omega arith) c.loop-column.invariant
