use Rattle.std.proofs.{Common.length, Common.arith, Common.None, lemmas.Option.get_or_from_slice_get}
use Rattle.rv_boxes.proofs.Limiting.{limit_noted}
use Rattle.rv_boxes.proofs.bounding.limit_rows.Goals as goal

pub loop-memory-preserved : goal.loop-memory-preserved
loop-memory-preserved c =
    limit_noted c.args.limits.now (length c.args.limits.now) _ c.loop-memory.memory c.loop-memory.rows c.note_limit.new.rows
    (omega (arith, c.len-memories.ensures))
    c.loop-memory.invariant c.at-limit.result.now (get_or_from_slice_get c.args.limits.now c.loop-memory.memory c.at-limit.result.now None
    c.at-limit.ensures.value)
    (rw c.len-memories.ensures at c.in_ok-note_limit.ensures)
