use Rattle.std.proofs.Common.{◌≡◌, ◌-◌, [], length, take, drop, rules, drop_of_length-le}
use Rattle.rv_machine.proofs.Fronts.{none_written, more_written, same_written, all_written, front_written}
use Rattle.rv_machine.proofs.standard_out.write_whole.Goals.{in-Ok, in-Err}
use Rattle.rv_machine.proofs.standard_out.write_whole.Goals as goal

pub loop-init : goal.loop-init
loop-init g c = none_written (g.W.Write.contents c.args.writer.now) c.args.piece.now

pub loop-preserved : goal.loop-preserved
loop-preserved g c =
    let old = g.W.Write.contents c.args.writer.now in
    let now = g.W.Write.contents c.loop.writer in
    let new = g.W.Write.contents c.write.new.self in
    let piece = c.args.piece.now in
    let rest = c.loop.rest.now in
    elim c.match-write.branch [
      | in-Ok w ↦ rw w.rest-is (more_written old now new piece rest w.in-Ok.count c.loop.invariant w.in-Ok.ensures.bytes)
      | in-Err w ↦ rw w.rest-is (same_written old now new piece rest c.loop.invariant w.in-Err.ensures.bytes)
    ]

pub returns-then-is_empty-clause-whole : goal.returns-then-is_empty-clause-whole
returns-then-is_empty-clause-whole g c =
    let empty : c.loop.rest.now ≡ [] = drop_of_length-le c.loop.rest.now {i = 0} (search rules) in
    all_written (g.W.Write.contents c.args.writer.now) (g.W.Write.contents c.loop.writer) c.args.piece.now c.loop.rest.now c.loop.invariant empty

pub returns-in-Ok-eq0-clause-front : goal.returns-in-Ok-eq0-clause-front
returns-in-Ok-eq0-clause-front g c =
    let old = g.W.Write.contents c.args.writer.now in
    let new = g.W.Write.contents c.write.new.self in
    let piece = c.args.piece.now in
    let rest = c.loop.rest.now in
    let n = c.in-Ok-eq0.field-0 in
    let bytes = rw c.in-Ok-eq0.is at c.write.ensures.bytes in
    front_written old new piece (take (length rest - n) (drop n rest))
    (more_written old (g.W.Write.contents c.loop.writer) new piece rest n c.loop.invariant bytes)

pub returns-in-Err-2-clause-front : goal.returns-in-Err-2-clause-front
returns-in-Err-2-clause-front g c =
    let front = same_written (g.W.Write.contents c.args.writer.now) (g.W.Write.contents c.loop.writer) (g.W.Write.contents c.write.new.self)
    c.args.piece.now c.loop.rest.now c.loop.invariant c.in-Err.ensures.bytes in
    front_written (g.W.Write.contents c.args.writer.now) (g.W.Write.contents c.write.new.self) c.args.piece.now c.loop.rest.now front

pub returns-clause-front : goal.returns-clause-front
returns-clause-front g c =
    front_written (g.W.Write.contents c.args.writer.now) (g.W.Write.contents c.loop.writer) c.args.piece.now c.loop.rest.now c.loop.invariant
