use Rattle.std.proofs.Common.{◌+◌, ◌-◌, List, length, arith, ap, ◌∙◌}
use Rattle.std.proofs.{lemmas.List.length_push, lemmas.Result.err_from_is_err_and}
use Rattle.rv_rows.specs.declared.linear.Row.{Row}
use Rattle.rv_invfile.specs.{Readers.run, Parts.times}
use Rattle.rv_invariant.specs.Pieces.{a_row}
use Rattle.rv_invfile.proofs.Loops.{times_at, times_past, goes_on, leaves, ends}
use Rattle.rv_invariant.proofs.rows.read_rows.Goals as goal

pub returns-in_err-read_row-clause-read : goal.returns-in_err-read_row-clause-read
returns-in_err-read_row-clause-read c =
    let rule = a_row c.args.memories in
    let n = c.args.count in
    let i = c.loop-done.done in
    let p = err_from_is_err_and c.from_residual-in_err-read_row.result c.from_residual-in_err-read_row.ensures.1 in
    rw (p.1, p.2) (leaves rule (times (n - i) rule) (times (n - (i + 1)) rule) (times_at rule n i c.loop-done-test.true) (run (times n rule) c.args.records.now)
    c.loop-done.rows c.loop-done.records c.loop-done.invariant.kept
    (λ (v : Row). v) (λ (v : List Row). v) c.in_err-read_row.field-0.0 c.read_row.new.records c.read_row.new.records c.in_err-read_row.ensures)

pub loop-done-preserved : goal.loop-done-preserved
loop-done-preserved c =
    let rule = a_row c.args.memories in
    let n = c.args.count in
    let i = c.loop-done.done in
    record {
      size = ap length c.in_ok-push.ensures.ok ∙ length_push c.loop-done.rows c.in_ok-read_row.field-0 ∙ ap (λ k. k + 1) c.loop-done.invariant.size;
      kept = goes_on rule (times (n - i) rule) (times (n - (i + 1)) rule) (times_at rule n i c.loop-done-test.true) (run (times n rule) c.args.records.now)
          c.loop-done.rows c.loop-done.records c.loop-done.invariant.kept
          c.in_ok-read_row.field-0 c.read_row.new.records c.push.new.self c.in_ok-read_row.ensures c.in_ok-push.ensures.ok;
    }

pub returns : goal.returns
returns c =
    let rule = a_row c.args.memories in
    record {
      read = ends (times (c.args.count - c.loop-done.done) rule) (times_past rule c.args.count c.loop-done.done c.loop-done-test.false)
          (run (times c.args.count rule) c.args.records.now) c.loop-done.rows c.loop-done.records c.loop-done.invariant.kept;
      counted = omega (arith, c.loop-done.invariant.size, c.loop-done-test.false);
    }
