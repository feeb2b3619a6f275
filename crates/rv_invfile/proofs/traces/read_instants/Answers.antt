use Rattle.std.proofs.{Common.◌+◌, Common.◌-◌, Common.List, lemmas.Result.err_from_is_err_and}
use Rattle.rv_base.specs.declared.value.Value.{Value}
use Rattle.rv_invfile.specs.{Readers.run, Parts.times, Traces.instant}
use Rattle.rv_invfile.proofs.Loops.{times_at, times_past, goes_on, leaves, ends}
use Rattle.rv_invfile.proofs.traces.read_instants.Goals as goal

pub returns-in_err-read_instant : goal.returns-in_err-read_instant
returns-in_err-read_instant c =
    let rule = instant c.args.flat.now in
    let n = c.args.count in
    let i = c.loop-done.done in
    let p = err_from_is_err_and c.from_residual.result c.from_residual.ensures.1 in
    rw (p.1, p.2) (leaves rule (times (n - i) rule) (times (n - (i + 1)) rule) (times_at rule n i c.loop-done-test.true) (run (times n rule) c.args.records.now)
    c.loop-done.instants c.loop-done.records c.loop-done.invariant
    (λ (v : List Value). v) (λ (v : List (List Value)). v) c.in_err-read_instant.field-0.0 c.read_instant.new.records c.read_instant.new.records
    c.in_err-read_instant.ensures)

pub loop-done-preserved : goal.loop-done-preserved
loop-done-preserved c =
    let rule = instant c.args.flat.now in
    let n = c.args.count in
    let i = c.loop-done.done in
    goes_on rule (times (n - i) rule) (times (n - (i + 1)) rule) (times_at rule n i c.loop-done-test.true) (run (times n rule) c.args.records.now)
    c.loop-done.instants c.loop-done.records c.loop-done.invariant
    c.in_ok-read_instant.field-0 c.read_instant.new.records c.push.new.self c.in_ok-read_instant.ensures c.in_ok-push.ensures.ok

pub returns : goal.returns
returns c =
    ends (times (c.args.count - c.loop-done.done) (instant c.args.flat.now))
    (times_past (instant c.args.flat.now) c.args.count c.loop-done.done c.loop-done-test.false)
    (run (times c.args.count (instant c.args.flat.now)) c.args.records.now) c.loop-done.instants c.loop-done.records c.loop-done.invariant
