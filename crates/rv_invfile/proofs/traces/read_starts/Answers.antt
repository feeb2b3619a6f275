use Rattle.std.proofs.{Common.◌+◌, Common.List, Common.drop, lemmas.Result.err_from_is_err_and}
use Rattle.rv_base.specs.declared.value.Value.{Value}
use Rattle.rv_invfile.specs.{Readers.run, Parts.each, Traces.start}
use Rattle.rv_invfile.proofs.Loops.{each_at, each_past, goes_on, leaves, ends}
use Rattle.rv_invfile.proofs.traces.read_starts.Goals as goal

pub returns-in_err-read_start : goal.returns-in_err-read_start
returns-in_err-read_start c =
    let rule = start c.args.labels.now in
    let ps = c.args.memories.now in
    let i = c.loop-memory.memory-index in
    let m = c.memory-item.result in
    let p = err_from_is_err_and c.from_residual.result c.from_residual.ensures.1 in
    rw (p.1, p.2) (leaves (rule m) (each rule (drop i ps)) (each rule (drop (i + 1) ps)) (each_at rule ps i m c.loop-memory-test.true c.memory-item.is)
    (run (each rule ps) c.args.records.now) c.loop-memory.values c.loop-memory.records c.loop-memory.invariant
    (λ (v : Value). v) (λ (v : List Value). v) c.in_err-read_start.field-0.0 c.read_start.new.records c.read_start.new.records c.in_err-read_start.ensures)

pub loop-memory-preserved : goal.loop-memory-preserved
loop-memory-preserved c =
    let rule = start c.args.labels.now in
    let ps = c.args.memories.now in
    let i = c.loop-memory.memory-index in
    let m = c.memory-item.result in
    goes_on (rule m) (each rule (drop i ps)) (each rule (drop (i + 1) ps)) (each_at rule ps i m c.loop-memory-test.true c.memory-item.is)
    (run (each rule ps) c.args.records.now) c.loop-memory.values c.loop-memory.records c.loop-memory.invariant
    c.in_ok-read_start.field-0 c.read_start.new.records c.push.new.self c.in_ok-read_start.ensures c.in_ok-push.ensures.ok

pub returns : goal.returns
returns c =
    ends (each (start c.args.labels.now) (drop c.loop-memory.memory-index c.args.memories.now))
    (each_past (start c.args.labels.now) c.args.memories.now c.loop-memory.memory-index c.loop-memory-test.false)
    (run (each (start c.args.labels.now) c.args.memories.now) c.args.records.now) c.loop-memory.values c.loop-memory.records c.loop-memory.invariant
