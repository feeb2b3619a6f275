use Rattle.std.proofs.{Common.◌+◌, Common.◌-◌, Common.◌^◌, Common.List, lemmas.Result.err_from_is_err_and}
use Rattle.rv_rows.specs.declared.farkas.Multipliers.{Multipliers}
use Rattle.rv_invfile.specs.{Readers.run, Parts.times}
use Rattle.rv_invariant.specs.Pieces.{a_proof}
use Rattle.rv_invfile.proofs.Loops.{times_at, times_past, goes_on, leaves, ends}
use Rattle.rv_invariant.proofs.multipliers.read_proofs.Goals as goal

pub returns-in_err-read_proof : goal.returns-in_err-read_proof
returns-in_err-read_proof c =
    let rule = a_proof (2 ^ 30) c.args.premises in
    let n = c.args.count in
    let i = c.loop-done.done in
    let p = err_from_is_err_and c.from_residual-in_err-read_proof.result c.from_residual-in_err-read_proof.ensures.1 in
    rw (p.1, p.2) (leaves rule (times (n - i) rule) (times (n - (i + 1)) rule) (times_at rule n i c.loop-done-test.true) (run (times n rule) c.args.records.now)
    c.loop-done.proofs c.loop-done.records c.loop-done.invariant
    (λ (v : Multipliers). v) (λ (v : List Multipliers). v) c.in_err-read_proof.field-0.0 c.read_proof.new.records c.read_proof.new.records
    c.in_err-read_proof.ensures)

pub loop-done-preserved : goal.loop-done-preserved
loop-done-preserved c =
    let rule = a_proof (2 ^ 30) c.args.premises in
    let n = c.args.count in
    let i = c.loop-done.done in
    goes_on rule (times (n - i) rule) (times (n - (i + 1)) rule) (times_at rule n i c.loop-done-test.true) (run (times n rule) c.args.records.now)
    c.loop-done.proofs c.loop-done.records c.loop-done.invariant
    c.in_ok-read_proof.field-0 c.read_proof.new.records c.push.new.self c.in_ok-read_proof.ensures c.in_ok-push.ensures.ok

pub returns : goal.returns
returns c =
    let rule = a_proof (2 ^ 30) c.args.premises in
    ends (times (c.args.count - c.loop-done.done) rule) (times_past rule c.args.count c.loop-done.done c.loop-done-test.false)
    (run (times c.args.count rule) c.args.records.now) c.loop-done.proofs c.loop-done.records c.loop-done.invariant
