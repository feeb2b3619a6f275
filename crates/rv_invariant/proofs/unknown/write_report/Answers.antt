use Rattle.std.specs.Prelude.{Some}
use Rattle.rv_invfile.proofs.Adding.{then-last}
use Rattle.rv_invariant.specs.{Certificates.body_records, Unknown.reason_records}
use Rattle.rv_invariant.proofs.unknown.write_report.Goals as goal

pub returns-clause-added : goal.returns-clause-added
returns-clause-added c =
    let report = c.args.report.now in
    then-last (λ v. Some v.items) c.args.writer.now c.write_reason.new.writer c.write_body.new.writer (reason_records report)
    (body_records c.args.flat.now report.partition) c.write_body.result c.in_ok-write_reason.ensures c.write_body.ensures.added
