use Rattle.std.proofs.Common.{◌∷◌, []}
use Rattle.std.specs.Prelude.{Some}
use Rattle.rv_invfile.proofs.Adding.{then-last}
use Rattle.rv_invariant.specs.Certificates.{body_records, first_record}
use Rattle.rv_invariant.proofs.writing.write_records.Goals as goal

pub returns-clause-added : goal.returns-clause-added
returns-clause-added c =
    then-last (λ v. Some v.items) c.args.writer.now c.put.new.writer c.write_body.new.writer (first_record ∷ [])
    (body_records c.args.flat.now c.args.certificate.now) c.write_body.result c.in_ok-put.ensures c.write_body.ensures.added
