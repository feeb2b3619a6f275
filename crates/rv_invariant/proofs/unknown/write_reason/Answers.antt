use Rattle.std.proofs.Common.{◌∷◌, []}
use Rattle.std.specs.Prelude.{Some}
use Rattle.rv_invfile.proofs.Adding.{then-last}
use Rattle.rv_invariant.specs.Unknown.{left_record, unknown_record, why_record}
use Rattle.rv_invariant.proofs.unknown.write_reason.Goals as goal

pub returns : goal.returns
returns c =
    let report = c.args.report.now in
    let why = why_record report.why in
    let left = left_record report.left in
    let r = c.write_numbers.result in
    let w = c.write_numbers.new.writer in
    then-last (λ v. Some v.items) c.args.writer.now c.put.new.writer w (unknown_record ∷ []) (why ∷ left ∷ []) r c.in_ok-put.ensures
    (then-last (λ v. Some v.items) c.put.new.writer c.write_why.new.writer w (why ∷ []) (left ∷ []) r c.in_ok-write_why.ensures c.write_numbers.ensures)
