use Rattle.std.proofs.Common.{◌∷◌, []}
use Rattle.std.specs.Prelude.{Some, codes}
use Rattle.rv_invfile.proofs.Adding.{then-last}
use Rattle.rv_invariant.specs.Pieces.{by_record, diagram_record}
use Rattle.rv_invariant.proofs.writing.write_dead.Goals as goal

pub returns-clause-added : goal.returns-clause-added
returns-clause-added c =
    let when = diagram_record (codes "when") c.args.condition.now in
    let by = by_record c.args.by.now in
    then-last (λ v. Some v.items) c.args.writer.now c.put.new.writer c.write_proof.new.writer ((codes "dead" ∷ []) ∷ []) (when ∷ by ∷ []) c.write_proof.result
    c.in_ok-put.ensures
    (then-last (λ v. Some v.items) c.put.new.writer c.write_diagram.new.writer c.write_proof.new.writer (when ∷ []) (by ∷ []) c.write_proof.result
    c.in_ok-write_diagram.ensures.added c.write_proof.ensures)
