use Rattle.std.proofs.Common.{◌∷◌, [], ℕ, map, subst}
use Rattle.std.specs.Prelude.{Some, codes, decimal}
use Rattle.rv_invfile.specs.Writes.{Adds}
use Rattle.rv_invfile.proofs.Adding.{then-last}
use Rattle.rv_invariant.specs.Pieces.{by_record, diagram_record}
use Rattle.rv_invariant.proofs.writing.write_go.Goals as goal

pub returns-clause-added : goal.returns-clause-added
returns-clause-added c =
    let when = diagram_record (codes "when") c.args.condition.now in
    let reach = map by_record c.args.reach.now in
    let go = codes "go" ∷ decimal c.args.target ∷ [] in
    let began = subst (λ (n : ℕ). Adds (λ v. Some v.items) c.args.writer.now c.put_count.new.writer ((codes "go" ∷ decimal n ∷ []) ∷ [])) c.from.ensures
    c.in_ok-put_count.ensures in
    then-last (λ v. Some v.items) c.args.writer.now c.put_count.new.writer c.write_proofs.new.writer (go ∷ []) (when ∷ reach) c.write_proofs.result
    began
    (then-last (λ v. Some v.items) c.put_count.new.writer c.write_diagram.new.writer c.write_proofs.new.writer (when ∷ []) reach c.write_proofs.result
    c.in_ok-write_diagram.ensures.added c.write_proofs.ensures)
