use Rattle.std.proofs.Common.{◌∷◌, ◌++◌, [], map}
use Rattle.std.specs.Prelude.{Some, codes}
use Rattle.rv_invfile.proofs.Adding.{then-last}
use Rattle.rv_invariant.specs.Pieces.{by_record, diagram_record}
use Rattle.rv_invariant.proofs.writing.write_turn.Goals as goal

pub returns-clause-added : goal.returns-clause-added
returns-clause-added c =
    let when = diagram_record (codes "when") c.args.condition.now in
    let first = map by_record c.args.first.now in
    let before = map by_record c.args.before.now in
    let around = map by_record c.args.around.now in
    let state = map by_record c.args.state.now in
    let r = c.write_proofs-4.result in
    let w = c.write_proofs-4.new.writer in
    then-last (λ v. Some v.items) c.args.writer.now c.put.new.writer w ((codes "loop" ∷ []) ∷ []) (when ∷ (first ++ (before ++ (around ++ state)))) r
    c.in_ok-put.ensures
    (then-last (λ v. Some v.items) c.put.new.writer c.write_diagram.new.writer w (when ∷ []) (first ++ (before ++ (around ++ state))) r
    c.in_ok-write_diagram.ensures.added
    (then-last (λ v. Some v.items) c.write_diagram.new.writer c.write_proofs.new.writer w first (before ++ (around ++ state)) r c.in_ok-write_proofs.ensures
    (then-last (λ v. Some v.items) c.write_proofs.new.writer c.write_proofs-2.new.writer w before (around ++ state) r c.in_ok-write_proofs-2.ensures
    (then-last (λ v. Some v.items) c.write_proofs-2.new.writer c.write_proofs-3.new.writer w around state r c.in_ok-write_proofs-3.ensures
    c.write_proofs-4.ensures))))
