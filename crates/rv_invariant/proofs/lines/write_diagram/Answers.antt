use Rattle.std.proofs.Common.{◌∷◌, [], ◌<◌, ◌^◌, rules}
use Rattle.std.specs.Prelude.{Some, decimal}
use Rattle.rv_invariant.specs.{Certificates.IsHeld, Pieces.diagram_record}
use Rattle.rv_invariant.proofs.Adding.{put-made, settled}
use Rattle.rv_invariant.proofs.lines.write_diagram.Goals as goal

pub returns-clause-added : goal.returns-clause-added
returns-clause-added c =
    let word = c.args.word.now in
    let d = c.args.diagram.now in
    put-made (λ v. Some v.items) c.args.writer.now c.put_row.new.writer c.add_nodes.new.row (diagram_record word d) c.put_row.result
    (c.in_ok-add_nodes.ensures.fields (word ∷ decimal d.root ∷ []) (c.in_ok-add_number.ensures (word ∷ []) c.in_ok-row.ensures)) c.put_row.ensures

pub returns-clause-held : goal.returns-clause-held
returns-clause-held c =
    let held = c.in_ok-add_nodes.ensures.held in
    let root : c.args.diagram.now.root < 2 ^ 32 = search rules in
    settled (IsHeld c.args.diagram.now) c.put_row.result (record { root = root; low = λ n l. (held n l).0; high = λ n l. (held n l).1 })
