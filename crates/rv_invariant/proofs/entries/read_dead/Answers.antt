use Rattle.std.proofs.{Common.◌≡◌, Common.◌+◌, Common.[], Common.◌∷◌, Common.◌∙◌, Common.subst, lemmas.Result.err_from_is_err_and}
use Rattle.std.specs.Prelude.{codes, false, Ok, Err, ⊤}
use Rattle.rv_diagram.specs.declared.frozen.Frozen.{Frozen}
use Rattle.rv_proofs.specs.declared.certificate.Entry.{Entry}
use Rattle.rv_rows.specs.declared.farkas.Multipliers.{Multipliers}
use Rattle.rv_invfile.specs.{Readers.Reads, Readers.run, Forms.exactly, Parts.bind}
use Rattle.rv_invfile.proofs.Bound.{bind_ok, bind_err}
use Rattle.rv_invariant.specs.{Certificates.dead_rule, Certificates.dead_entry, Certificates.whole_dead, Continues.Then, Pieces.a_diagram, Pieces.a_proof}
use Rattle.rv_invariant.proofs.{Going.dead-to-proof, Choices.continues-part}
use Rattle.rv_invariant.proofs.entries.read_dead.Goals as goal

pub returns-in_err-read_exactly : goal.returns-in_err-read_exactly
returns-in_err-read_exactly c =
    let s = c.args.shape in
    let known = c.args.known.now in
    let st = c.args.state in
    let a = c.args.records.now in
    let p = err_from_is_err_and c.from_residual.result c.from_residual.ensures.1 in
    rw (p.1, p.2) (continues-part (λ (u : ⊤). u) (run (exactly (codes "dead" ∷ [])) a) (λ (next : Then Entry). run (whole_dead s st next known) a)
    c.in_err-read_exactly.field-0.0 known c.read_exactly.new.records c.read_exactly.new.records
    c.in_err-read_exactly.ensures.read (λ next w x h. bind_err (exactly (codes "dead" ∷ [])) (λ u. dead_rule s st next known) a x h))

pub returns-in_err-condition : goal.returns-in_err-condition
returns-in_err-condition c =
    let s = c.args.shape in
    let known = c.args.known.now in
    let st = c.args.state in
    let a = c.args.records.now in
    let p = err_from_is_err_and c.from_residual-in_err-condition.result c.from_residual-in_err-condition.ensures.1 in
    rw (p.1, p.2) (continues-part (λ (d : Frozen). d) (run (a_diagram s (codes "when") false) c.read_exactly.new.records)
    (λ (next : Then Entry). run (whole_dead s st next known) a) c.in_err-condition.field-0.0 known c.read_diagram.new.records c.read_diagram.new.records
    c.in_err-condition.ensures (λ next w x h. bind_ok (exactly (codes "dead" ∷ [])) (λ u. dead_rule s st next known) a c.read_exactly.new.records tt
    c.in_ok-read_exactly.ensures.read
    ∙ bind_err (a_diagram s (codes "when") false) (λ when. bind (a_proof 1 (st + s.tests)) (λ by. next (dead_entry when by) known)) c.read_exactly.new.records x
    h))

pub returns-in_err-by : goal.returns-in_err-by
returns-in_err-by c =
    let s = c.args.shape in
    let known = c.args.known.now in
    let st = c.args.state in
    let a = c.args.records.now in
    let d = c.in_ok-condition.condition in
    let p = err_from_is_err_and c.from_residual-in_err-by.result c.from_residual-in_err-by.ensures.1 in
    rw (p.1, p.2) (continues-part (λ (m : Multipliers). m) (run (a_proof 1 (st + s.tests)) c.read_diagram.new.records)
    (λ (next : Then Entry). run (whole_dead s st next known) a) c.in_err-by.field-0.0 known c.read_proof.new.records c.read_proof.new.records
    (subst (λ t. Reads (λ (m : Multipliers). m) (run (a_proof 1 (st + t)) c.read_diagram.new.records) (Err c.in_err-by.field-0.0) c.read_proof.new.records)
    c.from.ensures c.in_err-by.ensures) (λ next w x h. dead-to-proof s 0 st known next a c.read_exactly.new.records c.read_diagram.new.records 0 d
    c.in_ok-read_exactly.ensures.read c.in_ok-condition.ensures
    ∙ bind_err (a_proof 1 (st + s.tests)) (λ by. next (dead_entry d by) known) c.read_diagram.new.records x h))

pub returns : goal.returns
returns c next w =
    let s = c.args.shape in
    let known = c.args.known.now in
    let st = c.args.state in
    let d = c.in_ok-condition.condition in
    dead-to-proof s 0 st known next c.args.records.now c.read_exactly.new.records c.read_diagram.new.records 0 d c.in_ok-read_exactly.ensures.read
    c.in_ok-condition.ensures
    ∙ bind_ok (a_proof 1 (st + s.tests)) (λ by. next (dead_entry d by) known) c.read_diagram.new.records c.read_proof.new.records c.in_ok-by.by
    (subst (λ t. run (a_proof 1 (st + t)) c.read_diagram.new.records ≡ Ok (c.in_ok-by.by, c.read_proof.new.records)) c.from.ensures c.in_ok-by.ensures)
