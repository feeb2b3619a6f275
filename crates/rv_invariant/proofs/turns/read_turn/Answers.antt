use Rattle.std.proofs.{Common.◌∷◌, Common.[], Common.refl, lemmas.Result.err_from_is_err_and}
use Rattle.std.specs.Prelude.{codes, false, ⊤}
use Rattle.rv_diagram.specs.declared.frozen.Frozen.{Frozen}
use Rattle.rv_proofs.specs.declared.certificate.Entry.{Entry}
use Rattle.rv_invfile.specs.{Readers.run, Forms.exactly}
use Rattle.rv_invariant.specs.{Certificates.after_when, Certificates.turn_rule, Certificates.whole_turn, Pieces.a_diagram}
use Rattle.rv_invariant.proofs.Choices.{chain-ok, chain-stops, chain-last}
use Rattle.rv_invariant.proofs.turns.read_turn.Goals as goal

pub returns-in_err-read_exactly : goal.returns-in_err-read_exactly
returns-in_err-read_exactly c =
    let s = c.args.shape in
    let o = c.args.outline in
    let a = c.args.records.now in
    let p = err_from_is_err_and c.from_residual.result c.from_residual.ensures.1 in
    rw (p.1, p.2) (chain-stops (λ (u : ⊤). u) (λ (e : Entry). e) (exactly (codes "loop" ∷ [])) (λ u. turn_rule s o) (run (whole_turn s o) a) a
    c.in_err-read_exactly.field-0.0 c.read_exactly.new.records refl c.in_err-read_exactly.ensures.read)

pub returns-in_err-condition : goal.returns-in_err-condition
returns-in_err-condition c =
    let s = c.args.shape in
    let o = c.args.outline in
    let a = c.args.records.now in
    let whole = run (whole_turn s o) a in
    let w1 = chain-ok (exactly (codes "loop" ∷ [])) (λ u. turn_rule s o) whole a c.read_exactly.new.records tt refl c.in_ok-read_exactly.ensures.read in
    let p = err_from_is_err_and c.from_residual-in_err-condition.result c.from_residual-in_err-condition.ensures.1 in
    rw (p.1, p.2) (chain-stops (λ (d : Frozen). d) (λ (e : Entry). e) (a_diagram s (codes "when") false) (after_when s o) whole c.read_exactly.new.records
    c.in_err-condition.field-0.0 c.read_diagram.new.records w1 c.in_err-condition.ensures)

pub returns : goal.returns
returns c =
    let s = c.args.shape in
    let o = c.args.outline in
    let a = c.args.records.now in
    let d = c.in_ok-condition.condition in
    let whole = run (whole_turn s o) a in
    let w1 = chain-ok (exactly (codes "loop" ∷ [])) (λ u. turn_rule s o) whole a c.read_exactly.new.records tt refl c.in_ok-read_exactly.ensures.read in
    let w2 = chain-ok (a_diagram s (codes "when") false) (after_when s o) whole c.read_exactly.new.records c.read_diagram.new.records d w1
    c.in_ok-condition.ensures in
    chain-last (λ (e : Entry). e) (after_when s o d) whole c.read_diagram.new.records c.read_parts.result c.read_parts.new.records w2 c.read_parts.ensures
