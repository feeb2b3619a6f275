use Rattle.std.proofs.{Common.◌+◌, Common.List, Common.refl, lemmas.Result.err_from_is_err_and}
use Rattle.rv_proofs.specs.declared.certificate.Entry.{Entry}
use Rattle.rv_rows.specs.declared.farkas.Multipliers.{Multipliers}
use Rattle.rv_invfile.specs.{Rules.done, Readers.run}
use Rattle.rv_invariant.specs.Certificates.{a_part, after_one, after_second, after_third, after_when, turn_entry}
use Rattle.rv_invariant.proofs.Choices.{chain-ok, chain-stops}
use Rattle.rv_invariant.proofs.turns.read_parts.Goals as goal

pub returns-in_err-first : goal.returns-in_err-first
returns-in_err-first c =
    let s = c.args.shape in
    let o = c.args.outline in
    let d = c.args.condition in
    let a = c.args.records.now in
    let p = err_from_is_err_and c.from_residual.result c.from_residual.ensures.1 in
    rw (p.1, p.2) (chain-stops (λ (ms : List Multipliers). ms) (λ (e : Entry). e) (a_part s o.entry o.first) (after_one s o d) (run (after_when s o d) a) a
    c.in_err-first.field-0.0 c.read_part.new.records refl c.in_err-first.ensures)

pub returns-in_err-before : goal.returns-in_err-before
returns-in_err-before c =
    let s = c.args.shape in
    let o = c.args.outline in
    let d = c.args.condition in
    let a = c.args.records.now in
    let whole = run (after_when s o d) a in
    let x1 = c.in_ok-first.first in
    let w1 = chain-ok (a_part s o.entry o.first) (after_one s o d) whole a c.read_part.new.records x1 refl c.in_ok-first.ensures in
    let p = err_from_is_err_and c.from_residual-in_err-before.result c.from_residual-in_err-before.ensures.1 in
    rw (p.1, p.2) (chain-stops (λ (ms : List Multipliers). ms) (λ (e : Entry). e) (a_part s o.first o.around) (after_second s o d x1) whole
    c.read_part.new.records c.in_err-before.field-0.0 c.read_part-2.new.records w1 c.in_err-before.ensures)

pub returns-in_err-around : goal.returns-in_err-around
returns-in_err-around c =
    let s = c.args.shape in
    let o = c.args.outline in
    let d = c.args.condition in
    let a = c.args.records.now in
    let whole = run (after_when s o d) a in
    let x1 = c.in_ok-first.first in
    let x2 = c.in_ok-before.before in
    let w1 = chain-ok (a_part s o.entry o.first) (after_one s o d) whole a c.read_part.new.records x1 refl c.in_ok-first.ensures in
    let w2 = chain-ok (a_part s o.first o.around) (after_second s o d x1) whole c.read_part.new.records c.read_part-2.new.records x2 w1
    c.in_ok-before.ensures in
    let p = err_from_is_err_and c.from_residual-in_err-around.result c.from_residual-in_err-around.ensures.1 in
    rw (p.1, p.2) (chain-stops (λ (ms : List Multipliers). ms) (λ (e : Entry). e) (a_part s (o.around + o.state) o.around) (after_third s o d x1 x2) whole
    c.read_part-2.new.records c.in_err-around.field-0.0 c.read_part-3.new.records w2 c.in_err-around.ensures)

pub returns-in_err-state : goal.returns-in_err-state
returns-in_err-state c =
    let s = c.args.shape in
    let o = c.args.outline in
    let d = c.args.condition in
    let a = c.args.records.now in
    let whole = run (after_when s o d) a in
    let x1 = c.in_ok-first.first in
    let x2 = c.in_ok-before.before in
    let x3 = c.in_ok-around.around in
    let w1 = chain-ok (a_part s o.entry o.first) (after_one s o d) whole a c.read_part.new.records x1 refl c.in_ok-first.ensures in
    let w2 = chain-ok (a_part s o.first o.around) (after_second s o d x1) whole c.read_part.new.records c.read_part-2.new.records x2 w1
    c.in_ok-before.ensures in
    let w3 = chain-ok (a_part s (o.around + o.state) o.around) (after_third s o d x1 x2) whole c.read_part-2.new.records c.read_part-3.new.records x3 w2
    c.in_ok-around.ensures in
    let p = err_from_is_err_and c.from_residual-in_err-state.result c.from_residual-in_err-state.ensures.1 in
    rw (p.1, p.2) (chain-stops (λ (ms : List Multipliers). ms) (λ (e : Entry). e) (a_part s (o.around + o.state) o.state)
    (λ (state : List Multipliers). done (turn_entry d x1 x2 x3 state)) whole
    c.read_part-3.new.records c.in_err-state.field-0.0 c.read_part-4.new.records w3 c.in_err-state.ensures)

pub returns : goal.returns
returns c =
    let s = c.args.shape in
    let o = c.args.outline in
    let d = c.args.condition in
    let a = c.args.records.now in
    let whole = run (after_when s o d) a in
    let x1 = c.in_ok-first.first in
    let x2 = c.in_ok-before.before in
    let x3 = c.in_ok-around.around in
    let w1 = chain-ok (a_part s o.entry o.first) (after_one s o d) whole a c.read_part.new.records x1 refl c.in_ok-first.ensures in
    let w2 = chain-ok (a_part s o.first o.around) (after_second s o d x1) whole c.read_part.new.records c.read_part-2.new.records x2 w1
    c.in_ok-before.ensures in
    let w3 = chain-ok (a_part s (o.around + o.state) o.around) (after_third s o d x1 x2) whole c.read_part-2.new.records c.read_part-3.new.records x3 w2
    c.in_ok-around.ensures in
    chain-ok (a_part s (o.around + o.state) o.state) (λ (state : List Multipliers). done (turn_entry d x1 x2 x3 state)) whole c.read_part-3.new.records
    c.read_part-4.new.records c.in_ok-state.state w3 c.in_ok-state.ensures
