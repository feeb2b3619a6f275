use Rattle.std.proofs.{Common.List, Common.refl, lemmas.Result.err_from_is_err_and}
use Rattle.std.specs.Prelude.{codes}
use Rattle.rv_rows.specs.declared.linear.Row.{Row}
use Rattle.rv_invfile.specs.{Rules.done, Readers.run}
use Rattle.rv_invariant.specs.Certificates.{after_around, after_entry, after_first}
use Rattle.rv_invariant.specs.{declared.fronts.Lists.Lists, Pieces.a_list}
use Rattle.rv_invariant.proofs.Choices.{chain-ok, chain-stops}
use Rattle.rv_invariant.proofs.fronts.read_others.Goals as goal

pub returns-in_err-first-clause-read : goal.returns-in_err-first-clause-read
returns-in_err-first-clause-read c =
    let m = c.args.memories in
    let whole = run (after_entry m c.args.entry) c.args.records.now in
    let p = err_from_is_err_and c.from_residual.result c.from_residual.ensures.1 in
    rw (p.1, p.2) (chain-stops (λ (r : List Row). r) (λ (l : Lists). l) (a_list m (codes "first") 0 1024) (after_first m c.args.entry) whole c.args.records.now
    c.in_err-first.field-0.0 c.read_list.new.records refl c.in_err-first.ensures.read)

pub returns-in_err-around-clause-read : goal.returns-in_err-around-clause-read
returns-in_err-around-clause-read c =
    let m = c.args.memories in
    let whole = run (after_entry m c.args.entry) c.args.records.now in
    let w1 = chain-ok (a_list m (codes "first") 0 1024) (after_first m c.args.entry) whole c.args.records.now c.read_list.new.records c.in_ok-first.first refl
    c.in_ok-first.ensures.read in
    let p = err_from_is_err_and c.from_residual-in_err-around.result c.from_residual-in_err-around.ensures.1 in
    rw (p.1, p.2) (chain-stops (λ (r : List Row). r) (λ (l : Lists). l) (a_list m (codes "around") 0 1024) (after_around m c.args.entry c.in_ok-first.first)
    whole
    c.read_list.new.records c.in_err-around.field-0.0 c.read_list-2.new.records w1 c.in_err-around.ensures.read)

pub returns-in_err-state-clause-read : goal.returns-in_err-state-clause-read
returns-in_err-state-clause-read c =
    let m = c.args.memories in
    let f = c.in_ok-first.first in
    let b = c.in_ok-around.around in
    let k3 = λ (state : List Row). done (record { entry = c.args.entry; first = f; around = b; state = state }) in
    let whole = run (after_entry m c.args.entry) c.args.records.now in
    let w1 = chain-ok (a_list m (codes "first") 0 1024) (after_first m c.args.entry) whole c.args.records.now c.read_list.new.records f refl
    c.in_ok-first.ensures.read in
    let w2 = chain-ok (a_list m (codes "around") 0 1024) (after_around m c.args.entry f) whole c.read_list.new.records c.read_list-2.new.records b w1
    c.in_ok-around.ensures.read in
    let p = err_from_is_err_and c.from_residual-in_err-state.result c.from_residual-in_err-state.ensures.1 in
    rw (p.1, p.2) (chain-stops (λ (r : List Row). r) (λ (l : Lists). l) (a_list m (codes "state") 0 1024) k3 whole c.read_list-2.new.records
    c.in_err-state.field-0.0 c.read_list-3.new.records w2 c.in_err-state.ensures.read)

pub returns : goal.returns
returns c =
    let m = c.args.memories in
    let f = c.in_ok-first.first in
    let b = c.in_ok-around.around in
    let k3 = λ (state : List Row). done (record { entry = c.args.entry; first = f; around = b; state = state }) in
    let whole = run (after_entry m c.args.entry) c.args.records.now in
    let w1 = chain-ok (a_list m (codes "first") 0 1024) (after_first m c.args.entry) whole c.args.records.now c.read_list.new.records f refl
    c.in_ok-first.ensures.read in
    let w2 = chain-ok (a_list m (codes "around") 0 1024) (after_around m c.args.entry f) whole c.read_list.new.records c.read_list-2.new.records b w1
    c.in_ok-around.ensures.read in
    record {
      read = chain-ok (a_list m (codes "state") 0 1024) k3 whole c.read_list-2.new.records c.read_list-3.new.records c.in_ok-state.state w2
          c.in_ok-state.ensures.read;
      same = refl;
      first = c.in_ok-first.ensures.counted;
      around = c.in_ok-around.ensures.counted;
      state = c.in_ok-state.ensures.counted;
    }
