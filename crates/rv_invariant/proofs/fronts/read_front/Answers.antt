use Rattle.std.proofs.{Common.◌≡◌, Common.refl, Common.sym, Common.subst, lemmas.Result.err_from_is_err_and}
use Rattle.std.specs.Prelude.{codes, true, Ok, Err, Result, IfOk}
use Rattle.rv_diagram.specs.declared.frozen.Frozen.{Frozen}
use Rattle.rv_invfile.specs.{Readers.run, declared.fault.FileFault.FileFault}
use Rattle.rv_invariant.specs.Certificates.{after_control, after_lists, front_rule, row_lists}
use Rattle.rv_invariant.specs.{declared.fronts.Front.Front, declared.fronts.Lists.Lists, Outlines.AreSmall, Pieces.a_diagram}
use Rattle.rv_invariant.proofs.Choices.{chain-ok, chain-stops, chain-last}
use Rattle.rv_invariant.proofs.fronts.read_front.Goals as goal

few : (r : Result Front FileFault) (ls : Lists) → AreSmall ls → IfOk r (λ f. f.lists ≡ ls) → IfOk r (λ f. AreSmall f.lists)
few (Ok f) ls a h = subst AreSmall (sym h) a
few (Err e) ls a h = tt

pub returns-in_err-control-clause-read : goal.returns-in_err-control-clause-read
returns-in_err-control-clause-read c =
    let s = c.args.shape in
    let a = c.args.records.now in
    let p = err_from_is_err_and c.from_residual.result c.from_residual.ensures.1 in
    rw (p.1, p.2) (chain-stops (λ (d : Frozen). d) (λ (f : Front). f) (a_diagram s (codes "control") true) (after_control s c.args.low c.args.high)
    (run (front_rule s c.args.low c.args.high) a) a c.in_err-control.field-0.0 c.read_diagram.new.records refl c.in_err-control.ensures)

pub returns-in_err-lists-clause-read : goal.returns-in_err-lists-clause-read
returns-in_err-lists-clause-read c =
    let s = c.args.shape in
    let a = c.args.records.now in
    let d = c.in_ok-control.control in
    let whole = run (front_rule s c.args.low c.args.high) a in
    let w1 = chain-ok (a_diagram s (codes "control") true) (after_control s c.args.low c.args.high) whole a c.read_diagram.new.records d refl
    c.in_ok-control.ensures in
    let p = err_from_is_err_and c.from_residual-in_err-lists.result c.from_residual-in_err-lists.ensures.1 in
    rw (p.1, p.2) (chain-stops (λ (l : Lists). l) (λ (f : Front). f) (row_lists s.memories c.args.low c.args.high)
    (after_lists d) whole c.read_diagram.new.records c.in_err-lists.field-0.0 c.read_lists.new.records w1 c.in_err-lists.ensures.read)

pub returns : goal.returns
returns c =
    let s = c.args.shape in
    let a = c.args.records.now in
    let d = c.in_ok-control.control in
    let ls = c.in_ok-lists.lists in
    let whole = run (front_rule s c.args.low c.args.high) a in
    let w1 = chain-ok (a_diagram s (codes "control") true) (after_control s c.args.low c.args.high) whole a c.read_diagram.new.records d refl
    c.in_ok-control.ensures in
    let w2 = chain-ok (row_lists s.memories c.args.low c.args.high) (after_lists d) whole c.read_diagram.new.records c.read_lists.new.records ls w1
    c.in_ok-lists.ensures.read in
    record {
      read = chain-last (λ (f : Front). f) (after_lists d ls) whole c.read_lists.new.records c.read_cases.result c.read_cases.new.records w2
          c.read_cases.ensures.read;
      small = few c.read_cases.result ls c.in_ok-lists.ensures.small c.read_cases.ensures.same;
    }
