use Rattle.std.proofs.{Common.◌≡◌, Common.◌+◌, Common.List, Common.length, Common.refl, Common.◌∙◌, Common.subst, lemmas.Result.err_from_is_err_and}
use Rattle.std.specs.Prelude.{codes, false, Ok, Err, ℕ}
use Rattle.rv_diagram.specs.declared.frozen.Frozen.{Frozen}
use Rattle.rv_proofs.specs.declared.certificate.Entry.{Entry}
use Rattle.rv_rows.specs.declared.farkas.Multipliers.{Multipliers}
use Rattle.rv_invfile.specs.Readers.{Reads, run}
use Rattle.rv_invfile.proofs.Bound.{bind_ok, bind_err}
use Rattle.rv_invariant.specs.Certificates.{a_target, go_rule, go_entry, known_at, reach_rule, whole_go}
use Rattle.rv_invariant.specs.{Continues.Continues, Continues.Then, Pieces.a_diagram}
use Rattle.rv_invariant.proofs.{Going.go-to-reach, Choices.continues-part, Choices.continues-stop}
use Rattle.rv_invariant.proofs.entries.read_go.Goals as goal

pub returns-in_err-target : goal.returns-in_err-target
returns-in_err-target c =
    let s = c.args.shape in
    let known = c.args.known.now in
    let n = length known in
    let st = c.args.state in
    let a = c.args.records.now in
    let p = err_from_is_err_and c.from_residual.result c.from_residual.ensures.1 in
    record {
      read = rw (p.1, p.2) (continues-part (λ (t : ℕ). t) (run (a_target n) a) (λ (next : Then Entry). run (whole_go s n st next known) a)
          c.in_err-target.field-0.0 known c.read_target.new.records c.read_target.new.records
          (subst (λ m. Reads (λ (t : ℕ). t) (run (a_target m) a) (Err c.in_err-target.field-0.0) c.read_target.new.records) c.len.ensures
          c.in_err-target.ensures.read) (λ next w x h. bind_err (a_target n) (λ target. go_rule s st target next known) a x h));
      same = refl;
    }

pub returns-in_err-condition : goal.returns-in_err-condition
returns-in_err-condition c =
    let s = c.args.shape in
    let known = c.args.known.now in
    let n = length known in
    let st = c.args.state in
    let a = c.args.records.now in
    let t = c.in_ok-target.target in
    let p = err_from_is_err_and c.from_residual-in_err-condition.result c.from_residual-in_err-condition.ensures.1 in
    record {
      read = rw (p.1, p.2) (continues-part (λ (d : Frozen). d) (run (a_diagram s (codes "when") false) c.read_target.new.records)
          (λ (next : Then Entry). run (whole_go s n st next known) a) c.in_err-condition.field-0.0 known c.read_diagram.new.records c.read_diagram.new.records
          c.in_err-condition.ensures (λ next w x h. bind_ok (a_target n) (λ target. go_rule s st target next known) a c.read_target.new.records t
          (subst (λ m. run (a_target m) c.args.records.now ≡ Ok (c.in_ok-target.target, c.read_target.new.records)) c.len.ensures
          c.in_ok-target.ensures.read)
          ∙ bind_err (a_diagram s (codes "when") false) (λ when. reach_rule (st + s.tests) t (known_at known t) (λ reach. next (go_entry t when reach)) known)
          c.read_target.new.records x h));
      same = refl;
    }

pub returns-in_err-reach : goal.returns-in_err-reach
returns-in_err-reach c =
    let s = c.args.shape in
    let known = c.args.known.now in
    let n = length known in
    let st = c.args.state in
    let a = c.args.records.now in
    let t = c.in_ok-target.target in
    let d = c.in_ok-condition.condition in
    let p = err_from_is_err_and c.from_residual-in_err-reach.result c.from_residual-in_err-reach.ensures.1 in
    record {
      read = rw (p.1, p.2) (continues-stop (λ (next : Then Entry). run (whole_go s n st next known) a)
          (λ (next : Then (List Multipliers)). run (reach_rule (st + s.tests) t (known_at known t) next known) c.read_diagram.new.records)
          c.in_err-reach.field-0.0 c.read_reach.new.known c.read_reach.new.known c.read_reach.new.records c.read_reach.new.records
          (λ next w. (
            λ reach. next (go_entry t d reach),
            λ reach k. w (go_entry t d reach) k,
            go-to-reach s n st known next a c.read_target.new.records
                c.read_diagram.new.records t d (subst (λ m. run (a_target m) c.args.records.now ≡ Ok (c.in_ok-target.target, c.read_target.new.records))
                c.len.ensures c.in_ok-target.ensures.read) c.in_ok-condition.ensures,
          ))
          (subst (λ m. Continues (λ (next : Then (List Multipliers)). run (reach_rule (st + m) t (known_at known t) next known) c.read_diagram.new.records)
          (Err c.in_err-reach.field-0.0) c.read_reach.new.known c.read_reach.new.records) c.from.ensures c.in_err-reach.ensures.read));
      same = c.read_reach.ensures.same;
    }

pub returns : goal.returns
returns c =
    let s = c.args.shape in
    let known = c.args.known.now in
    let t = c.in_ok-target.target in
    let d = c.in_ok-condition.condition in
    record {
      read = λ next w. go-to-reach s (length known) c.args.state known next c.args.records.now c.read_target.new.records c.read_diagram.new.records t d
          (subst (λ m. run (a_target m) c.args.records.now ≡ Ok (c.in_ok-target.target, c.read_target.new.records)) c.len.ensures c.in_ok-target.ensures.read)
          c.in_ok-condition.ensures
          ∙ (subst (λ m. Continues (λ (next : Then (List Multipliers)). run (reach_rule (c.args.state + m) t (known_at known t) next known)
          c.read_diagram.new.records) (Ok c.in_ok-reach.reach) c.read_reach.new.known c.read_reach.new.records) c.from.ensures c.in_ok-reach.ensures.read)
          (λ reach. next (go_entry t d reach)) (λ reach k. w (go_entry t d reach) k);
      same = c.read_reach.ensures.same;
    }
