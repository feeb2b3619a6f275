use Rattle.std.proofs.{Common.◌≡◌, Common.◌^◌, Common.List, Common.length, Common.refl, Common.subst, lemmas.Result.err_from_is_err_and}
use Rattle.std.specs.Prelude.{Ok, Err}
use Rattle.rv_rows.specs.declared.farkas.Multipliers.{Multipliers}
use Rattle.rv_invfile.specs.{Readers.Reads, Readers.run, Parts.times}
use Rattle.rv_invariant.specs.{declared.fronts.Front.Front, Certificates.second_rule, Certificates.count_rule, Pieces.a_proof}
use Rattle.rv_invariant.proofs.Choices.{chain-ok, chain-stops, chain-last}
use Rattle.rv_invariant.proofs.fronts.read_second.Goals as goal

pub returns-in_err-by_first-clause-read : goal.returns-in_err-by_first-clause-read
returns-in_err-by_first-clause-read c =
    let ls = c.args.lists in
    let a = c.args.records.now in
    let part = times (length ls.state) (a_proof (2 ^ 30) (length ls.first)) in
    let whole = run (second_rule c.args.control ls c.args.by_entry (length ls.state)) a in
    let p = err_from_is_err_and c.from_residual.result c.from_residual.ensures.1 in
    let e = c.in_err-by_first.field-0.0 in
    let there = subst (λ n. Reads (λ (m : List Multipliers). m) (run (times n (a_proof (2 ^ 30) (length ls.first))) a) (Err e) c.read_proofs.new.records)
    c.len.ensures
    (subst (λ n. Reads (λ (m : List Multipliers). m) (run (times c.len.result (a_proof (2 ^ 30) n)) a) (Err e) c.read_proofs.new.records) c.len-premises.ensures
    c.in_err-by_first.ensures) in
    rw (p.1, p.2)
    (chain-stops (λ (m : List Multipliers). m) (λ (f : Front). f) part (count_rule c.args.control ls c.args.by_entry 1)
    whole a e c.read_proofs.new.records refl there)

pub returns : goal.returns
returns c =
    let ls = c.args.lists in
    let a = c.args.records.now in
    let part = times (length ls.state) (a_proof (2 ^ 30) (length ls.first)) in
    let whole = run (second_rule c.args.control ls c.args.by_entry (length ls.state)) a in
    let by = c.in_ok-by_first.by_first in
    let there = subst (λ n. run (times n (a_proof (2 ^ 30) (length ls.first))) a ≡ Ok (by, c.read_proofs.new.records)) c.len.ensures
    (subst (λ n. run (times c.len.result (a_proof (2 ^ 30) n)) a ≡ Ok (by, c.read_proofs.new.records)) c.len-premises.ensures c.in_ok-by_first.ensures) in
    let w1 = chain-ok part (count_rule c.args.control ls c.args.by_entry 1) whole a c.read_proofs.new.records by refl there in
    record {
      read = chain-last (λ (f : Front). f) (count_rule c.args.control ls c.args.by_entry 1 by) whole c.read_proofs.new.records c.read_number.result
          c.read_number.new.records w1 c.read_number.ensures.read;
      same = c.read_number.ensures.same;
    }
