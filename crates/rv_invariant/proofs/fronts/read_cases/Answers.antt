use Rattle.std.proofs.{Common.◌≡◌, Common.◌^◌, Common.List, Common.length, Common.refl, Common.subst, lemmas.Result.err_from_is_err_and}
use Rattle.std.specs.Prelude.{Ok, Err}
use Rattle.rv_rows.specs.declared.farkas.Multipliers.{Multipliers}
use Rattle.rv_invfile.specs.{Readers.Reads, Readers.run, Parts.times}
use Rattle.rv_invariant.specs.{declared.fronts.Front.Front, Certificates.after_lists, Certificates.after_proofs, Pieces.a_proof}
use Rattle.rv_invariant.proofs.Choices.{chain-ok, chain-stops, chain-last}
use Rattle.rv_invariant.proofs.fronts.read_cases.Goals as goal

pub returns-in_err-by_entry-clause-read : goal.returns-in_err-by_entry-clause-read
returns-in_err-by_entry-clause-read c =
    let ls = c.args.lists in
    let a = c.args.records.now in
    let part = times (length ls.state) (a_proof (2 ^ 30) (length ls.entry)) in
    let whole = run (after_lists c.args.control ls) a in
    let p = err_from_is_err_and c.from_residual.result c.from_residual.ensures.1 in
    let e = c.in_err-by_entry.field-0.0 in
    let there = subst (λ n. Reads (λ (m : List Multipliers). m) (run (times n (a_proof (2 ^ 30) (length ls.entry))) a) (Err e) c.read_proofs.new.records)
    c.len.ensures
    (subst (λ n. Reads (λ (m : List Multipliers). m) (run (times c.len.result (a_proof (2 ^ 30) n)) a) (Err e) c.read_proofs.new.records) c.len-premises.ensures
    c.in_err-by_entry.ensures) in
    rw (p.1, p.2)
    (chain-stops (λ (m : List Multipliers). m) (λ (f : Front). f) part (after_proofs c.args.control ls) whole a e c.read_proofs.new.records refl there)

pub returns : goal.returns
returns c =
    let ls = c.args.lists in
    let a = c.args.records.now in
    let part = times (length ls.state) (a_proof (2 ^ 30) (length ls.entry)) in
    let whole = run (after_lists c.args.control ls) a in
    let by = c.in_ok-by_entry.by_entry in
    let there = subst (λ n. run (times n (a_proof (2 ^ 30) (length ls.entry))) a ≡ Ok (by, c.read_proofs.new.records)) c.len.ensures
    (subst (λ n. run (times c.len.result (a_proof (2 ^ 30) n)) a ≡ Ok (by, c.read_proofs.new.records)) c.len-premises.ensures c.in_ok-by_entry.ensures) in
    let w1 = chain-ok part (after_proofs c.args.control ls) whole a c.read_proofs.new.records by refl there in
    record {
      read = chain-last (λ (f : Front). f) (after_proofs c.args.control ls by) whole c.read_proofs.new.records c.read_further.result
          c.read_further.new.records w1 c.read_further.ensures.read;
      same = c.read_further.ensures.same;
    }
