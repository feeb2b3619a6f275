use Rattle.std.proofs.{Common.ℕ, Common.refl, lemmas.Result.err_from_is_err_and}
use Rattle.std.specs.Prelude.{codes}
use Rattle.rv_invfile.specs.{Rules.Rule, Rules.done, Readers.run, Forms.counts}
use Rattle.rv_invariant.specs.{declared.fronts.Front.Front, Certificates.count_rule}
use Rattle.rv_invariant.proofs.Choices.{chain-ok, chain-stops}
use Rattle.rv_invariant.proofs.fronts.read_number.Goals as goal

pub returns-in_err-cases-clause-read : goal.returns-in_err-cases-clause-read
returns-in_err-cases-clause-read c =
    let k1 : ℕ → Rule Front = λ n. done (record {
      control = c.args.control;
      lists = c.args.lists;
      by_entry = c.args.by_entry;
      by_first = c.args.by_first;
      cases = n;
    }) in
    let a = c.args.records.now in
    let whole = run (count_rule c.args.control c.args.lists c.args.by_entry c.args.least c.args.by_first) a in
    let p = err_from_is_err_and c.from_residual.result c.from_residual.ensures.1 in
    rw (p.1, p.2) (chain-stops (λ (n : ℕ). n) (λ (f : Front). f) (counts (codes "cases") c.args.least 4294967295) k1 whole a c.in_err-cases.field-0.0
    c.read_count.new.records refl c.in_err-cases.ensures.read)

pub returns : goal.returns
returns c =
    let k1 : ℕ → Rule Front = λ n. done (record {
      control = c.args.control;
      lists = c.args.lists;
      by_entry = c.args.by_entry;
      by_first = c.args.by_first;
      cases = n;
    }) in
    let a = c.args.records.now in
    let whole = run (count_rule c.args.control c.args.lists c.args.by_entry c.args.least c.args.by_first) a in
    record {
      read = chain-ok (counts (codes "cases") c.args.least 4294967295) k1 whole a c.read_count.new.records c.in_ok-cases.cases refl c.in_ok-cases.ensures.read;
      same = refl;
    }
