use Rattle.std.proofs.Common.{◌^◌, [], List, length, true, false, refl, sym, ap, ◌∙◌, subst}
use Rattle.rv_rows.specs.declared.farkas.Multipliers.{Multipliers}
use Rattle.rv_invfile.specs.Readers.{Reads, run}
use Rattle.rv_invariant.specs.{declared.fronts.Front.Front, Certificates.after_proofs, Certificates.count_rule, Certificates.second_rule, Outlines.takes_second}
use Rattle.rv_invariant.specs.Pieces.{by_form}
use Rattle.rv_invariant.proofs.{Choices.chain-last, Choices.sees_is, Seconds.after-run}
use Rattle.rv_invariant.proofs.fronts.read_further.Goals as goal

pub returns-then-has_second : goal.returns-then-has_second
returns-then-has_second c =
    let ls = c.args.lists in
    let a = c.args.records.now in
    let taken = ap (takes_second ls) (sees_is (by_form (2 ^ 30) (length ls.first)) a refl) ∙ sym c.has_second.ensures ∙ c.if-has_second.true in
    record {
      read = chain-last (λ (f : Front). f) (second_rule c.args.control ls c.args.by_entry (length ls.state))
          (run (after_proofs c.args.control ls c.args.by_entry) a) a c.read_second.result c.read_second.new.records
          (after-run c.args.control ls c.args.by_entry a true taken) c.read_second.ensures.read;
      same = c.read_second.ensures.same;
    }

pub returns-else-has_second : goal.returns-else-has_second
returns-else-has_second c =
    let ls = c.args.lists in
    let a = c.args.records.now in
    let left = ap (takes_second ls) (sees_is (by_form (2 ^ 30) (length ls.first)) a refl) ∙ sym c.has_second.ensures ∙ c.if-has_second.false in
    record {
      read = chain-last (λ (f : Front). f) (count_rule c.args.control ls c.args.by_entry 0 []) (run (after_proofs c.args.control ls c.args.by_entry) a) a
          c.read_number.result c.read_number.new.records
          (after-run c.args.control ls c.args.by_entry a false left)
          (subst (λ (ms : List Multipliers). Reads (λ (f : Front). f) (run (count_rule c.args.control ls c.args.by_entry 0 ms) a) c.read_number.result
          c.read_number.new.records) c.new-none.ensures c.read_number.ensures.read);
      same = c.read_number.ensures.same;
    }
