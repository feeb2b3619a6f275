use Rattle.std.proofs.Common.{◌≡◌, ◌+◌, ◌-◌, ◌++◌, ◌∷◌, [], zero, suc, List, length, arith, sym, ap, ◌∙◌}
use Rattle.std.proofs.lemmas.Result.{err_from_is_err_and}
use Rattle.std.specs.Prelude.{◌&&◌, not}
use Rattle.rv_proofs.specs.declared.certificate.Entry.{Entry}
use Rattle.rv_invfile.specs.Readers.{run}
use Rattle.rv_invariant.specs.{Certificates.entries_rule, Certificates.entry_rule, Certificates.is_turn, Certificates.kinds_at, Continues.Then}
use Rattle.rv_invariant.proofs.{Going.entries-none, Going.entries-suc, Going.entries-wait, Choices.continues-stop}
use Rattle.rv_invariant.proofs.entries.read_entries.Goals as goal

pub returns-in_err-entry : goal.returns-in_err-entry
returns-in_err-entry c =
    let shape = c.args.shape in
    let n = length c.args.known.now in
    let o = c.args.outline in
    let still = c.loop-done.still in
    let left = c.args.count - (c.loop-done.done + 1) in
    let p = err_from_is_err_and c.from_residual.result c.from_residual.ensures.1 in
    let e : c.args.count - c.loop-done.done ≡ suc left = omega (arith, c.loop-done-test.true) in
    let same : c.args.count - c.loop-done.done - 1 ≡ left = omega arith in
    let kinds = c.kinds_at-kinds.ensures ∙ ap (kinds_at o.turns still) same in
    let size = c.loop-done.invariant.size in
    record {
      read = rw (p.1, p.2) (continues-stop (λ (next : Then (List Entry)). run (entries_rule shape n o c.args.needed c.args.count [] next c.args.known.now)
          c.args.records.now)
          (λ (next : Then Entry). run (entry_rule shape (length c.loop-done.known) o c.kinds_at-kinds.result next c.loop-done.known) c.loop-done.records)
          c.in_err-entry.field-0.0
          c.read_entry.new.known c.read_entry.new.known c.read_entry.new.records c.read_entry.new.records
          (λ next w. (
            λ x. entries_rule shape n o (still && not (is_turn x)) left (c.loop-done.entries ++ x ∷ []) next,
            λ x k. entries-wait shape n o (still && not (is_turn x)) left (c.loop-done.entries ++ x ∷ []) next k w,
            c.loop-done.invariant.kept next w
                ∙ ap (λ k. run (entries_rule shape n o still k c.loop-done.entries next c.loop-done.known) c.loop-done.records) e
                ∙ ap (λ q. run q c.loop-done.records) (entries-suc shape n o still left c.loop-done.entries next c.loop-done.known)
                ∙ ap (λ k. run (entry_rule shape n o k (λ x. entries_rule shape n o (still && not (is_turn x)) left (c.loop-done.entries ++ x ∷ []) next)
                c.loop-done.known) c.loop-done.records) (sym kinds)
                ∙ ap (λ m. run (entry_rule shape m o c.kinds_at-kinds.result
                (λ x. entries_rule shape n o (still && not (is_turn x)) left (c.loop-done.entries ++ x ∷ []) next) c.loop-done.known)
                c.loop-done.records) (sym size),
          ))
          c.in_err-entry.ensures.read);
      same = c.read_entry.ensures.same ∙ size;
    }

pub loop-done-preserved : goal.loop-done-preserved
loop-done-preserved c =
    let shape = c.args.shape in
    let n = length c.args.known.now in
    let o = c.args.outline in
    let still = c.loop-done.still in
    let left = c.args.count - (c.loop-done.done + 1) in
    let e : c.args.count - c.loop-done.done ≡ suc left = omega (arith, c.loop-done-test.true) in
    let same : c.args.count - c.loop-done.done - 1 ≡ left = omega arith in
    let kinds = c.kinds_at-kinds.ensures ∙ ap (kinds_at o.turns still) same in
    let size = c.loop-done.invariant.size in
    let x = c.in_ok-entry.entry in
    record {
      size = c.read_entry.ensures.same ∙ size;
      kept = λ next w. c.loop-done.invariant.kept next w
          ∙ ap (λ k. run (entries_rule shape n o still k c.loop-done.entries next c.loop-done.known) c.loop-done.records) e
          ∙ ap (λ q. run q c.loop-done.records) (entries-suc shape n o still left c.loop-done.entries next c.loop-done.known)
          ∙ ap (λ k. run (entry_rule shape n o k (λ x. entries_rule shape n o (still && not (is_turn x)) left (c.loop-done.entries ++ x ∷ []) next)
          c.loop-done.known) c.loop-done.records) (sym kinds)
          ∙ ap (λ m. run (entry_rule shape m o c.kinds_at-kinds.result
          (λ x. entries_rule shape n o (still && not (is_turn x)) left (c.loop-done.entries ++ x ∷ []) next) c.loop-done.known) c.loop-done.records)
          (sym size)
          ∙ c.in_ok-entry.ensures.read (λ x. entries_rule shape n o (still && not (is_turn x)) left (c.loop-done.entries ++ x ∷ []) next)
          (λ x k. entries-wait shape n o (still && not (is_turn x)) left (c.loop-done.entries ++ x ∷ []) next k w)
          ∙ ap (λ b. run (entries_rule shape n o b left (c.loop-done.entries ++ x ∷ []) next c.read_entry.new.known) c.read_entry.new.records)
          (sym c.needs_after-still.ensures)
          ∙ ap (λ l. run (entries_rule shape n o c.needs_after-still.result left l next c.read_entry.new.known) c.read_entry.new.records)
          (sym c.in_ok-push.ensures.ok);
    }

pub returns : goal.returns
returns c =
    let shape = c.args.shape in
    let n = length c.args.known.now in
    let o = c.args.outline in
    let e : c.args.count - c.loop-done.done ≡ zero = omega (arith, c.loop-done-test.false) in
    record {
      read = λ next w. c.loop-done.invariant.kept next w
          ∙ ap (λ k. run (entries_rule shape n o c.loop-done.still k c.loop-done.entries next c.loop-done.known) c.loop-done.records) e
          ∙ ap (λ q. run q c.loop-done.records) (entries-none shape n o c.loop-done.still c.loop-done.entries next c.loop-done.known);
      same = c.loop-done.invariant.size;
    }
