use Rattle.std.proofs.Common.{◌≡◌, ◌+◌, ◌++◌, ◌∙◌, ℕ, List, [], pos, length, ap, sym, refl, arith}
use Rattle.std.proofs.lemmas.Option.{get_or_from_slice_get}
use Rattle.rv_rows.specs.{declared.linear.Row.Row, Rows.row_at}
use Rattle.rv_cases.specs.Conditions.{is_in}
use Rattle.rv_pairs.specs.Labels.{active}
use Rattle.rv_pairs.proofs.Counting.{answered, answer_added, answered_row}
use Rattle.rv_pairs.proofs.labels.label_test.Goals as goal

pub loop-place-preserved : goal.loop-place-preserved
loop-place-preserved c = record {
  labels = c.in_ok-label_row.ensures.labels;
  rows = λ v. answer_added (λ k. is_in c.args.store.now.nodes c.args.answers.now (k + 1) v) (row_at c.args.rows.now) c.loop-place.place
      (active c.args.store.now.nodes c.args.labels.now v) (active c.args.store.now.nodes c.loop-place.labels v)
      (active c.args.store.now.nodes c.label_row.new.labels v) (is_in c.args.store.now.nodes c.args.answers.now (c.loop-place.place + 1) v) c.at.result.now
      (c.loop-place.invariant.rows v) (c.in_ok-label_row.ensures.rows v) refl
      (sym (get_or_from_slice_get c.args.rows.now c.loop-place.place c.at.result.now (record { coefficients = []; bound = pos 0 }) c.at.ensures.value));
}

pub returns-clause-rows : goal.returns-clause-rows
returns-clause-rows c s t is v =
    let e : c.loop-place.place ≡ length c.args.rows.now = omega (arith, c.loop-place-test.false, c.loop-place.auto, c.len-place-end.ensures) in
    c.loop-place.invariant.rows v
    ∙ ap (λ (n : ℕ). active c.args.store.now.nodes c.args.labels.now v
    ++ answered (λ k. is_in c.args.store.now.nodes c.args.answers.now (k + 1) v) (row_at c.args.rows.now) n) e
    ∙ ap (λ (rs : List Row). active c.args.store.now.nodes c.args.labels.now v ++ rs)
    (answered_row s c.args.store.now.nodes t c.args.answers.now c.args.rows.now v c.requires.answers c.requires.many is)
