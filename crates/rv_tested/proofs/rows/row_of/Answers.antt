use Rattle.std.proofs.Common.{◌≡◌, ◌∙◌, ap, sym}
use Rattle.rv_rows.specs.Arithmetic.{test_row}
use Rattle.rv_control.specs.Tightening.{tightened}
use Rattle.rv_tested.proofs.rows.row_of.Goals as goal
use Rattle.rv_tested.proofs.rows.row_of.Goals.{then-truth+in_ok-row, else-truth+in_ok-row-2}

pub returns : goal.returns
returns c =
    let is : c.if-truth.row ≡ test_row c.args.truth c.args.form.now =
    elim c.if-truth.branch [
      | then-truth+in_ok-row w ↦ w.row-is ∙ w.in_ok-row.ensures ∙ ap (λ b. test_row b c.args.form.now) (sym w.if-truth.true)
      | else-truth+in_ok-row-2 w ↦ w.row-is ∙ w.in_ok-row-2.ensures ∙ ap (λ b. test_row b c.args.form.now) (sym w.if-truth.false)
    ] in
    c.tightened_rows.ensures.one c.if-truth.row c.tighten.new.self (tightened c.if-truth.row) c.tighten.ensures.exact
    (c.rows_are_tightened.ensures c.if-truth.row)
    ∙ ap tightened is
