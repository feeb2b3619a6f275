use Rattle.std.proofs.Common.{◌≡◌, ◌++◌, ◌∷◌, [], ◌-ℤ◌, FitsSigned, rules, ap, ◌∙◌}
use Rattle.std.proofs.lemmas.Int.{to_z-of_z}
use Rattle.std.specs.Int.{w128}
use Rattle.rv_rows.specs.{Rows.coefficient, Rows.row_at, Forms.number}
use Rattle.rv_rows.proofs.FormLemmas.{pushed, length-pushed}
use Rattle.rv_seek.proofs.sides.write_rest.Goals as goal

pub loop-column-preserved : goal.loop-column-preserved
loop-column-preserved c =
    let a_fits : FitsSigned w128 c.number_at.result = search rules in
    let b_fits : FitsSigned w128 c.coefficient_of.result = search rules in
    let d_fits : FitsSigned w128 c.difference-number.result = search rules in
    let d = simp to_z-of_z at c.difference-number.ensures in
    let here : c.difference-number.result ≡ number c.loop-column.column c.args.wanted.now -ℤ coefficient c.loop-column.column
    (row_at c.args.premises.now c.args.place) =
    d ∙ ap (λ z. z -ℤ c.coefficient_of.result) c.number_at.ensures ∙ ap (λ z. number c.loop-column.column c.args.wanted.now -ℤ z) c.coefficient_of.ensures in
    let new_is : c.push.new.self.items ≡ c.loop-column.rest.items ++ c.difference-number.result ∷ [] = simp to_z-of_z at c.in_ok-push.ensures.items in
    rw new_is (record {
      width = length-pushed c.loop-column.rest.items c.difference-number.result c.loop-column.column c.loop-column.invariant.width;
      done = pushed (λ k. number k c.args.wanted.now -ℤ coefficient k (row_at c.args.premises.now c.args.place)) c.loop-column.rest.items
          c.difference-number.result
          c.loop-column.column c.loop-column.invariant.width c.loop-column.invariant.done here;
    })
