use Rattle.std.proofs.Common.{◌≡◌, ◌+ℤ◌, pos, FitsSigned, rules, ◌∙◌, ap, sym, ◌++◌, ◌∷◌, []}
use Rattle.std.proofs.{lemmas.Int.to_z-of_z, lemmas.Option.get_or_from_slice_get}
use Rattle.std.specs.Int.{w128}
use Rattle.rv_rows.specs.Forms.{number}
use Rattle.rv_rows.proofs.{IntLemmas.fits_below, FormLemmas.pushed, FormLemmas.length-pushed}
use Rattle.rv_rows.proofs.forms.add_columns.Goals as goal

pub loop-column-preserved : goal.loop-column-preserved
loop-column-preserved c =
    let a_fits : FitsSigned w128 c.at.result.now = search rules in
    let b_fits : FitsSigned w128 c.at-in-loop-column.result.now = search rules in
    let a_is : number c.loop-column.column c.args.a.now ≡ c.at.result.now = get_or_from_slice_get c.args.a.now c.loop-column.column c.at.result.now
    (pos 0) c.at.ensures.value in
    let b_is : number c.loop-column.column c.args.b.now ≡ c.at-in-loop-column.result.now = get_or_from_slice_get c.args.b.now c.loop-column.column
    c.at-in-loop-column.result.now (pos 0) c.at-in-loop-column.ensures.value in
    let s_is : c.at.result.now +ℤ c.at-in-loop-column.result.now ≡ number c.loop-column.column c.args.a.now +ℤ number c.loop-column.column c.args.b.now =
    ap (λ z. z +ℤ c.at-in-loop-column.result.now) (sym a_is) ∙ ap (λ z. number c.loop-column.column c.args.a.now +ℤ z) (sym b_is) in
    let s_fits : FitsSigned w128 (c.at.result.now +ℤ c.at-in-loop-column.result.now) = rw s_is
    (fits_below (number c.loop-column.column c.args.a.now +ℤ number c.loop-column.column c.args.b.now) (c.requires.room c.loop-column.column)) in
    let new_is : c.push.new.self ≡ c.loop-column.sums ++ (c.at.result.now +ℤ c.at-in-loop-column.result.now) ∷ [] = simp to_z-of_z at c.in_ok-push.ensures.ok in
    rw new_is (record {
      width = length-pushed c.loop-column.sums (c.at.result.now +ℤ c.at-in-loop-column.result.now) c.loop-column.column c.loop-column.invariant.width;
      done = pushed (λ k. number k c.args.a.now +ℤ number k c.args.b.now) c.loop-column.sums (c.at.result.now +ℤ c.at-in-loop-column.result.now)
          c.loop-column.column c.loop-column.invariant.width c.loop-column.invariant.done s_is;
    })
