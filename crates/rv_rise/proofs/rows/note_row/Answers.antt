use Rattle.std.proofs.Common.{◌∙◌, ◌++◌, ◌∷◌, [], List, Option, ℤ, FitsSigned, rules, ap, sym}
use Rattle.std.proofs.{lemmas.Int.to_z-of_z, lemmas.List.append-nil}
use Rattle.std.specs.Int.{w128}
use Rattle.rv_rows.specs.declared.linear.Row.{Row}
use Rattle.rv_rise.specs.Sides.{rows_with}
use Rattle.rv_rise.proofs.Listing.{rows_with-one, rows_with-none}
use Rattle.rv_rise.proofs.rows.note_row.Goals as goal

pub returns-in_ok-push-in-Some : goal.returns-in_ok-push-in-Some
returns-in_ok-push-in-Some c =
    let bound_fits : FitsSigned w128 c.in-Some.bound = search rules in
    let row = simp to_z-of_z at c.in_ok-row-in-Some.ensures in
    c.in_ok-push-in-Some.ensures.ok
    ∙ ap (λ (r : Row). c.args.rows.now ++ r ∷ []) row
    ∙ ap (λ (rs : List Row). c.args.rows.now ++ rs) (sym (rows_with-one c.args.side.now c.in-Some.bound))
    ∙ ap (λ (o : Option ℤ). c.args.rows.now ++ rows_with (c.args.side.now ∷ []) (o ∷ [])) (sym c.in-Some.is)

pub returns-in-None : goal.returns-in-None
returns-in-None c =
    sym (append-nil c.args.rows.now)
    ∙ ap (λ (rs : List Row). c.args.rows.now ++ rs) (sym (rows_with-none c.args.side.now))
    ∙ ap (λ (o : Option ℤ). c.args.rows.now ++ rows_with (c.args.side.now ∷ []) (o ∷ [])) (sym c.in-None.is)
