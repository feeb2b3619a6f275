use Rattle.std.proofs.Common.{◌≡◌, ◌∙◌, ◌++◌, ◌∷◌, [], List, Option, ℤ, length, take, ap, sym, arith}
use Rattle.std.proofs.lemmas.List.{take_all}
use Rattle.rv_rows.specs.declared.linear.Row.{Row}
use Rattle.rv_rise.specs.Sides.{rows_with}
use Rattle.rv_rise.proofs.Listing.{rows_with-nil, rows_with-more}
use Rattle.rv_rise.proofs.rows.rows_of.Goals as goal

pub loop-place-init : goal.loop-place-init
loop-place-init c = c.new-rows.ensures ∙ sym rows_with-nil

pub loop-place-preserved : goal.loop-place-preserved
loop-place-preserved c =
    c.in_ok-note_row.ensures
    ∙ ap (λ (rs : List Row). rs ++ rows_with (c.at-side.result.now ∷ []) (c.at-limit.result.now ∷ [])) c.loop-place.invariant
    ∙ rows_with-more c.args.sides.now c.args.limits.now c.loop-place.place c.at-side.result.now c.at-limit.result.now c.requires c.at-side.ensures.value
    c.at-limit.ensures.value

pub returns : goal.returns
returns c =
    let e : c.loop-place.place ≡ length c.args.sides.now = omega (arith, c.loop-place-test.false, c.loop-place.auto, c.len-place-end.ensures) in
    c.loop-place.invariant ∙ ap (λ (rs : List Row). rows_with rs (take c.loop-place.place c.args.limits.now))
    (take_all c.loop-place.place c.args.sides.now (omega (arith, e)))
    ∙ ap (λ (os : List (Option ℤ)). rows_with c.args.sides.now os) (take_all c.loop-place.place c.args.limits.now (omega (arith, e, c.requires)))
