use Rattle.std.proofs.Common.{◌≡◌, List, length, sym, subst}
use Rattle.std.proofs.lemmas.Result.{IfOk-weaker}
use Rattle.rv_rows.specs.declared.linear.Row.{Row}
use Rattle.rv_rise.specs.Sides.{rows_with}
use Rattle.rv_refine.specs.Sides.{AreLeftSides, AreLimits}
use Rattle.rv_refine.proofs.Framing.{rows_are, at_place}
use Rattle.rv_refine.proofs.rising.rows_in.Goals as goal

pub returns : goal.returns
returns c m are =
    let known = c.requires.known in
    let sides = c.args.frame.now.sides in
    let limits = c.at.result.now in
    let is : AreLimits (length sides) limits = at_place (AreLimits (length sides)) c.args.known.now.limits c.args.place limits known.each c.at.ensures.value in
    IfOk-weaker c.rows_of.result (λ (rows : List Row). rows ≡ rows_with sides limits) (AreLeftSides m)
    (λ rows e. subst (AreLeftSides m) (sym e) (rows_are m sides limits are is.small)) c.rows_of.ensures
