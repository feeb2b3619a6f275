use Rattle.std.proofs.Common.{◌≤◌, List, length, refl}
use Rattle.std.proofs.lemmas.Result.{IfOk-weaker}
use Rattle.rv_rows.specs.declared.linear.Row.{Row}
use Rattle.rv_rise.specs.Sides.{AreSides}
use Rattle.rv_refine.specs.Sides.{AreLeftSides}
use Rattle.rv_refine.proofs.Framing.{empty_system, sides_left}
use Rattle.rv_refine.proofs.directions.first_sides.Goals as goal

pub returns-clause-sides : goal.returns-clause-sides
returns-clause-sides c =
    let s = empty_system c.args.memories in
    IfOk-weaker c.sides_of.result (AreSides s) (AreLeftSides c.args.memories) (λ sides are. sides_left s sides are) (c.sides_of.ensures s refl)

pub returns-clause-few : goal.returns-clause-few
returns-clause-few c =
    let s = empty_system c.args.memories in
    IfOk-weaker c.sides_of.result (AreSides s) (λ (sides : List Row). length sides ≤ 1024) (λ sides are. are.few) (c.sides_of.ensures s refl)
