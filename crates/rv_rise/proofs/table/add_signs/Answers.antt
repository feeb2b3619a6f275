use Rattle.std.proofs.{Common.rules, Common.FitsSigned, lemmas.Int.to_z-of_z}
use Rattle.std.specs.Int.{w128}
use Rattle.rv_rise.proofs.table.add_signs.Goals as goal

pub returns : goal.returns
returns c =
    let one_fits : FitsSigned w128 c.args.one = search rules in
    let up = simp to_z-of_z at c.in_ok-add_side.ensures in
    let down = simp to_z-of_z at c.in_ok-add_side-2.ensures in
    record { middle = c.add_side.new.sides; up = up; down = down }
