use Rattle.std.proofs.{Common.rules, Common.FitsSigned, lemmas.Int.to_z-of_z}
use Rattle.std.specs.Int.{w128}
use Rattle.rv_rise.proofs.table.add_side.Goals as goal

pub returns : goal.returns
returns c =
    let one_fits : FitsSigned w128 c.args.one = search rules in
    let other_fits : FitsSigned w128 c.args.other = search rules in
    let pattern = simp to_z-of_z at c.in_ok-side.ensures in
    record { side = c.in_ok-side.side; pattern = pattern; are = c.in_ok-push.ensures.ok }
