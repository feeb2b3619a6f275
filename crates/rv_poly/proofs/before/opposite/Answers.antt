use Rattle.std.proofs.{Common.FitsSigned, Common.rules, Common.arith, lemmas.Int.to_z-of_z}
use Rattle.std.specs.Int.{w128}
use Rattle.rv_poly.proofs.ImageLemmas.{opposite-fits}
use Rattle.rv_poly.proofs.before.opposite.Goals as goal

pub returns : goal.returns
returns c =
    let fits : FitsSigned w128 c.args.number = search rules in
    let back = opposite-fits c.args.number (let h = c.requires in omega arith) in
    simp to_z-of_z
