use Rattle.std.proofs.{Common.FitsSigned, Common.rules, lemmas.Int.to_z-of_z}
use Rattle.std.specs.Int.{w128}
use Rattle.rv_poly.proofs.ImageLemmas.{opposite-fits}
use Rattle.rv_poly.proofs.image.form_of.Goals as goal

pub returns-clause-constant : goal.returns-clause-constant
returns-clause-constant c =
    let fits : FitsSigned w128 c.args.row.bound = search rules in
    let back = opposite-fits c.args.row.bound c.requires in
    simp to_z-of_z
