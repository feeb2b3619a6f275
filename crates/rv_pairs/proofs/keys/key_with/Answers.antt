use Rattle.std.proofs.{Common.rules, Common.FitsSigned, lemmas.Int.to_z-of_z}
use Rattle.std.specs.Int.{w128}
use Rattle.rv_pairs.proofs.Keying.{key_more}
use Rattle.rv_pairs.proofs.keys.key_with.Goals as goal

pub returns : goal.returns
returns c numbers is =
    let number_fits : FitsSigned w128 c.args.number = search rules in
    let first = simp to_z-of_z at c.remainder.ensures.rest in
    key_more c.args.number numbers c.args.key c.remainder.result first is
