use Rattle.std.proofs.{Common.rules, Common.FitsSigned, Common.pos, Common.◌≤ℤ◌, Common.arith, lemmas.Int.to_z-of_z, lemmas.Int.ints}
use Rattle.std.specs.Int.{w128}
use Rattle.rv_pairs.proofs.Keying.{rest_of}
use Rattle.rv_pairs.proofs.keys.remainder.Goals as goal

pub returns-clause-rest : goal.returns-clause-rest
returns-clause-rest c =
    let number_fits : FitsSigned w128 c.args.number = search rules in
    let rest_fits : FitsSigned w128 c.rem_euclid.result = search rules in
    let value = simp to_z-of_z at c.rem_euclid.ensures.value in
    let low : pos 0 ≤ℤ c.rem_euclid.result = omega (arith, ints, c.rem_euclid.ensures.lower_bound) in
    simp to_z-of_z (rest_of c.args.number c.rem_euclid.result value low)
