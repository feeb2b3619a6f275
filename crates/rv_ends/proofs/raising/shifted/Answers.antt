use Rattle.std.proofs.Common.{FitsSigned, ◌+ℤ◌, rules, arith}
use Rattle.std.proofs.lemmas.Int.{ints, wraps}
use Rattle.std.specs.Int.{w128}
use Rattle.rv_rows.proofs.IntLemmas.{fits_below}
use Rattle.rv_ends.proofs.raising.shifted.Goals as goal

pub returns : goal.returns
returns c h k =
    let fits : FitsSigned w128 (c.args.number +ℤ c.args.by) = fits_below (c.args.number +ℤ c.args.by) (omega (arith, ints, h, k)) in
    search (rules, wraps)
