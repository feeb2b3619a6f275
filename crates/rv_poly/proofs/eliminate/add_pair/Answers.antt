use Rattle.std.proofs.{Common.◌<ℤ◌, Common.pos, Common.FitsSigned, Common.arith, Common.rules, Common.inl, lemmas.Int.ints}
use Rattle.std.specs.Int.{w128}
use Rattle.rv_rows.specs.Rows.{coefficient}
use Rattle.rv_poly.proofs.eliminate.add_pair.Goals as goal

pub returns : goal.returns
returns c =
    let fits : FitsSigned w128 c.number_at.result = search rules in
    let below : c.number_at.result <ℤ pos 0 = first_of (search rules, grind (arith, ints), omega (arith, ints)) in
    let negative : coefficient c.args.column c.args.other.now <ℤ pos 0 = rw c.number_at.ensures at below in
    inl (negative, (c.in_ok-row.row, c.in_ok-row.ensures, c.in_ok-keep.ensures))
