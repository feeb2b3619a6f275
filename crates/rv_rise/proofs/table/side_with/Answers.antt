use Rattle.std.proofs.{Common.◌≡◌, Common.◌∙◌, Common.refl, Common.arith, Common.rules, Common.FitsSigned, lemmas.Int.to_z-of_z}
use Rattle.std.specs.Int.{w128}
use Rattle.rv_rise.proofs.Tabling.{pattern_of}
use Rattle.rv_rise.proofs.table.side_with.Goals as goal

pub returns : goal.returns
returns c =
    let one_fits : FitsSigned w128 c.args.one = search rules in
    let other_fits : FitsSigned w128 c.args.other = search rules in
    let e : c.loop-column.column ≡ c.args.memories = omega (arith, c.loop-column-test.false, c.loop-column.auto) in
    let last = simp to_z-of_z at c.loop-column.invariant.last in
    let start = simp to_z-of_z at c.loop-column.invariant.start in
    pattern_of c.args.memories c.args.first c.args.one c.args.second c.args.other _ c.requires.order c.requires.known
    (c.loop-column.invariant.size ∙ e) refl
    (λ n l is. last n (omega (arith, l, e)) is)
    (λ n l ne is. start n (omega (arith, l, e)) ne is)
    (λ n l ne me. c.loop-column.invariant.none n (omega (arith, l, e)) ne me)
